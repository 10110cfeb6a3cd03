-- The interface part: the order of its lines, and what rules 1 and 2 refuse in it.
use Rattle.std.specs.Prelude.{ℕ, List, Option, Some, None}
use Rattle.rl_defs.specs.declared.idl.IdlLine.{IdlLine}
use Rattle.rl_defs.specs.declared.idl.IdlLine.TheVariants.{Struct, Field, Trait, Idempotent, Method, Close}
use Rattle.rl_defs.specs.Refusals.{Failing}
use Rattle.rl_defs.specs.Parts.{Grammar, FailsPart, FailsLine}
use Rattle.rl_defs.specs.IdlForms.{IsIdlLine}

-- Which block is open behind some lines.
pub data IdlBlock : Type 0 where
  Outside : IdlBlock
  InStruct : IdlBlock
  InTrait : IdlBlock
  BeforeMethod : IdlBlock

-- A struct is its head, fields and a `}`. A trait is its head, methods, each with at most one attribute directly before it, and
-- a `}`. No other line may follow.
abbrev pub next_block : IdlBlock → IdlLine → Option IdlBlock
next_block Outside (Struct name) = Some InStruct
next_block Outside (Trait name) = Some InTrait
next_block InStruct (Field name ty) = Some InStruct
next_block InStruct Close = Some Outside
next_block InTrait Idempotent = Some BeforeMethod
next_block InTrait (Method name params result) = Some InTrait
next_block InTrait Close = Some Outside
next_block BeforeMethod (Method name params result) = Some InTrait
next_block _ _ = None

abbrev pub interface_part : Grammar IdlLine IdlBlock
interface_part = record { is_line = IsIdlLine; next = next_block; outside = Outside }

-- what rules 1 and 2 refuse in an interface part
abbrev pub FailsIdl : ℕ → List (List ℕ) → Failing
FailsIdl first texts = FailsPart interface_part first texts

-- rule 1 of a line alone, which is to be a form of the interface part
abbrev pub FailsIdlLine : ℕ → List ℕ → Failing
FailsIdlLine number text = FailsLine IsIdlLine number text
