-- The scan of the methods of a part.
use Rattle.std.specs.Prelude.{◌≡◌, ℕ, ◌+◌, ◌<◌, Bool, true, false, Option, Some, None, slice_get, IsTrue}
use Rattle.rl_defs.specs.declared.bundle.Numbered.{Numbered}
use Rattle.rl_defs.specs.declared.idl.Idl.{Idl}
use Rattle.rl_defs.specs.declared.idl.IdlLine.{IdlLine}
use Rattle.rl_defs.specs.declared.idl.IdlLine.TheVariants as form
use Rattle.rl_defs.specs.Interfaces.{Lines}
use Rattle.rl_defs.specs.MethodRules.{FailsMethods}
use Rattle.proxy_tables.specs.Rules.{IsLowest}

-- the lowest rule at a line, none where it is no method
abbrev pub IsLowestAt : Lines → Bool → IdlLine → Option ℕ → Type 0
IsLowestAt lines marked (form.Method name params outcome) rule = IsLowest lines marked params outcome rule
IsLowestAt lines marked _ rule = rule ≡ None

abbrev pub is_mark : IdlLine → Bool
is_mark form.Idempotent = true
is_mark _ = false

-- the line before this place marks the next method
pub record MarksAt (lines : Lines) (place : ℕ) (marked : Bool) : Type 0 where
  pub mark : IsTrue marked → (m : ℕ) × (n : ℕ) × (m + 1 ≡ place) × (slice_get lines m ≡ Some (record { line = n; form = form.Idempotent }))
  pub marks : (m n : ℕ) → m + 1 ≡ place → slice_get lines m ≡ Some (record { line = n; form = form.Idempotent }) → IsTrue marked

-- no rule fails at the lines before this place
pub record NoneTo (idl : Idl) (place : ℕ) : Type 0 where
  pub none : (k : ℕ) (x : Numbered IdlLine) (r : ℕ) → k < place → slice_get idl.lines k ≡ Some x → FailsMethods idl x.line r → ⊥
