-- What registers hold, the kinds that they fit, and the heads that empty them.
use Rattle.std.specs.Prelude.{ℕ, ◌+◌, ◌==◌, [], ◌∷◌, ◌≡◌, List, Option, None, slice_set, Bool, true, false, Some, length, map, drop, if◌then◌else◌}
use Rattle.std.specs.List.{slice_index_or, list_any}
use Rattle.rl_defs.specs.declared.code.DomainLine.TheVariants as line
use Rattle.rl_defs.specs.declared.values.Value.TheVariants as value
use Rattle.rl_defs.specs.declared.code.RegKind.TheVariants as held
use Rattle.rl_defs.specs.declared.values.Value.{Value}
use Rattle.rl_defs.specs.declared.code.Register.{Register}
use Rattle.rl_defs.specs.declared.code.RegKind.{RegKind}
use Rattle.rl_defs.specs.declared.code.HeadItem.{HeadItem}
use Rattle.rl_defs.specs.declared.code.DomainLine.{DomainLine}
use Rattle.rl_defs.specs.CodeKinds.{Kinds}
use Rattle.rl_defs.specs.Domains.{Lines}
use Rattle.rl_defs.specs.DomainValue.{Domain}

-- what each register holds
abbrev pub Registers : Type 0
Registers = List (Option Value)

abbrev pub value_in : Registers → Register → Option Value
value_in regs r = slice_index_or regs r.number None

abbrev pub with_value : Registers → Register → Option Value → Registers
with_value regs r v = slice_set regs r.number v

-- where a frame stands: a line, and what the registers hold
pub record Stand : Type 0 where
  pub at : ℕ
  pub regs : Registers

-- of which struct each object is, and of which trait each target, by their numbers
pub record Typing : Type 0 where
  pub struct_of : ℕ → ℕ
  pub trait_of : ℕ → ℕ

-- what a register holds is of its kind; it is empty exactly where its kind is
abbrev pub fits_kind : Typing → RegKind → Option Value → Bool
fits_kind types held.Empty None = true
fits_kind types held.Num (Some (value.Num n)) = true
fits_kind types (held.Own s) (Some (value.Obj o)) = types.struct_of o == s
fits_kind types (held.Lent s) (Some (value.Obj o)) = types.struct_of o == s
fits_kind types (held.Cap t) (Some (value.Cap x)) = types.trait_of x == t
fits_kind types _ _ = false

-- the registers fit these kinds
pub record Fits (types : Typing) (kinds : Kinds) (regs : Registers) : Type 0 where
  pub all : length regs ≡ 32
  pub each : (r : ℕ) → fits_kind types (slice_index_or kinds r held.Empty) (slice_index_or regs r None) ≡ true

abbrev pub is_listed : ℕ → List Register → Bool
is_listed k listed = list_any (λ r. r.number == k) listed

-- a head empties every register that it doesn't list
abbrev pub keep_from : ℕ → List Register → Registers → Registers
keep_from k listed [] = []
keep_from k listed (v ∷ regs) = (if is_listed k listed then v else None) ∷ keep_from (k + 1) listed regs

abbrev pub kept : List HeadItem → Registers → Registers
kept items regs = keep_from 0 (map (λ item. item.register) items) regs

-- control goes through the heads that stand at a place, down to the first line that is none
abbrev pub through_form : DomainLine → Stand → (Registers → Stand) → Stand
through_form (line.Head label items) here further = further (kept items here.regs)
through_form _ here further = here

abbrev pub through : Lines → ℕ → Registers → Stand
through [] at regs = record { at = at; regs = regs }
through (l ∷ ls) at regs = through_form l.form (record { at = at; regs = regs }) (through ls (at + 1))

abbrev pub behind_heads : Domain → Stand → Stand
behind_heads d s = through (drop s.at d.lines) s.at s.regs
