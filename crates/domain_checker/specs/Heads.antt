-- What heads do to the registers of a frame on its way.
use Rattle.std.specs.Prelude.{◌≡◌, ℕ, ◌+◌, ◌-◌, ◌^◌, ◌≤◌, ◌==◌, nat_lt, ◌&&◌, ◌||◌, not, Bool, true, false, List, [], ◌∷◌, ◌++◌, length, drop, fold, None, Some, if◌then◌else◌, slice_get, bit_and}
use Rattle.std.specs.Int.{bit_at}
use Rattle.std.specs.Int.RustNames.{bit_or}
use Rattle.std.specs.List.{slice_index_or, list_any}
use Rattle.rl_defs.specs.declared.code.Register.{Register}
use Rattle.rl_defs.specs.declared.code.RegKind.{RegKind}
use Rattle.rl_defs.specs.declared.code.RegKind.TheVariants as kind
use Rattle.rl_defs.specs.declared.code.HeadItem.{HeadItem}
use Rattle.rl_defs.specs.declared.code.DomainLine.{DomainLine}
use Rattle.rl_defs.specs.declared.code.DomainLine.TheVariants as line
use Rattle.rl_defs.specs.Domains.{Lines}
use Rattle.rl_defs.specs.CodeKinds.{Kinds}
use Rattle.rl_defs.specs.Registers.{Registers, is_listed}
use Rattle.domain_checker.specs.declared.ways.Run.{Run}

-- A set of registers is a number: a register is in it where its bit is 1.
abbrev pub is_in : ℕ → ℕ → Bool
is_in set r = bit_at set r == 1

abbrev pub all_registers : ℕ
all_registers = 2 ^ 32 - 1

-- with the registers of these items
abbrev pub with_items : ℕ → List HeadItem → ℕ
with_items set items = fold (λ s item. bit_or s (2 ^ item.register.number)) set items

-- where control goes on that comes to a line, and the registers that each head on the way lists, by the same of the next line
abbrev pub run_form : DomainLine → ℕ → Run → Run
run_form (line.Head label items) place next = record { line = next.line; listed = bit_and next.listed (with_items 0 items) }
run_form _ place next = record { line = place; listed = all_registers }

-- the same of lines of which the first stands at this place
abbrev pub run_at : Lines → ℕ → Run
run_at [] place = record { line = place; listed = all_registers }
run_at (l ∷ ls) place = run_form l.form place (run_at ls (place + 1))

-- the runs of the lines, that of the last line first
pub record AreRuns (lines : Lines) (runs : List Run) : Type 0 where
  pub each : (k place : ℕ) (run : Run) → slice_get runs k ≡ Some run → k + 1 + place ≡ length lines → run ≡ run_at (drop place lines) place

abbrev pub is_head : DomainLine → Bool
is_head (line.Head label items) = true
is_head _ = false

-- the runs of the lines that are kept: where a line is a head, all of them are
pub record AreKept (lines : Lines) (runs : List Run) : Type 0 where
  pub right : AreRuns lines runs
  pub enough : list_any (λ l. is_head l.form) lines ≡ true → length runs ≡ length lines

-- a register that holds something is emptied where it isn't in the set
abbrev pub holds_some : RegKind → Bool
holds_some kind.Empty = false
holds_some _ = true

-- some register holds something
abbrev pub holds_any : Kinds → Bool
holds_any kinds = fold (λ found k. found || holds_some k) false kinds

abbrev pub is_emptied : ℕ → RegKind → ℕ → Bool
is_emptied set k r = holds_some k && not (is_in set r)

-- the registers that aren't in the set lose what they hold; the first of them has this number
abbrev pub keep_in : ℕ → ℕ → Registers → Registers
keep_in k set [] = []
keep_in k set (v ∷ regs) = (if is_in set k then v else None) ∷ keep_in (k + 1) set regs

-- A list grew by those of the first n registers that are emptied.
pub record Puts (kinds : Kinds) (set n : ℕ) (old new : List Register) : Type 0 where
  pub added : List Register
  pub behind : new ≡ old ++ added
  pub few : length added ≤ n
  pub are : (r : ℕ) → is_listed r added ≡ (nat_lt r n && is_emptied set (slice_index_or kinds r kind.Empty) r)

-- A list grew, by so many at most.
pub record Grows (most : ℕ) (old new : List Register) : Type 0 where
  pub added : List Register
  pub behind : new ≡ old ++ added
  pub few : length added ≤ most
