-- What a checked domain keeps.
use Rattle.std.specs.Prelude.{◌≡◌, ℕ, ◌≤◌, List, length, Some, slice_get, slice_range}
use Rattle.rl_defs.specs.declared.code.Register.{Register}
use Rattle.rl_defs.specs.declared.code.Instr.{Instr}
use Rattle.rl_defs.specs.declared.code.DomainLine.TheVariants as line
use Rattle.rl_defs.specs.declared.checked.Way.{Way}
use Rattle.rl_defs.specs.declared.checked.LineRow.{LineRow}
use Rattle.rl_defs.specs.DomainValue.{Domain}
use Rattle.rl_defs.specs.CodeRules.{KeepsRules}
use Rattle.rl_defs.specs.LineRows.{Names, LeadsHere, LeadsToLabel}
use Rattle.rl_defs.specs.CodeNames.{entry_at}

-- the registers that are emptied on a way
abbrev pub emptied_on : List Register → Way → List Register
emptied_on pool way = slice_range pool way.from way.to

-- the part of the pool that a way names is there
pub record IsWithin (pool : List Register) (way : Way) : Type 0 where
  pub ordered : way.from ≤ way.to
  pub inside : way.to ≤ length pool

-- A row is right for a line.
pub record IsRow (d : Domain) (pool : List Register) (n : ℕ) (row : LineRow) : Type 0 where
  pub here_within : IsWithin pool row.here
  pub jump_within : IsWithin pool row.jump
  pub here : LeadsHere d n row.here.line (emptied_on pool row.here)
  pub names : (k : ℕ) (i : Instr) → slice_get d.lines n ≡ Some (record { line = k; form = line.Code i }) → Names d n i row.number row.of row.label
  pub jump : (k : ℕ) (i : Instr) → slice_get d.lines n ≡ Some (record { line = k; form = line.Code i }) → LeadsToLabel d n i row.jump.line (emptied_on pool row.jump)

-- The domain keeps the rules, each line has its row, and each method of its trait the place of its function.
pub record IsChecked (d : Domain) (rows : List LineRow) (pool : List Register) (entries : List ℕ) : Type 0 where
  pub keeps : KeepsRules d
  pub one_each : length rows ≡ length d.lines
  pub each : (n : ℕ) (row : LineRow) → slice_get rows n ≡ Some row → IsRow d pool n row
  pub begins : (m place : ℕ) → entry_at d m ≡ Some place → slice_get entries m ≡ Some place
