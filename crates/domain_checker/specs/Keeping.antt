-- What is kept beside the lines of a domain, line by line.
use Rattle.std.specs.Prelude.{◌≡◌, ℕ, ◌<◌, false, List, length, map, Some, slice_get}
use Rattle.rl_defs.specs.declared.bundle.Numbered.{Numbered}
use Rattle.rl_defs.specs.declared.code.DomainLine.{DomainLine}
use Rattle.rl_defs.specs.declared.code.Register.{Register}
use Rattle.rl_defs.specs.declared.checked.LineRow.{LineRow}
use Rattle.rl_defs.specs.declared.tables.Tables.{Tables}
use Rattle.rl_defs.specs.DomainValue.{Domain}
use Rattle.rl_defs.specs.Domains.{Lines, body_of_function}
use Rattle.rl_defs.specs.CodeNames.{methods_of, domain_trait}
use Rattle.rl_defs.specs.CodeRules.{breaks}
use Rattle.rl_defs.specs.Checked.{IsRow}

-- a row for each of the lines before this one
pub record AreRows (d : Domain) (pool : List Register) (rows : List LineRow) (n : ℕ) : Type 0 where
  pub long : length rows ≡ n
  pub each : (m : ℕ) (row : LineRow) → slice_get rows m ≡ Some row → IsRow d pool m row

-- no line before this one breaks a rule
pub record NoneBefore (d : Domain) (n : ℕ) : Type 0 where
  pub none : (m : ℕ) (l : Numbered DomainLine) (r : ℕ) → m < n → slice_get d.lines m ≡ Some l → breaks d m l.form r ≡ false

-- where the functions for the methods of the domain's trait begin
abbrev pub entries_of : Domain → List ℕ
entries_of d = map (λ m. body_of_function d.lines m.name) (methods_of d.tables (domain_trait d))

-- what is kept beside all lines
pub record IsKept (d : Domain) (pool : List Register) (rows : List LineRow) (entries : List ℕ) : Type 0 where
  pub rows_are : AreRows d pool rows (length d.lines)
  pub entries_are : entries ≡ entries_of d

abbrev pub domain : Lines → Tables → Domain
domain lines tables = record { lines = lines; tables = tables }
