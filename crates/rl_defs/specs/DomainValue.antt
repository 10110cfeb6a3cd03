-- What contracts see of a checked domain.
use Rattle.std.specs.Prelude.{List}
use Rattle.rl_defs.specs.declared.bundle.Numbered.{Numbered}
use Rattle.rl_defs.specs.declared.code.DomainLine.{DomainLine}
use Rattle.rl_defs.specs.declared.tables.Tables.{Tables}

-- A domain: its lines, and the tables that its names are looked up in.
pub record Domain : Type 0 where
  pub lines : List (Numbered DomainLine)
  pub tables : Tables
