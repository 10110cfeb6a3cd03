-- The phases of the loader, one behind the other.
use Rattle.std.specs.Prelude.{◌≡◌, ℕ, ◌<◌, ◌^◌, List, map, Some, slice_get, length, All}
use Rattle.rl_defs.specs.declared.bundle.Numbered.{Numbered}
use Rattle.rl_defs.specs.declared.bundle.Bundle.{Bundle}
use Rattle.rl_defs.specs.declared.idl.Idl.{Idl}
use Rattle.rl_defs.specs.declared.code.DomainLine.{DomainLine}
use Rattle.rl_defs.specs.declared.code.DomainText.{DomainText}
use Rattle.rl_defs.specs.declared.tables.Tables.{Tables}
use Rattle.rl_defs.specs.declared.load.LoadRows.{LoadRows}
use Rattle.rl_defs.specs.DomainValue.{Domain}
use Rattle.rl_defs.specs.CodeRules.{FailsCode}
use Rattle.rl_defs.specs.TableSizes.{AreTablesSmall}
use Rattle.rl_defs.specs.MethodRules.{TableRows}
use Rattle.rl_defs.specs.LoadOf.{load_of, loads_of, shadows_of, clients_of, order_of, fuel_of, device_of, blocks_of, checked_with}
use Rattle.rl_defs.specs.BundleOrder.{IsDomainText, Rise, numbers_of}
use Rattle.rl_defs.specs.EarlierRules.{HasNames}
use Rattle.std.specs.List.{flat_map}

-- the tables of an interface part, as large as its rules let them be
pub record AreSmallTables (idl : Idl) (tables : Tables) : Type 0 where
  pub rows : TableRows idl tables
  pub small : AreTablesSmall tables

-- domains in order: each is one, and their lines are numbered upwards
pub record InOrder (domains : List DomainText) : Type 0 where
  pub each : All IsDomainText domains
  pub few : length (flat_map (λ d. numbers_of d.lines) domains) < 2 ^ 31
  pub rises : Rise (flat_map (λ d. numbers_of d.lines) domains)

-- one of the domains fails a rule of domain code
pub record FailsDomains (tables : Tables) (domains : List DomainText) (line rule : ℕ) : Type 0 where
  pub place : ℕ
  pub text : DomainText
  pub here : slice_get domains place ≡ Some text
  pub fails : FailsCode (checked_with tables text) line rule

-- what is known before the rules of the plan are looked at
pub record IsReady (tables : Tables) (b : Bundle) : Type 0 where
  pub named : HasNames b
  pub rows : TableRows b.idl tables
  pub small : AreTablesSmall tables

-- the load of these domains, and of the plan and the clients of a bundle
abbrev pub load_with : Tables → List Domain → Bundle → LoadRows
load_with tables domains b = record {
  tables = tables;
  domains = domains;
  loads = loads_of b;
  shadows = shadows_of b;
  clients = clients_of tables b;
  order = order_of b;
  fuel = fuel_of b;
  device_load = device_of b;
  blocks = blocks_of b;
}

-- the load that a bundle stands for
pub record IsLoadOf (b : Bundle) (L : LoadRows) : Type 0 where
  pub tables : Tables
  pub rows : TableRows b.idl tables
  pub stands : L ≡ load_of tables b
