-- The load of a bundle, put together from the rows of its plan and of its clients.
use Rattle.std.proofs.Common.{◌≡◌, List, [], ◌∷◌, map, refl, sym, ap, ◌∙◌}
use Rattle.rl_defs.specs.declared.bundle.Bundle.{Bundle}
use Rattle.rl_defs.specs.declared.code.DomainText.{DomainText}
use Rattle.rl_defs.specs.declared.tables.Tables.{Tables}
use Rattle.rl_defs.specs.declared.load.LoadRows.{LoadRows}
use Rattle.rl_defs.specs.declared.load.LoadRow.{LoadRow}
use Rattle.rl_defs.specs.declared.load.ClientRow.{ClientRow}
use Rattle.rl_defs.specs.DomainValue.{Domain}
use Rattle.rl_defs.specs.LoadOf.{load_of, clients_of, checked_with}
use Rattle.rl_defs.specs.BundleOrder.{text_of, bundle_of}
use Rattle.plan_checker.specs.declared.rows.PlanRows.{PlanRows}
use Rattle.plan_checker.specs.Rows.{AreRowsOf}
use Rattle.domain_loader.specs.Phases.{load_with}

abbrev pub put_together : Tables → List Domain → PlanRows → List ClientRow → LoadRows
put_together tables domains rows clients = record {
  tables = tables;
  domains = domains;
  loads = rows.loads;
  shadows = rows.shadows;
  clients = clients;
  order = rows.order;
  fuel = rows.fuel;
  device_load = rows.device_load;
  blocks = rows.blocks;
}

pub is_load : (tables : Tables) (domains : List Domain) (b : Bundle) (rows : PlanRows) (clients : List ClientRow) → AreRowsOf b rows → clients ≡ clients_of tables b → put_together tables domains rows clients ≡ load_with tables domains b
is_load tables domains b rows clients are is =
    let a = are.loads_are in
    let s = are.shadows_are in
    let o = are.order_is in
    let f = are.fuel_is in
    let d = are.device_is in
    let k = are.blocks_are in
    cc

-- checking a text keeps it
pub texts_stay : (tables : Tables) (texts : List DomainText) → map text_of (map (checked_with tables) texts) ≡ texts
texts_stay tables [] = refl
texts_stay tables (t ∷ ts) = ap (λ (more : List DomainText). t ∷ more) (texts_stay tables ts)
