use Rattle.std.proofs.Common.{◌≡◌, List, map, Err, sym, subst}
use Rattle.rl_defs.specs.declared.bundle.Bundle.{Bundle}
use Rattle.rl_defs.specs.declared.tables.Tables.{Tables}
use Rattle.rl_defs.specs.declared.load.LoadRows.{LoadRows}
use Rattle.rl_defs.specs.DomainValue.{Domain}
use Rattle.rl_defs.specs.Refusals.{Answers, Then}
use Rattle.rl_defs.specs.TypeRules.{FailsTypes}
use Rattle.rl_defs.specs.MethodRules.{FailsMethods, TableRows}
use Rattle.rl_defs.specs.NameRules.{FailsBundleNames}
use Rattle.rl_defs.specs.Acceptance.{Next, FailsBehindTables}
use Rattle.domain_loader.specs.Phases.{IsLoadOf, IsReady}
use Rattle.domain_loader.proofs.Composing.{refused_next}
use Rattle.domain_loader.proofs.Behind.{tables_refused, behind_tables, domains_refused, plan_answers, bundle_stays, interfaces_rise, domains_in_order}
use Rattle.domain_loader.proofs.bundle.load_bundle.Goals as goal

pub returns-in-Err : goal.returns-in-Err
returns-in-Err c =
    let b = c.args.bundle in
    refused_next {X = Unit {0}} {Y = LoadRows} (FailsBundleNames b) (Next (FailsTypes b.idl) (Then (FailsMethods b.idl) (TableRows b.idl) (FailsBehindTables b))) (λ u. Unit {0}) (IsLoadOf b) c.in-Err.fault c.in-Err.ensures

pub tables_of-requires-clause-rises : goal.tables_of-requires-clause-rises
tables_of-requires-clause-rises c = interfaces_rise c.args.bundle c.requires

pub returns-in-Err-tables_of : goal.returns-in-Err-tables_of
returns-in-Err-tables_of c = tables_refused c.args.bundle c.in-Err-tables_of.fault c.in-Ok.ensures.0 c.in-Err-tables_of.ensures

pub check_domains-requires-clause-order : goal.check_domains-requires-clause-order
check_domains-requires-clause-order c = domains_in_order c.args.bundle c.requires

pub load_checked-requires : goal.load_checked-requires
load_checked-requires c =
    let b = c.args.bundle in
    let tables = c.in-Ok-tables_of.ensures.1 in
    (b.idl, subst (λ (x : Bundle). IsReady c.in-Ok-tables_of.tables x) (sym (bundle_stays b c.in-Ok-tables_of.tables c.in-Ok-check_domains.domains c.in-Ok-check_domains.ensures.1)) (record { named = record { ordered = c.requires; names = c.in-Ok.ensures.0 }; rows = tables.rows; small = tables.small }))

pub returns-in-Ok-check_domains : goal.returns-in-Ok-check_domains
returns-in-Ok-check_domains c =
    let b = c.args.bundle in
    let tables = c.in-Ok-tables_of.ensures in
    behind_tables b c.in-Ok-tables_of.tables c.load_checked.result c.in-Ok.ensures.0 tables.0 tables.1.rows (plan_answers b c.in-Ok-tables_of.tables c.in-Ok-check_domains.domains c.load_checked.result tables.1.rows c.in-Ok-check_domains.ensures.0 c.in-Ok-check_domains.ensures.1 (c.load_checked.ensures b.idl))

pub returns : goal.returns
returns c =
    let b = c.args.bundle in
    let tables = c.in-Ok-tables_of.ensures in
    behind_tables b c.in-Ok-tables_of.tables (Err c.in-Err-check_domains.fault) c.in-Ok.ensures.0 tables.0 tables.1.rows (domains_refused b c.in-Ok-tables_of.tables c.in-Err-check_domains.fault c.in-Err-check_domains.ensures)
