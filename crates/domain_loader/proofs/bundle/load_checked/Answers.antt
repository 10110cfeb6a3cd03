use Rattle.std.proofs.Common.{◌≡◌, List, Err, sym, subst}
use Rattle.rl_defs.specs.declared.tables.Tables.{Tables}
use Rattle.rl_defs.specs.declared.load.LoadRows.{LoadRows}
use Rattle.rl_defs.specs.declared.load.ClientRow.{ClientRow}
use Rattle.rl_defs.specs.Refusals.{Nowhere, Answers}
use Rattle.rl_defs.specs.PlanRules.{FailsPlanRules}
use Rattle.rl_defs.specs.ScriptRules.{FailsScripts}
use Rattle.rl_defs.specs.LoadOf.{clients_of}
use Rattle.rl_defs.specs.BundleOrder.{bundle_of}
use Rattle.rl_defs.specs.EarlierRules.{HasPlan}
use Rattle.plan_checker.specs.declared.rows.PlanRows.{PlanRows}
use Rattle.plan_checker.specs.Rows.{AreRowsOf}
use Rattle.domain_loader.specs.Phases.{load_with}
use Rattle.domain_loader.proofs.Composing.{refused_next, later_refused, none_of_next}
use Rattle.domain_loader.proofs.Loads.{is_load}
use Rattle.domain_loader.proofs.bundle.load_checked.Goals as goal

pub returns-in-Err : goal.returns-in-Err
returns-in-Err c = λ idl.
    let b = bundle_of idl c.args.domains c.args.plan c.args.clients in
    refused_next {X = PlanRows} {Y = LoadRows} (FailsPlanRules b) (FailsScripts c.args.tables b) (AreRowsOf b) (λ load. load ≡ load_with c.args.tables c.args.domains b) c.in-Err.fault (c.in-Err.ensures idl)

pub check_scripts-requires : goal.check_scripts-requires
check_scripts-requires c =
    let idl = c.requires.0 in
    let ready = c.requires.1 in
    let b = bundle_of idl c.args.domains c.args.plan c.args.clients in
    (idl, subst (λ (t : Tables). HasPlan t b) (sym c.get.ensures) (record { named = ready.named; plan = (c.in-Ok.ensures idl).0; rows = ready.rows; small = ready.small }))

pub returns-in-Err-check_scripts : goal.returns-in-Err-check_scripts
returns-in-Err-check_scripts c = λ idl.
    let b = bundle_of idl c.args.domains c.args.plan c.args.clients in
    let refused = subst (λ (t : Tables). Answers {X = List ClientRow} (FailsScripts t b) (λ rows. rows ≡ clients_of t b) (Err c.in-Err-check_scripts.fault)) c.get.ensures (c.in-Err-check_scripts.ensures idl) in
    later_refused {X = List ClientRow} {Y = LoadRows} (FailsPlanRules b) (FailsScripts c.args.tables b) (λ rows. rows ≡ clients_of c.args.tables b) (λ load. load ≡ load_with c.args.tables c.args.domains b) c.in-Err-check_scripts.fault (c.in-Ok.ensures idl).0 refused

pub returns : goal.returns
returns c = λ idl.
    let b = bundle_of idl c.args.domains c.args.plan c.args.clients in
    let plan = c.in-Ok.ensures idl in
    let none = subst (λ (t : Tables). Nowhere (FailsScripts t b)) c.get.ensures (c.in-Ok-check_scripts.ensures idl).0 in
    let rows = subst (λ (t : Tables). c.in-Ok-check_scripts.clients ≡ clients_of t b) c.get.ensures (c.in-Ok-check_scripts.ensures idl).1 in
    (none_of_next (FailsPlanRules b) (FailsScripts c.args.tables b) plan.0 none, is_load c.args.tables c.args.domains b c.in-Ok.rows c.in-Ok-check_scripts.clients plan.1 rows)
