use Rattle.std.proofs.Common.{◌≡◌, List, subst}
use Rattle.rl_defs.specs.declared.load.ClientRow.{ClientRow}
use Rattle.rl_defs.specs.BundleOrder.{bundle_of}
use Rattle.script_checker.specs.Scopes.{Scoped}
use Rattle.script_checker.specs.Verdicts.{verdict_of, rows_of, Says}
use Rattle.script_checker.proofs.Scripts.{answers, rising_clients, closed_clients}
use Rattle.script_checker.proofs.checker.check_scripts.Goals as goal

pub returns : goal.returns
returns c = λ idl.
    answers c.args.tables.now (bundle_of idl c.args.domains.now c.args.plan.now c.args.clients.now)
    (rising_clients (bundle_of c.requires.0 c.args.domains.now c.args.plan.now c.args.clients.now) c.requires.1.named.ordered)
    (closed_clients (bundle_of c.requires.0 c.args.domains.now c.args.plan.now c.args.clients.now) c.requires.1.named.ordered)
    c.rows_of.result
    (subst (λ (s : Scoped). Says {X = List ClientRow} (verdict_of s.tables s.bundle s.bundle.clients.lines) (λ rows. rows ≡ rows_of s.tables s.bundle s.bundle.clients.lines) c.rows_of.result) c.in_ok-scope.ensures c.rows_of.ensures)
