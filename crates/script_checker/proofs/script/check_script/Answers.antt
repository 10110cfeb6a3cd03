use Rattle.std.proofs.Common.{rules, Err, ◌≡◌, ◌+◌, List, length, drop, Some, refl, slice_get}
use Rattle.std.proofs.lemmas.Option.{slice_get_read}
use Rattle.rl_defs.specs.declared.load.Command.{Command}
use Rattle.rl_defs.proofs.Places.{drop_at}
use Rattle.script_checker.specs.Known.{nothing}
use Rattle.script_checker.specs.Verdicts.{broken, refusal_at, verdict}
use Rattle.script_checker.proofs.Saying.{says_error, verdict_stops}
use Rattle.script_checker.proofs.script.check_script.Goals as goal

pub returns-in_err-step : goal.returns-in_err-step
returns-in_err-step c =
    let here : slice_get c.args.script.now c.each.line-index ≡ Some c.line-item.result = slice_get_read c.args.script.now (length c.args.script.now) c.each.line-index c.line-item.result refl c.each-test.true c.line-item.is in
    let same : c.from_residual.result ≡ Err c.in_err-step.field-0.0 = search rules in
    rw same (says_error {X = Unit {0}} {Y = List Command} (refusal_at c.line-item.result.line (broken c.args.scope.now.tables c.args.scope.now.bundle c.each.bindings c.line-item.result.form)) (verdict c.args.scope.now.tables c.args.scope.now.bundle nothing c.args.script.now) (λ u. Unit {0}) (λ cs. Unit {0}) c.in_err-step.field-0.0
    (λ at e. verdict_stops c.args.scope.now.tables c.args.scope.now.bundle c.each.bindings c.line-item.result (drop c.each.line-index c.args.script.now) (drop (c.each.line-index + 1) c.args.script.now) (verdict c.args.scope.now.tables c.args.scope.now.bundle nothing c.args.script.now) at (drop_at c.args.script.now c.each.line-index c.line-item.result here) c.each.invariant.first e)
    c.in_err-step.ensures)
