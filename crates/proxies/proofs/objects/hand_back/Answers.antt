use Rattle.std.proofs.Common.{◌∙◌}
use Rattle.proxies.proofs.HandingBack.{back_none, back_object, back_other, back_unlent, is_no_object}
use Rattle.proxies.proofs.objects.hand_back.Goals.{in-Obj, in_default}
use Rattle.proxies.proofs.objects.hand_back.Goals as goal

pub results-init : goal.results-init
results-init c = back_none c.args.heap.now c.args.to c.args.ended

pub pass-requires-clause-root : goal.pass-requires-clause-root
pass-requires-clause-root c =
    (back_unlent c.args.heap.now c.results.heap c.args.results.now c.args.to c.args.ended c.results.result-index c.in-Obj.object c.results.invariant c.requires.unlent c.results-test.true c.in-Obj.is).root

pub pass-requires-clause-unlent : goal.pass-requires-clause-unlent
pass-requires-clause-unlent c =
    (back_unlent c.args.heap.now c.results.heap c.args.results.now c.args.to c.args.ended c.results.result-index c.in-Obj.object c.results.invariant c.requires.unlent c.results-test.true c.in-Obj.is).unlent

pub results-preserved : goal.results-preserved
results-preserved c = elim c.match-result.branch [
  | in-Obj w ↦ back_object c.args.heap.now c.results.heap c.match-result.heap c.args.results.now c.args.to c.args.ended c.results.result-index w.in-Obj.object c.results.invariant c.results-test.true w.in-Obj.is (w.heap-is ∙ w.pass.ensures.passed)
  | in_default w ↦ w.heap-is ∙ back_other c.args.heap.now c.results.heap c.args.results.now c.args.to c.args.ended c.results.result-index c.results.invariant c.results-test.true (is_no_object _ w.in_default.not-Obj)
]
