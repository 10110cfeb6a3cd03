use Rattle.std.proofs.Common.{refl, ◌∙◌, take}
use Rattle.proxies.proofs.Handing.{handed_start, hands_moved, hands_lent, hands_other, root_stays, moved_free, moved_unlent, lent_may, lent_few, neither}
use Rattle.proxies.proofs.objects.hand_over.Goals.{in-Moved, in-Lent, in_default}
use Rattle.proxies.proofs.objects.hand_over.Goals as goal

pub args-2-init : goal.args-2-init
args-2-init c = handed_start c.args.heap.now c.args.to

pub pass-requires-clause-root : goal.pass-requires-clause-root
pass-requires-clause-root c =
    root_stays c.args.heap.now c.args-2.heap (take c.args-2.arg-index c.args.args.now) c.args.to c.in-Moved.object c.args-2.invariant (moved_free c.args.heap.now.rows c.args.args.now c.args-2.arg-index c.in-Moved.object c.requires.may.moved c.args-2-test.true c.in-Moved.is).root

pub pass-requires-clause-unlent : goal.pass-requires-clause-unlent
pass-requires-clause-unlent c =
    moved_unlent c.args.heap.now c.args-2.heap c.args.args.now c.args.to c.args-2.arg-index c.in-Moved.object c.args-2.invariant c.is_kept.ensures c.requires.may c.args-2-test.true c.in-Moved.is

pub lend-requires-clause-root : goal.lend-requires-clause-root
lend-requires-clause-root c =
    root_stays c.args.heap.now c.args-2.heap (take c.args-2.arg-index c.args.args.now) c.args.to c.in-Lent.object c.args-2.invariant (lent_may c.args.heap.now.rows c.args.args.now c.args-2.arg-index c.in-Lent.object c.requires.may c.args-2-test.true c.in-Lent.is).root

pub lend-requires-clause-few : goal.lend-requires-clause-few
lend-requires-clause-few c =
    lent_few c.args.heap.now c.args-2.heap c.args.args.now c.args.to c.args-2.arg-index c.in-Lent.object c.args-2.invariant c.is_kept.ensures c.requires.may c.args-2-test.true c.in-Lent.is

pub args-2-preserved : goal.args-2-preserved
args-2-preserved c = elim c.match-arg.branch [
  | in-Moved w ↦ hands_moved c.args.heap.now c.args-2.heap c.match-arg.heap c.args.args.now c.args.to c.args-2.arg-index w.in-Moved.object c.args-2.invariant c.args-2-test.true w.in-Moved.is (w.heap-is ∙ w.pass.ensures.passed)
  | in-Lent w ↦ hands_lent c.args.heap.now c.args-2.heap c.match-arg.heap c.args.args.now c.args.to c.args-2.arg-index w.in-Lent.object c.args-2.invariant c.args-2-test.true w.in-Lent.is (w.heap-is ∙ w.lend.ensures)
  | in_default w ↦ (let none = neither _ w.in_default.not-Moved w.in_default.not-Lent in w.heap-is ∙ hands_other c.args.heap.now c.args-2.heap c.args.args.now c.args.to c.args-2.arg-index _ c.args-2.invariant c.args-2-test.true refl none.0 none.1)
]
