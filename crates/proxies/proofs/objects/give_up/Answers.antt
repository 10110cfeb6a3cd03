use Rattle.proxies.proofs.GivingUp.{gives_none, gives_up, gives_other, no_object, stays_free}
use Rattle.std.proofs.Common.{◌∙◌}
use Rattle.proxies.proofs.objects.give_up.Goals.{in-Moved, in_default}
use Rattle.proxies.proofs.objects.give_up.Goals as goal

pub args-2-init : goal.args-2-init
args-2-init c = gives_none c.args.heap.now

pub drop_object-requires-clause-root : goal.drop_object-requires-clause-root
drop_object-requires-clause-root c =
    (stays_free c.args.heap.now c.args-2.heap c.args.args.now c.args-2.arg-index c.in-Moved.object c.args-2.invariant c.is_kept.ensures c.requires.free c.requires.once c.args-2-test.true c.in-Moved.is).root

pub drop_object-requires-clause-unlent : goal.drop_object-requires-clause-unlent
drop_object-requires-clause-unlent c =
    (stays_free c.args.heap.now c.args-2.heap c.args.args.now c.args-2.arg-index c.in-Moved.object c.args-2.invariant c.is_kept.ensures c.requires.free c.requires.once c.args-2-test.true c.in-Moved.is).unlent

pub drop_object-requires-clause-stays : goal.drop_object-requires-clause-stays
drop_object-requires-clause-stays c =
    (stays_free c.args.heap.now c.args-2.heap c.args.args.now c.args-2.arg-index c.in-Moved.object c.args-2.invariant c.is_kept.ensures c.requires.free c.requires.once c.args-2-test.true c.in-Moved.is).stays

pub args-2-preserved : goal.args-2-preserved
args-2-preserved c = elim c.match-arg.branch [
  | in-Moved w ↦ gives_up c.args.heap.now c.args-2.heap c.match-arg.heap c.args.args.now c.args-2.arg-index w.in-Moved.object c.args-2.invariant c.args-2-test.true w.in-Moved.is (w.heap-is ∙ w.drop_object.ensures)
  | in_default w ↦ w.heap-is ∙ gives_other c.args.heap.now c.args-2.heap c.args.args.now c.args-2.arg-index c.args-2.invariant c.args-2-test.true (no_object _ w.in_default.not-Moved)
]
