use Rattle.std.proofs.Common.{◌∙◌, sym}
use Rattle.redleaf_app.proofs.ObjectsLeft.{rows_push, rows_stay}
use Rattle.redleaf_app.proofs.left.objects_left.Goals as goal
use Rattle.redleaf_app.proofs.left.objects_left.Goals.{in-Some+in_ok-push, in_default}

pub objects-preserved : goal.objects-preserved
objects-preserved c = elim c.match-row.branch [
  | in-Some+in_ok-push w ↦
      let step = rows_push c.args.world.now.load c.args.world.now.state c.heap-heap.result.now c.objects.place w.in-Some.row c.objects.left.items c.is_kept.ensures c.heap-heap.ensures.agrees c.objects.invariant (sym w.in-Some.is ∙ c.row.ensures) in
      rw (w.left-is, w.in_ok-push.ensures.items, w.from.ensures) step
  | in_default w ↦
      rw w.left-is (rows_stay c.args.world.now.state c.heap-heap.result.now c.objects.place c.objects.left.items c.objects.invariant (sym w.in_default.is ∙ c.row.ensures))
]
