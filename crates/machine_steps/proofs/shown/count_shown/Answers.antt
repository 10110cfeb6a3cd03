use Rattle.std.proofs.Common.{sym, ap, ◌∙◌}
use Rattle.machine_defs.specs.Objects.{is_zero}
use Rattle.machine_steps.specs.CellsShown.{heap_state}
use Rattle.machine_steps.proofs.ShownCells.{count_zero, count_other}
use Rattle.machine_steps.proofs.shown.count_shown.Goals as goal
use Rattle.machine_steps.proofs.shown.count_shown.Goals.{then-not-is_zero, else-not-is_zero}

pub cells-preserved : goal.cells-preserved
cells-preserved c = elim c.if-not-is_zero.branch [
  | then-not-is_zero w ↦
      w.count-is ∙ sym (count_other (heap_state c.args.heap.now.rows) c.args.o c.args.cells.now c.cells.at c.cells-test.true (sym (ap is_zero c.cell_value.ensures) ∙ (sym c.is_zero.ensures ∙ w.if-not-is_zero.true)))
  | else-not-is_zero w ↦
      w.count-is
      ∙ (c.cells.invariant
      ∙ sym (count_zero (heap_state c.args.heap.now.rows) c.args.o c.args.cells.now c.cells.at c.cells-test.true (sym (ap is_zero c.cell_value.ensures) ∙ (sym c.is_zero.ensures ∙ w.if-not-is_zero.false))))
]
