use Rattle.std.proofs.Common.{◌++◌, [], ◌∷◌, take, sym, ap, ◌∙◌}
use Rattle.machine_steps.specs.CellsShown.{heap_state, values_from}
use Rattle.machine_steps.proofs.ShownCells.{values_next}
use Rattle.machine_steps.proofs.shown.values_of.Goals as goal

pub cells-preserved : goal.cells-preserved
cells-preserved c =
    c.in_ok-push.ensures.ok
    ∙ (ap (λ vs. vs ++ c.cell_value.result ∷ []) c.cells.invariant
    ∙ (ap (λ v. values_from (heap_state c.args.heap.now.rows) c.args.o 0 (take c.cells.at c.args.cells.now) ++ v ∷ []) c.cell_value.ensures ∙ sym (values_next (heap_state c.args.heap.now.rows) c.args.o c.args.cells.now c.cells.at c.cells-test.true)))
