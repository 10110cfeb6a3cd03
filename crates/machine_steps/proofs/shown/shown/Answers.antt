use Rattle.std.proofs.Common.{◌≡◌, ◌≤◌, IfOk, length, sym, subst}
use Rattle.std.proofs.lemmas.List.{length-take-le}
use Rattle.machine_steps.specs.CellsShown.{heap_state}
use Rattle.machine_steps.proofs.ShownCells.{listed_within, shown_is}
use Rattle.machine_steps.proofs.shown.shown.Goals as goal

pub slice_bounds-values_of-end : goal.slice_bounds-values_of-end
slice_bounds-values_of-end c =
    sym (length-take-le c.count_shown-count.result c.cells-cells.result.now
    (subst (λ n. n ≤ length c.cells-cells.result.now) (sym c.count_shown-count.ensures) (listed_within (heap_state c.args.heap.now.rows) c.args.o 0 c.cells-cells.result.now)))

pub returns : goal.returns
returns c =
    subst (λ x. IfOk c.values_of.result (λ values. values ≡ x))
    (shown_is c.args.heap.now.rows c.is_kept.ensures.numbered c.args.o c.count_shown-count.result c.cells-cells.result.now c.cells-cells.ensures c.count_shown-count.ensures)
    c.values_of.ensures
