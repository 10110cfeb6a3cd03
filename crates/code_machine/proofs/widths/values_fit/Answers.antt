use Rattle.std.proofs.Common.{sym, ◌∙◌}
use Rattle.machine_defs.specs.Instructions.{value_fits}
use Rattle.code_machine.proofs.ByPlace.{all_fit_stop, all_fit_break}
use Rattle.code_machine.proofs.widths.values_fit.Goals as goal

pub returns-then-place-values : goal.returns-then-place-values
returns-then-place-values c = all_fit_stop value_fits c.args.kinds.now c.args.values.now c.each.place c.if-place-values.true c.each.invariant

pub returns-then-not-value_fits : goal.returns-then-not-value_fits
returns-then-not-value_fits c =
    all_fit_break value_fits c.args.kinds.now c.args.values.now c.each.place _ _ c.each-test.true c.if-place-values.false (sym c.value_fits.ensures ∙ c.if-not-value_fits.true) c.each.invariant
