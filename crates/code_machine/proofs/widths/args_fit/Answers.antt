use Rattle.std.proofs.Common.{sym, ◌∙◌}
use Rattle.machine_defs.specs.Instructions.{arg_fits}
use Rattle.code_machine.proofs.ByPlace.{all_fit_stop, all_fit_break}
use Rattle.code_machine.proofs.widths.args_fit.Goals as goal

pub returns-then-place-args : goal.returns-then-place-args
returns-then-place-args c = all_fit_stop arg_fits c.args.kinds.now c.args.args.now c.each.place c.if-place-args.true c.each.invariant

pub returns-then-not-arg_fits : goal.returns-then-not-arg_fits
returns-then-not-arg_fits c =
    all_fit_break arg_fits c.args.kinds.now c.args.args.now c.each.place _ _ c.each-test.true c.if-place-args.false (sym c.arg_fits.ensures ∙ c.if-not-arg_fits.true) c.each.invariant
