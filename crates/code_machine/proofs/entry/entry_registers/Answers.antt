use Rattle.std.proofs.Common.{◌∙◌, ap, Some}
use Rattle.std.specs.Prelude.{slice_set}
use Rattle.code_machine.proofs.Keeping.{set_arg}
use Rattle.code_machine.proofs.entry.entry_registers.Goals as goal

pub each-preserved : goal.each-preserved
each-preserved c = record {
  so_far =
      c.set.ensures
      ∙ (ap (λ v. slice_set c.each.registers c.each.place (Some v)) c.value_of.ensures
      ∙ set_arg c.args.args.now c.each.place _ c.each.registers c.each-test.true c.each.invariant.few c.each.invariant.so_far);
  few = c.each.invariant.few;
}
