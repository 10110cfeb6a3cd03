use Rattle.std.proofs.Common.{◌++◌, ◌∷◌, [], ◌∙◌, length, sym, ap, arith}
use Rattle.std.proofs.lemmas.List.{length_push}
use Rattle.machine_defs.specs.declared.values.Arg.TheVariants as arg
use Rattle.machine_steps.proofs.Lending.{lends_more, lends_no_more}
use Rattle.machine_steps.proofs.frames.lent_objects.Goals as goal
use Rattle.machine_steps.proofs.frames.lent_objects.Goals.{in-Lent, in_default}

pub args-2-preserved : goal.args-2-preserved
args-2-preserved c = elim c.match-arg.branch [
  | in-Lent w ↦ record {
    so_far = w.lent-is ∙ (w.push.ensures ∙ (ap (λ os. os ++ w.in-Lent.object ∷ []) c.args-2.invariant.so_far ∙ sym (lends_more c.args.args.now c.args-2.arg-index (arg.Num 0) w.in-Lent.object c.args-2-test.true w.in-Lent.is)));
    few = omega (arith, ap length (w.lent-is ∙ w.push.ensures), length_push c.args-2.lent w.in-Lent.object);
  }
  | in_default w ↦ record {
    so_far = w.lent-is ∙ (c.args-2.invariant.so_far ∙ sym (lends_no_more c.args.args.now c.args-2.arg-index (arg.Num 0) c.args-2-test.true w.in_default.not-Lent));
    few = omega (arith, ap length w.lent-is, c.args-2.invariant.few);
  }
]
