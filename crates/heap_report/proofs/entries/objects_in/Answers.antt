use Rattle.std.proofs.Common.{◌≡◌, ◌++◌, ℕ, None, [], ◌∷◌, length, sym, ap, ◌∙◌, arith, refl}
use Rattle.std.proofs.lemmas.List.{length_push}
use Rattle.rl_defs.specs.declared.values.Value.{Value}
use Rattle.rl_defs.specs.declared.values.Value.TheVariants as value
use Rattle.machine_defs.specs.Arguments.{object_of_value}
use Rattle.heap_report.proofs.Picked.{picked, passed_over}
use Rattle.heap_report.proofs.entries.objects_in.Goals as goal
use Rattle.heap_report.proofs.entries.objects_in.Goals.{in-Obj, in_default}

holds_none : (v : Value) → ((o : ℕ) → v ≡ value.Obj o → ⊥) → object_of_value v ≡ None
holds_none (value.Num n) h = refl
holds_none (value.Obj o) h = absurd (h o refl)
holds_none (value.Cap x) h = refl

pub each-preserved : goal.each-preserved
each-preserved c =
    elim c.match-value.branch [
      | in-Obj w ↦ (let so = w.held-is ∙ (w.push.ensures ∙ (ap (λ xs. xs ++ w.in-Obj.object ∷ []) c.each.invariant.so_far ∙ sym (picked object_of_value c.args.values.now c.each.value-index (value.Num 0) w.in-Obj.object c.each-test.true (ap object_of_value w.in-Obj.is)))) in
          record { so_far = so; few = omega (arith, ap length (w.held-is ∙ w.push.ensures), length_push c.each.held w.in-Obj.object) })
      | in_default w ↦ (let so = w.held-is ∙ (c.each.invariant.so_far ∙ sym (passed_over object_of_value c.args.values.now c.each.value-index (value.Num 0) c.each-test.true (holds_none _ w.in_default.not-Obj))) in
          record { so_far = so; few = omega (arith, ap length w.held-is) })
    ]
