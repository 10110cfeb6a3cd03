use Rattle.std.proofs.Common.{◌≡◌, ◌++◌, ℕ, None, [], ◌∷◌, length, sym, ap, ◌∙◌, arith, refl}
use Rattle.std.proofs.lemmas.List.{length_push}
use Rattle.machine_defs.specs.declared.values.Arg.{Arg}
use Rattle.machine_defs.specs.declared.values.Arg.TheVariants as arg
use Rattle.machine_defs.specs.Arguments.{moved_by}
use Rattle.heap_report.proofs.Picked.{picked, passed_over}
use Rattle.heap_report.proofs.entries.moved_of.Goals as goal
use Rattle.heap_report.proofs.entries.moved_of.Goals.{in-Moved, in_default}

moves_none : (a : Arg) → ((o : ℕ) → a ≡ arg.Moved o → ⊥) → moved_by a ≡ None
moves_none (arg.Num n) h = refl
moves_none (arg.Moved o) h = absurd (h o refl)
moves_none (arg.Lent o) h = refl
moves_none (arg.Cap x) h = refl

pub each-preserved : goal.each-preserved
each-preserved c =
    elim c.match-arg.branch [
      | in-Moved w ↦ (let so = w.moved-is ∙ (w.push.ensures ∙ (ap (λ xs. xs ++ w.in-Moved.object ∷ []) c.each.invariant.so_far ∙ sym (picked moved_by c.args.args.now c.each.arg-index (arg.Num 0) w.in-Moved.object c.each-test.true (ap moved_by w.in-Moved.is)))) in
          record { so_far = so; few = omega (arith, ap length (w.moved-is ∙ w.push.ensures), length_push c.each.moved w.in-Moved.object) })
      | in_default w ↦ (let so = w.moved-is ∙ (c.each.invariant.so_far ∙ sym (passed_over moved_by c.args.args.now c.each.arg-index (arg.Num 0) c.each-test.true (moves_none _ w.in_default.not-Moved))) in
          record { so_far = so; few = omega (arith, ap length w.moved-is) })
    ]
