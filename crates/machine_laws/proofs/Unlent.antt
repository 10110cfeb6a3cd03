-- What a frame receives isn't lent to it.
use Rattle.std.proofs.Common.{◌≡◌, ℕ, zero, suc, ◌<◌, ◌≤◌, true, false, List, [], ◌∷◌, ◌++◌, length, Option, Some, None, slice_get, sym, subst, arith, inl, inr}
use Rattle.std.specs.List.{slice_index_or}
use Rattle.std.proofs.lemmas.Bool.{cases_Bool, eq-eqb, false_from_ne_true}
use Rattle.rl_defs.specs.declared.values.Value.{Value}
use Rattle.rl_defs.specs.declared.values.Value.TheVariants as value
use Rattle.machine_defs.specs.declared.values.Owner.{Owner}
use Rattle.machine_defs.specs.declared.values.Owner.TheVariants as owner
use Rattle.machine_defs.specs.declared.frame.FrameBody.TheVariants as body
use Rattle.rl_defs.specs.declared.load.LoadRows.{LoadRows}
use Rattle.machine_defs.specs.State.{State, StackFrame, Root, Hung, is_live, stack}
use Rattle.machine_defs.specs.Loans.{count}
use Rattle.machine_defs.specs.Arguments.{has}
use Rattle.machine_defs.specs.State.{top}
use Rattle.machine_defs.specs.Frames.{below_top}
use Rattle.machine_defs.specs.Seen.{slots, in_slot}
use Rattle.machine_defs.specs.Sound.{own_of, own_of_body}
use Rattle.machine_laws.specs.LedgerOf.{frame_entry, ledger_of}
use Rattle.machine_laws.specs.LedgerSound.{in_slots, own_in, Covered, Owned}
use Rattle.machine_laws.specs.Shape.{Laid}
use Rattle.machine_laws.specs.Registers.{own}
use Rattle.machine_laws.proofs.Objects.{found_below}
use Rattle.machine_laws.proofs.Stacks.{top_splits}
use Rattle.machine_laws.proofs.Tops.{under, entries_top}
use Rattle.machine_laws.proofs.Seats.{seats, IsIn}
use Rattle.machine_laws.proofs.Present.{lent_root, own_root, own_or_lent, seated}
use Rattle.machine_laws.proofs.Retyping.{register_has}
use Rattle.machine_laws.proofs.Sums.{sum_least}
use Rattle.machine_laws.proofs.Counts.{has_counted}
use Rattle.machine_laws.proofs.Owners.{is_of_root, is_of_le}
use Rattle.machine_laws.proofs.Parts.{content}

pub in_slots_some : (contents : List (Option ℕ)) (k o : ℕ) → content (slice_get contents k) ≡ Some o → 0 < in_slots o contents
in_slots_some [] k o is = absurd cc
in_slots_some (None ∷ contents) zero o is = absurd cc
in_slots_some (Some q ∷ contents) zero o is = let e : q ≡ o = cc in rw (eq-eqb q o e) (omega arith)
in_slots_some (None ∷ contents) (suc k) o is = in_slots_some contents k o is
in_slots_some (Some q ∷ contents) (suc k) o is = let r = in_slots_some contents k o is in omega (arith, r)

module _ (L : LoadRows) (s : State) (laid : Laid L s) (owned : Owned L (ledger_of L s)) (t : ℕ) (f : StackFrame) (on_top : top (stack s t) ≡ Some f) where
  abbrev split : stack s t ≡ below_top (stack s t) ++ f ∷ []
  split = top_splits (stack s t) f on_top

  -- the next object isn't lent
  pub next_unlent : has f.lent s.next_object ≡ false
  next_unlent = false_from_ne_true (has f.lent s.next_object) (λ lent. (
      let r = lent_root L s laid owned t s.next_object (below_top (stack s t)) [] f split lent in
      let x = seated s s.next_object (Root r.0) r.1 in
      let b = found_below 0 s.next_object s.next_object s.objects x.0 laid.objects x.1 in
      omega (arith, b.1)))

  -- nor is one that hangs
  pub hung_unlent : (v p k : ℕ) → seats s v ≡ Some (Hung p k) → has f.lent v ≡ false
  hung_unlent v p k hung = false_from_ne_true (has f.lent v) (λ lent. (let r = lent_root L s laid owned t v (below_top (stack s t)) [] f split lent in let e = r.1 in cc (hung, e)))

  -- nor is one in a slot of the frame's own instance
  pub slot_unlent : (k o : ℕ) → is_live s f.instance ≡ true → in_slot s f.instance k ≡ Some o → has f.lent o ≡ false
  slot_unlent k o lives full = false_from_ne_true (has f.lent o) (λ lent. (
      let r = lent_root L s laid owned t o (below_top (stack s t)) [] f split lent in
      let w : Owner = owner.Instance f.instance in
      let w' = Rattle.machine_laws.proofs.Present.stack_within L s laid owned t (below_top (stack s t)) [] f split in
      let slot = in_slots_some (slots s f.instance) k o full in
      let once = owned.once w o lives in
      let covered : Covered (is_live s) (seats s) (frame_entry f ∷ under s t) = subst (Covered (is_live s) (seats s)) (entries_top s t f on_top) (owned.covered t) in
      let mine : seats s o ≡ Some (Root w) = is_of_root w (seats s o) (omega (arith, slot, once)) in
      let below = covered.0 o w (has_counted f.lent o lent) mine lives in
      let in_stack : own_in w o (under s t) ≤ own_in w o ((ledger_of L s).stack t) = (let e = entries_top s t f on_top in subst (λ fs. own_in w o (under s t) ≤ own_in w o fs) (sym e) (omega arith)) in
      let in_all = sum_least (λ u. own_in w o ((ledger_of L s).stack u)) (length L.clients) t w'.0 w'.1 in
      let most = is_of_le w (seats s o) in
      omega (arith, slot, once, below, in_stack, in_all, most)))

  -- the objects of registers that have as many own ones as the frame's are in the heap
  pub registers_there : (regs settled : List (Option Value)) (line : ℕ) → f.body ≡ body.Code line regs → is_live s f.instance ≡ true → ((p : ℕ) → count p (own f.lent settled) ≡ count p (own f.lent regs))
      → (r o : ℕ) → slice_index_or settled r None ≡ Some (value.Obj o) → IsIn s o
  registers_there regs settled line is lives same r o held = elim (cases_Bool (has f.lent o)) [
    | inl lent ↦ let w = lent_root L s laid owned t o (below_top (stack s t)) [] f split lent in seated s o (Root w.0) w.1
    | inr unlent ↦
        let counted = own_or_lent f.lent (body.Code 0 settled) o (register_has settled r o held) unlent in
        let mine : 0 < count o (own_of f) = subst (λ b. 0 < count o (own_of_body f.lent b)) (sym is) (let e = same o in omega (arith, e, counted)) in
        seated s o (Root (owner.Instance f.instance)) (own_root L s laid owned t o (below_top (stack s t)) [] f split lives mine)
  ]
