-- Each row keeps the ranks.
use Rattle.std.proofs.Common.{◌≡◌, ℕ, ◌<◌, ◌≤◌, ◌==◌, Bool, true, false, cond, ◌⊎◌, List, [], ◌∷◌, refl, sym, subst, arith, inl, inr, length}
use Rattle.std.proofs.lemmas.Bool.{cases_eq, cases_Bool, ne_eqb, both_ways}
use Rattle.machine_defs.specs.declared.values.Owner.TheVariants as owner
use Rattle.machine_defs.specs.declared.entry.Entry.{Entry}
use Rattle.machine_defs.specs.declared.entry.Entry.TheVariants as entry
use Rattle.rl_defs.specs.declared.load.LoadRows.{LoadRows}
use Rattle.rl_defs.specs.Domains.{load_of_target, is_serial}
use Rattle.machine_defs.specs.Report.{same_owner}
use Rattle.machine_laws.specs.Ledger.{LedgerFrame, Ledger, at}
use Rattle.machine_laws.specs.LedgerRows.{IsFree, callee, Row}
use Rattle.machine_laws.specs.LedgerSound.{Placed}
use Rattle.machine_laws.proofs.OneStack.{at_each}
use Rattle.machine_laws.proofs.Ranks.{is_entered, RankedIn, RanksIn, Ranks, below_in, entered_frame, ranked_weaker, ranked_opened, none_entered}
use Rattle.machine_laws.proofs.Rows.{at_other}

module _ (L : LoadRows) (s : Ledger) (p : Placed L s) (k : Ranks L s) where
  -- a stack changes, into which only the instance i may come, where no other thread is
  stack_changed : (t i : ℕ) (new : List LedgerFrame) → 0 < t → t ≤ length L.clients → RankedIn L s.loads s.live new → ((j : ℕ) → is_entered j new ≡ true → (is_entered j (s.stack t) ≡ true) ⊎ (j ≡ i)) → IsFree L s t i → RanksIn L s.loads s.live (at t new s.stack)
  stack_changed t i new pos le ranked old free = record {
    ranked = λ u. at_each (λ j fs. 0 < j → j ≤ length L.clients → RankedIn L s.loads s.live fs) t new s.stack u (λ _ _. ranked) (λ _. k.ranked u);
    alone = λ a b j pa la pb lb lives serial ea eb.
        at_each (λ x fs. is_entered j fs ≡ true → x ≡ b) t new s.stack a
        (λ en. at_each (λ x fs. is_entered j fs ≡ true → t ≡ x) t new s.stack b (λ _. refl) (λ ne eo. elim (old j en) [
          | inl was ↦ k.alone t b j pos le pb lb lives serial was eo
          | inr is ↦ absurd (only b j pb lb is serial ne eo)
        ]) eb)
        (λ ne eo. at_each (λ x fs. is_entered j fs ≡ true → a ≡ x) t new s.stack b (λ en. elim (old j en) [
          | inl was ↦ k.alone a t j pa la pos le lives serial eo was
          | inr is ↦ absurd (only a j pa la is serial ne eo)
        ]) (λ _ eo'. k.alone a b j pa la pb lb lives serial eo eo') eb)
        ea;
  }
    where
      only : (b j : ℕ) → 0 < b → b ≤ length L.clients → j ≡ i → is_serial L (s.loads j) ≡ true → ((b ≡ t) → ⊥) → is_entered j (s.stack b) ≡ true → ⊥
      only b j pb lb is serial ne e = free (rw is at serial) b pb lb ne (entered_frame i (s.stack b) (rw is at e))

  ranked_at : (t : ℕ) (f : LedgerFrame) (fs : List LedgerFrame) → 0 < t → t ≤ length L.clients → s.stack t ≡ f ∷ fs → RankedIn L s.loads s.live (f ∷ fs)
  ranked_at t f fs pos le is = rw is at (k.ranked t pos le)

  -- fewer instances are alive
  fewer : (live' : ℕ → Bool) → ((i : ℕ) → live' i ≡ true → s.live i ≡ true) → RanksIn L s.loads live' s.stack
  fewer live' weaker = record {
    ranked = λ u pos le. ranked_weaker L s.loads s.live live' (s.stack u) weaker (k.ranked u pos le);
    alone = λ a b j pa la pb lb lives. k.alone a b j pa la pb lb (weaker j lives);
  }

  ended : (i : ℕ) → RanksIn L s.loads (at i false s.live) s.stack
  ended i = fewer (at i false s.live) (λ j. at_each (λ x y. y ≡ true → s.live x ≡ true) i false s.live j (λ e. absurd (cc (e))) (λ _ e. e))

  same_top : (t : ℕ) (f : LedgerFrame) (fs : List LedgerFrame) (mine : List ℕ) → 0 < t → t ≤ length L.clients → s.stack t ≡ f ∷ fs → RanksIn L s.loads s.live (at t (record f { own = mine } ∷ fs) s.stack)
  same_top t f fs mine pos le is = record {
    ranked = λ u. at_each (λ j fs. 0 < j → j ≤ length L.clients → RankedIn L s.loads s.live fs) t (record f { own = mine } ∷ fs) s.stack u (λ _ _. ranked_at t f fs pos le is) (λ _. k.ranked u);
    alone = λ a b j pa la pb lb lives serial ea eb. k.alone a b j pa la pb lb lives serial (back a j ea) (back b j eb);
  }
    where
      back : (u j : ℕ) → is_entered j (at t (record f { own = mine } ∷ fs) s.stack u) ≡ true → is_entered j (s.stack u) ≡ true
      back u j = at_each (λ x gs. is_entered j gs ≡ true → is_entered j (s.stack x) ≡ true) t (record f { own = mine } ∷ fs) s.stack u (λ e. rw is e) (λ _ e. e)

  -- the top frame leaves
  popped : (t : ℕ) (f g : LedgerFrame) (fs : List LedgerFrame) (mine : List ℕ) → 0 < t → t ≤ length L.clients → s.stack t ≡ f ∷ g ∷ fs → RanksIn L s.loads s.live (at t (record g { own = mine } ∷ fs) s.stack)
  popped t f g fs mine pos le is = record {
    ranked = λ u. at_each (λ j fs. 0 < j → j ≤ length L.clients → RankedIn L s.loads s.live fs) t (record g { own = mine } ∷ fs) s.stack u (λ _ _. (ranked_at t f (g ∷ fs) pos le is).1) (λ _. k.ranked u);
    alone = λ a b j pa la pb lb lives serial ea eb. k.alone a b j pa la pb lb lives serial (back a j ea) (back b j eb);
  }
    where
      deeper : (j : ℕ) → is_entered j (g ∷ fs) ≡ true → is_entered j (f ∷ g ∷ fs) ≡ true
      deeper j e = elim (cases_Bool (same_owner (owner.Instance j) f.party)) [ inl y ↦ rw y refl | inr y ↦ rw y e ]

      back : (u j : ℕ) → is_entered j (at t (record g { own = mine } ∷ fs) s.stack u) ≡ true → is_entered j (s.stack u) ≡ true
      back u j = at_each (λ x gs. is_entered j gs ≡ true → is_entered j (s.stack x) ≡ true) t (record g { own = mine } ∷ fs) s.stack u (λ e. rw is (deeper j e)) (λ _ e. e)

  comes : (i : ℕ) (f : LedgerFrame) (fs gs : List LedgerFrame) → f.party ≡ owner.Instance i → ((j : ℕ) → is_entered j fs ≡ true → is_entered j gs ≡ true) → (j : ℕ) → is_entered j (f ∷ fs) ≡ true → (is_entered j gs ≡ true) ⊎ (j ≡ i)
  comes i f fs gs is more j e = elim (cases_eq j i) [
    | inl same ↦ inr same
    | inr ne ↦ inl (more j (let e' : cond (j == i) true (is_entered j fs) ≡ true = rw is at e in rw (ne_eqb j i ne) at e'))
  ]

  pub ranks_row : (e : Entry) (z : Ledger) → Row L s e z → Ranks L z
  ranks_row (entry.Call t n x i m args) z r =
      let f : LedgerFrame = r.0 in
      let fs : List LedgerFrame = r.1 in
      let row = r.3 in
      let runs = row.runs in
      subst (Ranks L) (sym r.4) (stack_changed t i (callee n x i m args ∷ record f { own = r.2 } ∷ fs) runs.some runs.within
      ((λ serial. below_in L s (load_of_target L x) (record f { own = r.2 } ∷ fs) (row.rank serial)), ranked_at t f fs runs.some runs.within runs.stack)
      (comes i (callee n x i m args) (record f { own = r.2 } ∷ fs) (s.stack t) refl (λ j e. rw runs.stack e))
      row.free)
  ranks_row (entry.Refuse t n why x m args) z r = subst (Ranks L) (sym r.7) (same_top t r.0 r.1 r.2 r.3.some r.3.within r.3.stack)
  ranks_row (entry.Ret t n results) z r = subst (Ranks L) (sym r.8) (popped t r.0 r.1 r.2 r.3 r.4.some r.4.within r.4.stack)
  ranks_row (entry.Unwound t n) z r = subst (Ranks L) (sym r.8) (popped t r.0 r.1 r.2 r.3 r.4.some r.4.within r.4.stack)
  ranks_row (entry.Reload t x i left) z r =
      let e = r.6 in
      subst (Ranks L) (sym r.9) (record {
        ranked = λ u pos le. ranked_opened L s.loads s.live i (load_of_target L x) s.next_instance s.next_call u (s.stack u) (omega arith) (p.grounded u pos le) (k.ranked u pos le);
        alone = λ a b j pa la pb lb lives serial ea eb. elim (cases_eq j i) [
          | inl is ↦ absurd (both_ways (is_entered j (s.stack a)) (none_entered L s.loads s.next_instance s.next_call a j (s.stack a) (p.grounded a pa la) (omega arith)) ea)
          | inr ne ↦ k.alone a b j pa la pb lb (rw (at_other i true s.live j ne) at lives) (rw (at_other i (load_of_target L x) s.loads j ne) at serial) ea eb
        ];
      })
  ranks_row (entry.Again t n x i) z r =
      let f : LedgerFrame = r.0 in
      let fs : List LedgerFrame = r.1 in
      let dead = r.2 in
      subst (Ranks L) (sym r.8) (stack_changed t i (record f { party = owner.Instance i; own = [] } ∷ fs) dead.some dead.within
      (ranked_at t f fs dead.some dead.within dead.stack)
      (comes i (record f { party = owner.Instance i; own = [] }) fs (s.stack t) refl (λ j e. rw dead.stack (elim (cases_Bool (same_owner (owner.Instance j) f.party)) [ inl y ↦ rw y refl | inr y ↦ rw y e ])))
      r.7)
  ranks_row (entry.Trap t i cause) z r = subst (Ranks L) (sym r.4) (ended i)
  ranks_row (entry.Kill t i) z r = subst (Ranks L) (sym r.4) (ended i)
  ranks_row (entry.New t w o ty values) z r = subst (Ranks L) (sym r.7) (same_top t r.0 r.1 r.2 r.3.some r.3.within r.3.stack)
  ranks_row (entry.Drop t o) z r = subst (Ranks L) (sym r.5) (same_top t r.0 r.1 r.2 r.3.some r.3.within r.3.stack)
  ranks_row (entry.Set t o place values) z r = subst (Ranks L) (sym r.6) (same_top t r.0 r.1 r.2 r.3.some r.3.within r.3.stack)
  ranks_row (entry.Wput t i place value) z r = subst (Ranks L) (sym r.6) (same_top t r.0 r.1 r.2 r.3.some r.3.within r.3.stack)
  ranks_row (entry.Take t i slot o) z r = subst (Ranks L) (sym r.9) (same_top t r.1 r.2 r.3 r.4.some r.4.within r.4.stack)
  ranks_row (entry.Put t i slot o) z r = subst (Ranks L) (sym r.9) (same_top t r.1 r.2 r.3 r.4.some r.4.within r.4.stack)
  ranks_row (entry.DevGet t o b) z r = subst (Ranks L) (sym r.6) (same_top t r.0 r.1 r.2 r.3.some r.3.within r.3.stack)
  ranks_row (entry.DevPut t b o) z r = subst (Ranks L) (sym r.6) (same_top t r.0 r.1 r.2 r.3.some r.3.within r.3.stack)
  ranks_row (entry.Hang t o a v) z r = subst (Ranks L) (sym r.8) (same_top t r.0 r.1 r.2 r.3.some r.3.within r.3.stack)
  ranks_row (entry.Unhang t o a v) z r = subst (Ranks L) (sym r.7) (same_top t r.0 r.1 r.2 r.3.some r.3.within r.3.stack)
  ranks_row (entry.Show t o values) z r = subst (Ranks L) (sym r.4) k
  ranks_row (entry.Skip t number) z r = subst (Ranks L) (sym r.2) k
  ranks_row (entry.Done t) z r = subst (Ranks L) (sym r.2) k
  ranks_row (entry.Free o) z r = absurd r
