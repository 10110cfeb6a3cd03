-- Slots are filled and emptied, dead frames leave, and calls and returns pass objects on.
use Rattle.std.proofs.Common.{◌≡◌, ℕ, zero, suc, ◌+◌, ◌<◌, ◌≤◌, ◌==◌, Bool, true, false, cond, List, [], ◌∷◌, Option, Some, None, refl, sym, ◌∙◌, subst, arith, inl, inr, slice_get, slice_set, length}
use Rattle.std.proofs.lemmas.Bool.{cases_eq, cases_Bool, eq-eqb, ne_eqb, both_ways}
use Rattle.machine_defs.specs.declared.values.Arg.{Arg}
use Rattle.machine_defs.specs.declared.values.Owner.{Owner}
use Rattle.machine_defs.specs.declared.values.Owner.TheVariants as owner
use Rattle.rl_defs.specs.declared.load.LoadRows.{LoadRows}
use Rattle.machine_defs.specs.State.{Placement, Root, Hung, lives}
use Rattle.machine_defs.specs.Loans.{count}
use Rattle.machine_defs.specs.Arguments.{moved_of, lent_of}
use Rattle.machine_defs.specs.Report.{same_owner}
use Rattle.machine_laws.specs.Ledger.{LedgerFrame, Ledger, at, alive, loans}
use Rattle.machine_laws.specs.LedgerRows.{Runs, IsDead, Exchanged, give, callee, CallRow}
use Rattle.machine_laws.specs.LedgerSound.{in_slots, own_in, slots_held, is_of, Covered, Owned}
use Rattle.machine_laws.proofs.Counts.{has_cond}
use Rattle.machine_laws.proofs.Owners.{same_is, same_self, top_root, unlent}
use Rattle.machine_laws.proofs.Sweeping.{BeforeSweepIn, covered_weaker}
use Rattle.machine_laws.proofs.OneStack.{lent_loans, stack_changed}
use Rattle.machine_laws.proofs.OwnRows.{unswept, reowned, at_most_once}
use Rattle.machine_laws.proofs.Rows.{at_same, at_other}

abbrev pub one_of : ℕ → Option ℕ → ℕ
one_of q None = 0
one_of q (Some o) = cond (o == q) 1 0

pub in_slots_set : (q : ℕ) (ks : List (Option ℕ)) (k : ℕ) (x y : Option ℕ) → slice_get ks k ≡ Some x → in_slots q (slice_set ks k y) + one_of q x ≡ in_slots q ks + one_of q y
in_slots_set q [] k x y is = absurd cc
in_slots_set q (None ∷ ks) zero x None is = let e : x ≡ None = cc in rw e refl
in_slots_set q (None ∷ ks) zero x (Some o) is = let e : x ≡ None = cc in rw e (omega arith)
in_slots_set q (Some p ∷ ks) zero x None is = let e : x ≡ Some p = cc in rw e (omega arith)
in_slots_set q (Some p ∷ ks) zero x (Some o) is = let e : x ≡ Some p = cc in rw e (omega arith)
in_slots_set q (None ∷ ks) (suc k) x y is = in_slots_set q ks k x y is
in_slots_set q (Some p ∷ ks) (suc k) x y is = let r = in_slots_set q ks k x y is in omega arith

module _ (L : LoadRows) (s : Ledger) (own : Owned L s) (t : ℕ) (f : LedgerFrame) (fs : List LedgerFrame) (runs : Runs L s t f fs) (mine : List ℕ) (i : ℕ) (here : f.party ≡ owner.Instance i) where
  -- the slot's content x is y afterwards, and the frame's own objects make up for it
  pub slot_row : (k : ℕ) (x y : Option ℕ) → slice_get (s.slots i) k ≡ Some x → ((q : ℕ) → count q mine + one_of q y ≡ count q f.own + one_of q x)
      → BeforeSweepIn (length L.clients) s.live (at t (record f { own = mine } ∷ fs) s.stack) s.seat (at i (slice_set (s.slots i) k y) s.slots) s.next_object
  slot_row k x y is even = reowned L s own t f fs runs mine s.seat (at i (slice_set (s.slots i) k y) s.slots) s.next_object
      (λ w q lives. rw here (go w q))
      (λ o _. refl)
      (λ o p j q i a b. (unswept L s own).hung o p j q i a b)
      own.cell own.fresh
    where
      go : (w : Owner) (q : ℕ) → slots_held (at i (slice_set (s.slots i) k y) s.slots) w q + cond (same_owner w (owner.Instance i)) (count q mine) 0 + cond (is_of w (s.seat q)) 1 0
          ≡ slots_held s.slots w q + cond (same_owner w (owner.Instance i)) (count q f.own) 0 + cond (is_of w (s.seat q)) 1 0
      go (owner.Client u) q = refl
      go (owner.Instance j) q = elim (cases_eq j i) [
        | inl e ↦ rw (e, at_same i (slice_set (s.slots i) k y) s.slots, eq-eqb i i refl) (let a = in_slots_set q (s.slots i) k x y is in let b = even q in omega arith)
        | inr ne ↦ rw (at_other i (slice_set (s.slots i) k y) s.slots j ne, ne_eqb j i ne) refl
      ]

pub own_dead : (live : ℕ → Bool) (w v : Owner) (m : ℕ) → alive live w ≡ true → alive live v ≡ false → cond (same_owner w v) m 0 ≡ 0
own_dead live w v m lives dead = elim (cases_Bool (same_owner w v)) [
  | inl e ↦ absurd (both_ways (alive live v) dead (subst (λ x. alive live x ≡ true) (same_is w v e) lives))
  | inr e ↦ rw e refl
]

pub cond_zero : (b : Bool) → ◌≡◌ {A = ℕ} (cond b 0 0) 0
cond_zero true = refl
cond_zero false = refl

-- a dead frame leaves, whatever it had; a caller that lives has what it had
pub unwound_row : (L : LoadRows) (s : Ledger) (own : Owned L s) (t : ℕ) (f g : LedgerFrame) (fs : List LedgerFrame) → IsDead L s t f (g ∷ fs) → (mine : List ℕ) → (alive s.live g.party ≡ true → Exchanged g.own [] [] mine)
    → BeforeSweepIn (length L.clients) s.live (at t (record g { own = mine } ∷ fs) s.stack) s.seat s.slots s.next_object
unwound_row L s own t f g fs dead mine keeps = stack_changed (length L.clients) s.live s.stack s.seat s.slots s.next_object own t dead.some dead.within (record g { own = mine } ∷ fs) s.seat s.slots s.next_object
    (λ w o lives. rw (dead.stack, own_dead s.live w f.party (count o f.own) lives dead.dead) (elim (cases_Bool (alive s.live g.party)) [
      | inl up ↦ let b = keeps up o in let m : count o mine ≡ count o g.own = omega arith in rw m (omega arith)
      | inr down ↦ rw (own_dead s.live w g.party (count o mine) lives down, own_dead s.live w g.party (count o g.own) lives down) (omega arith)
    ]))
    (λ o p. inl (rw dead.stack (omega arith)))
    (λ o _. refl)
    (let c : Covered s.live s.seat (f ∷ g ∷ fs) = rw dead.stack at (own.covered t) in c.1)
    (unswept L s own).hung own.cell own.fresh

-- a dead frame begins again in another instance, with nothing of its own
pub again_row : (L : LoadRows) (s : Ledger) (own : Owned L s) (t i : ℕ) (f : LedgerFrame) (fs : List LedgerFrame) → IsDead L s t f fs
    → BeforeSweepIn (length L.clients) s.live (at t (record f { party = owner.Instance i; own = [] } ∷ fs) s.stack) s.seat s.slots s.next_object
again_row L s own t i f fs dead = stack_changed (length L.clients) s.live s.stack s.seat s.slots s.next_object own t dead.some dead.within (record f { party = owner.Instance i; own = [] } ∷ fs) s.seat s.slots s.next_object
    (λ w o lives. rw (dead.stack, own_dead s.live w f.party (count o f.own) lives dead.dead) (let z = cond_zero (same_owner w (owner.Instance i)) in omega arith))
    (λ o p. inl (rw dead.stack p))
    (λ o _. refl)
    (let c : Covered s.live s.seat (f ∷ fs) = rw dead.stack at (own.covered t) in c)
    (unswept L s own).hung own.cell own.fresh

pub give_flat : (os : List ℕ) (w : Owner) (seat : ℕ → Option Placement) (q p k : ℕ) → give os w seat q ≡ Some (Hung p k) → seat q ≡ Some (Hung p k)
give_flat os w seat q p k = has_cond (λ y. y ≡ Some (Hung p k) → seat q ≡ Some (Hung p k)) q os (Some (Root w)) (seat q) (λ _ e. absurd (cc (e))) (λ _ e. e)

-- objects that the top frame owns are given to a party
module _ (L : LoadRows) (s : Ledger) (own : Owned L s) (t : ℕ) (f : LedgerFrame) (fs : List LedgerFrame) (runs : Runs L s t f fs) (os : List ℕ) (w : Owner) (some_own : (o : ℕ) → count o os ≤ count o f.own) where
  give_keeps : (o : ℕ) → 0 < loans L s o → give os w s.seat o ≡ s.seat o
  give_keeps o lent = has_cond (λ y. y ≡ s.seat o) o os (Some (Root w)) (s.seat o) (λ pos. absurd (let z = unlent L s own t f fs runs o (let le = some_own o in omega arith) in omega arith)) (λ _. refl)

  give_hung : (o p k q j : ℕ) → give os w s.seat o ≡ Some (Hung p k) → give os w s.seat p ≡ Some (Hung q j) → ⊥
  give_hung o p k q j a b = (unswept L s own).hung o p k q j (give_flat os w s.seat o p k a) (give_flat os w s.seat p q j b)

  give_cell : (o q p k : ℕ) → give os w s.seat o ≡ Some (Hung p k) → give os w s.seat q ≡ Some (Hung p k) → o ≡ q
  give_cell o q p k a b = own.cell o q p k (give_flat os w s.seat o p k a) (give_flat os w s.seat q p k b)

  give_fresh : (o : ℕ) → s.next_object ≤ o → give os w s.seat o ≡ None
  give_fresh o le = has_cond (λ y. y ≡ None) o os (Some (Root w)) (s.seat o)
      (λ pos. absurd (let none = own.fresh o le in let r = top_root L s own t f fs runs o (let le' = some_own o in omega arith) in cc (r, none)))
      (λ _. own.fresh o le)

-- how the sums are even where an object goes from a party with the answer bf to one with the answer bg
pub even_pass : (bf bg : Bool) (k n m c : ℕ) → m ≡ c + 1 → k + (cond bg m 0 + n) + cond bf 1 0 ≡ k + (cond bf 1 0 + (cond bg c 0 + n)) + cond bg 1 0
even_pass bf true k n m c e = omega arith
even_pass bf false k n m c e = omega arith

pub even_enter : (bf bg : Bool) (k n m c : ℕ) → m + 1 ≡ c → k + (cond bg 1 0 + (cond bf m 0 + n)) + cond bf 1 0 ≡ k + (cond bf c 0 + n) + cond bg 1 0
even_enter true bg k n m c e = omega arith
even_enter false bg k n m c e = omega arith

-- the results go to the frame below, which has if them it lives
module _ (L : LoadRows) (s : Ledger) (own : Owned L s) (t : ℕ) (f g : LedgerFrame) (fs : List LedgerFrame) (runs : Runs L s t f (g ∷ fs)) (os mine : List ℕ)
    (all : Exchanged f.own os [] []) (gains : alive s.live g.party ≡ true → Exchanged g.own [] os mine) where
  ret_even : (w : Owner) (o : ℕ) → alive s.live w ≡ true → (k n : ℕ)
      → k + (cond (same_owner w g.party) (count o mine) 0 + n) + cond (is_of w (s.seat o)) 1 0
      ≡ k + (cond (same_owner w f.party) (count o f.own) 0 + (cond (same_owner w g.party) (count o g.own) 0 + n)) + cond (is_of w (give os g.party s.seat o)) 1 0
  ret_even w o lives k n = has_cond (λ y. k + (cond (same_owner w g.party) (count o mine) 0 + n) + cond (is_of w (s.seat o)) 1 0 ≡ k + (cond (same_owner w f.party) (count o f.own) 0 + (cond (same_owner w g.party) (count o g.own) 0 + n)) + cond (is_of w y) 1 0) o os (Some (Root g.party)) (s.seat o)
      (λ pos.
      let a = all o in
      let one = at_most_once L s own t f (g ∷ fs) runs o in
      let root = top_root L s own t f (g ∷ fs) runs o (omega arith) in
      let f1 : count o f.own ≡ 1 = omega arith in
      rw (root, f1) (elim (cases_Bool (alive s.live g.party)) [
        | inl up ↦ even_pass (same_owner w f.party) (same_owner w g.party) k n (count o mine) (count o g.own) (let b = gains up o in omega arith)
        | inr down ↦ rw (own_dead s.live w g.party (count o mine) lives down, own_dead s.live w g.party (count o g.own) lives down, own_dead s.live w g.party 1 lives down) (omega arith)
      ]))
      (λ none.
      let a = all o in
      let f0 : count o f.own ≡ 0 = omega arith in
      let z = cond_zero (same_owner w f.party) in
      rw f0 (elim (cases_Bool (alive s.live g.party)) [
        | inl up ↦ let b = gains up o in let m : count o mine ≡ count o g.own = omega arith in rw m (omega arith)
        | inr down ↦ rw (own_dead s.live w g.party (count o mine) lives down, own_dead s.live w g.party (count o g.own) lives down) (omega arith)
      ]))

  pub ret_row : BeforeSweepIn (length L.clients) s.live (at t (record g { own = mine } ∷ fs) s.stack) (give os g.party s.seat) s.slots s.next_object
  ret_row =
      let some_own : (o : ℕ) → count o os ≤ count o f.own = λ o. (let a = all o in omega arith) in
      let keeps = give_keeps L s own t f (g ∷ fs) runs os g.party some_own in
      stack_changed (length L.clients) s.live s.stack s.seat s.slots s.next_object own t runs.some runs.within (record g { own = mine } ∷ fs) (give os g.party s.seat) s.slots s.next_object
      (λ w o lives. rw runs.stack (ret_even w o lives (slots_held s.slots w o) (own_in w o fs)))
      (λ o p. inl (rw runs.stack (omega arith)))
      keeps
      (covered_weaker s.live s.live s.seat (give os g.party s.seat) (record g { own = mine } ∷ fs)
      (λ o w pos is lives. (sym (keeps o (lent_loans (length L.clients) s.live s.stack s.seat s.slots s.next_object own t o (rw runs.stack (omega arith)))) ∙ is, lives))
      (let c : Covered s.live s.seat (f ∷ g ∷ fs) = rw runs.stack at (own.covered t) in c.1))
      (give_hung L s own t f (g ∷ fs) runs os g.party some_own)
      (give_cell L s own t f (g ∷ fs) runs os g.party some_own)
      (give_fresh L s own t f (g ∷ fs) runs os g.party some_own)

-- a call passes the moved objects on, and lends others
module _ (L : LoadRows) (s : Ledger) (own : Owned L s) (t c x i m : ℕ) (args : List Arg) (f : LedgerFrame) (fs : List LedgerFrame) (mine : List ℕ) (row : CallRow L s t c x i m args f fs mine) where
  call_even : (w : Owner) (o : ℕ) (k n : ℕ)
      → k + (cond (same_owner w (owner.Instance i)) (count o (moved_of args)) 0 + (cond (same_owner w f.party) (count o mine) 0 + n)) + cond (is_of w (s.seat o)) 1 0
      ≡ k + (cond (same_owner w f.party) (count o f.own) 0 + n) + cond (is_of w (give (moved_of args) (owner.Instance i) s.seat o)) 1 0
  call_even w o k n = has_cond (λ y. k + (cond (same_owner w (owner.Instance i)) (count o (moved_of args)) 0 + (cond (same_owner w f.party) (count o mine) 0 + n)) + cond (is_of w (s.seat o)) 1 0 ≡ k + (cond (same_owner w f.party) (count o f.own) 0 + n) + cond (is_of w y) 1 0) o (moved_of args) (Some (Root (owner.Instance i))) (s.seat o)
      (λ pos.
      let a = row.passes.moved o in
      let one = at_most_once L s own t f fs row.runs o in
      let root = top_root L s own t f fs row.runs o (omega arith) in
      let m1 : count o (moved_of args) ≡ 1 = omega arith in
      rw (root, m1) (even_enter (same_owner w f.party) (same_owner w (owner.Instance i)) k n (count o mine) (count o f.own) (omega arith)))
      (λ none.
      let a = row.passes.moved o in
      let same : count o mine ≡ count o f.own = omega arith in
      let z = cond_zero (same_owner w (owner.Instance i)) in
      rw (none, same) (omega arith))

  -- what the caller keeps
  call_kept : (o : ℕ) → 0 < count o mine → (loans L s o ≡ 0) × (give (moved_of args) (owner.Instance i) s.seat o ≡ Some (Root f.party))
  call_kept o pos =
      let a = row.passes.moved o in
      let one = at_most_once L s own t f fs row.runs o in
      let root = top_root L s own t f fs row.runs o (omega arith) in (
        unlent L s own t f fs row.runs o (omega arith),
        has_cond (λ y. y ≡ Some (Root f.party)) o (moved_of args) (Some (Root (owner.Instance i))) (s.seat o) (λ p. absurd (omega arith)) (λ _. root),
      )

  pub call_row : BeforeSweepIn (length L.clients) s.live (at t (callee c x i m args ∷ record f { own = mine } ∷ fs) s.stack) (give (moved_of args) (owner.Instance i) s.seat) s.slots s.next_object
  call_row =
      let some_own : (o : ℕ) → count o (moved_of args) ≤ count o f.own = λ o. (let a = row.passes.moved o in omega arith) in
      let keeps = give_keeps L s own t f fs row.runs (moved_of args) (owner.Instance i) some_own in
      let new : List LedgerFrame = callee c x i m args ∷ record f { own = mine } ∷ fs in
      let seat' : ℕ → Option Placement = give (moved_of args) (owner.Instance i) s.seat in
      stack_changed (length L.clients) s.live s.stack s.seat s.slots s.next_object own t row.runs.some row.runs.within new seat' s.slots s.next_object
      (λ w o lives. rw row.runs.stack (call_even w o (slots_held s.slots w o) (own_in w o fs)))
      (λ o p. elim (cases_eq (count o (lent_of args)) 0) [
        | inl none ↦ inl (rw row.runs.stack (omega arith))
        | inr some ↦ elim (row.passes.lent o (omega arith)) [
          | inl mine_too ↦ inr (let r = call_kept o mine_too in (r.0, (f.party, r.1)))
          | inr lent_too ↦ inl (rw row.runs.stack (omega arith))
        ]
      ])
      keeps (
        (λ o w pos is lives. elim (row.passes.lent o pos) [
          | inl mine_too ↦
              let same : f.party ≡ w = (let r = call_kept o mine_too in cc (r.1, is)) in
              rw (← same, same_self f.party) (omega arith)
          | inr lent_too ↦
              let c : Covered s.live s.seat (f ∷ fs) = rw row.runs.stack at (own.covered t) in
              let was : s.seat o ≡ Some (Root w) = sym (keeps o (lent_loans (length L.clients) s.live s.stack s.seat s.slots s.next_object own t o (rw row.runs.stack (omega arith)))) ∙ is in
              let h = c.0 o w lent_too was lives in omega arith
        ]),
        covered_weaker s.live s.live s.seat seat' (record f { own = mine } ∷ fs)
            (λ o w pos is lives. (sym (keeps o (lent_loans (length L.clients) s.live s.stack s.seat s.slots s.next_object own t o (rw row.runs.stack pos))) ∙ is, lives))
            (let c : Covered s.live s.seat (f ∷ fs) = rw row.runs.stack at (own.covered t) in c),
      )
      (give_hung L s own t f fs row.runs (moved_of args) (owner.Instance i) some_own)
      (give_cell L s own t f fs row.runs (moved_of args) (owner.Instance i) some_own)
      (give_fresh L s own t f fs row.runs (moved_of args) (owner.Instance i) some_own)
