-- What the top frame has of its own changes, and nothing hangs otherwise than the row says.
use Rattle.std.proofs.Common.{◌≡◌, ℕ, suc, ◌+◌, ◌<◌, ◌≤◌, ◌==◌, Bool, true, false, cond, ◌⊎◌, List, [], ◌∷◌, Option, Some, None, refl, sym, ◌∙◌, arith, inl, inr, length}
use Rattle.std.proofs.lemmas.Bool.{cases_eq, cases_Bool}
use Rattle.machine_defs.specs.declared.values.Owner.{Owner}
use Rattle.machine_defs.specs.declared.values.Owner.TheVariants as owner
use Rattle.rl_defs.specs.declared.load.LoadRows.{LoadRows}
use Rattle.machine_defs.specs.State.{Placement, Root, Hung, lives}
use Rattle.machine_defs.specs.Loans.{count}
use Rattle.machine_defs.specs.Report.{same_owner}
use Rattle.machine_laws.specs.Ledger.{LedgerFrame, Ledger, at, alive, loans}
use Rattle.machine_laws.specs.LedgerRows.{Runs, Exchanged, remove}
use Rattle.machine_laws.specs.LedgerSound.{slots_held, is_of, Covered, Owned}
use Rattle.machine_laws.proofs.Counts.{one_here, none_there, has_cond}
use Rattle.machine_laws.proofs.Owners.{is_of_le, top_own, top_held, top_root, unlent}
use Rattle.machine_laws.proofs.Sweeping.{BeforeSweepIn, BeforeSweep, covered_weaker}
use Rattle.machine_laws.proofs.OneStack.{at_each, lent_loans, stack_changed}
use Rattle.machine_laws.proofs.Rows.{at_same, at_other}

-- a sound state before any change
pub unswept : (L : LoadRows) (s : Ledger) → Owned L s → BeforeSweep L s
unswept L s own = record {
  once = own.once;
  hung = λ o p k q j a b. let r = own.hung o p k a in cc (r.1, b);
  cell = own.cell;
  lent = own.lent;
  stacks = own.stacks;
  within = own.within;
  covered = own.covered;
  fresh = own.fresh;
}

-- an instance ends
pub ending : (L : LoadRows) (s : Ledger) (i : ℕ) → Owned L s → BeforeSweep L (record s { live = at i false s.live })
ending L s i own = record {
  once = λ w o lives. own.once w o (was w lives);
  hung = (unswept L s own).hung;
  cell = own.cell;
  lent = own.lent;
  stacks = own.stacks;
  within = own.within;
  covered = λ t. covered_weaker s.live (at i false s.live) s.seat s.seat (s.stack t) (λ o w pos is lives. (is, was w lives)) (own.covered t);
  fresh = own.fresh;
}
  where
    was : (w : Owner) → alive (at i false s.live) w ≡ true → alive s.live w ≡ true
    was (owner.Client t) lives = refl
    was (owner.Instance j) lives = elim (cases_Bool (j == i)) [
      | inl e ↦ absurd (let no : false ≡ true = rw e at lives in cc)
      | inr e ↦ rw e at lives
    ]

-- the top frame's own objects and their seats change
module _ (L : LoadRows) (s : Ledger) (own : Owned L s) (t : ℕ) (f : LedgerFrame) (fs : List LedgerFrame) (runs : Runs L s t f fs) (mine : List ℕ)
    (seat' : ℕ → Option Placement) (slots' : ℕ → List (Option ℕ)) (next' : ℕ)
    (balance : (w : Owner) (o : ℕ) → alive s.live w ≡ true → slots_held slots' w o + cond (same_owner w f.party) (count o mine) 0 + cond (is_of w (s.seat o)) 1 0 ≡ slots_held s.slots w o + cond (same_owner w f.party) (count o f.own) 0 + cond (is_of w (seat' o)) 1 0)
    (keeps : (o : ℕ) → 0 < loans L s o → seat' o ≡ s.seat o)
    (hung' : (o p k q j : ℕ) → seat' o ≡ Some (Hung p k) → seat' p ≡ Some (Hung q j) → ⊥)
    (cell' : (o q p k : ℕ) → seat' o ≡ Some (Hung p k) → seat' q ≡ Some (Hung p k) → o ≡ q)
    (fresh' : (o : ℕ) → next' ≤ o → seat' o ≡ None) where
  pub reowned : BeforeSweepIn (length L.clients) s.live (at t (record f { own = mine } ∷ fs) s.stack) seat' slots' next'
  reowned = stack_changed (length L.clients) s.live s.stack s.seat s.slots s.next_object own t runs.some runs.within (record f { own = mine } ∷ fs) seat' slots' next'
      (λ w o lives. rw runs.stack (let e = balance w o lives in omega arith))
      (λ o p. inl (rw runs.stack p))
      keeps
      (covered_weaker s.live s.live s.seat seat' (record f { own = mine } ∷ fs)
      (λ o w pos is lives. (sym (keeps o (lent_loans (length L.clients) s.live s.stack s.seat s.slots s.next_object own t o (rw runs.stack pos))) ∙ is, lives))
      (let c : Covered s.live s.seat (f ∷ fs) = rw runs.stack at (own.covered t) in c))
      hung' cell' fresh'

-- what is given to one party
pub even_gain : (b : Bool) (k m c : ℕ) → m ≡ c + 1 → k + cond b m 0 + 0 ≡ k + cond b c 0 + cond b 1 0
even_gain true k m c e = omega arith
even_gain false k m c e = refl

pub even_loss : (b : Bool) (k m c : ℕ) → m + 1 ≡ c → k + cond b m 0 + cond b 1 0 ≡ k + cond b c 0 + 0
even_loss true k m c e = omega arith
even_loss false k m c e = refl

pub no_root : (w : Owner) (x : Option Placement) → ((v : Owner) → x ≡ Some (Root v) → ⊥) → is_of w x ≡ false
no_root w None h = refl
no_root w (Some (Root v)) h = absurd (h v refl)
no_root w (Some (Hung p k)) h = refl

-- what becomes of an object as the top frame's own objects change
abbrev pub Change : LedgerFrame → List ℕ → Option Placement → Option Placement → ℕ → Type 0
Change f mine before after o =
    ((count o mine ≡ count o f.own) × (after ≡ before))
    ⊎ (((count o mine ≡ count o f.own + 1) × (after ≡ Some (Root f.party)) × ((v : Owner) → before ≡ Some (Root v) → ⊥))
    ⊎ ((count o mine + 1 ≡ count o f.own) × ((v : Owner) → after ≡ Some (Root v) → ⊥)))

module _ (L : LoadRows) (s : Ledger) (own : Owned L s) (t : ℕ) (f : LedgerFrame) (fs : List LedgerFrame) (runs : Runs L s t f fs) (mine : List ℕ)
    (seat' : ℕ → Option Placement) (next' : ℕ)
    (change : (o : ℕ) → Change f mine (s.seat o) (seat' o) o) where
  change_even : (w : Owner) (o : ℕ) → slots_held s.slots w o + cond (same_owner w f.party) (count o mine) 0 + cond (is_of w (s.seat o)) 1 0 ≡ slots_held s.slots w o + cond (same_owner w f.party) (count o f.own) 0 + cond (is_of w (seat' o)) 1 0
  change_even w o = elim (change o) [
    | inl same ↦ rw (same.0, same.1) refl
    | inr (inl gain) ↦ rw (no_root w (s.seat o) gain.2, gain.1) (even_gain (same_owner w f.party) (slots_held s.slots w o) (count o mine) (count o f.own) gain.0)
    | inr (inr lose) ↦ rw (no_root w (seat' o) lose.1, top_root L s own t f fs runs o (omega arith)) (even_loss (same_owner w f.party) (slots_held s.slots w o) (count o mine) (count o f.own) lose.0)
  ]

  change_keeps : (o : ℕ) → 0 < loans L s o → seat' o ≡ s.seat o
  change_keeps o some = elim (change o) [
    | inl same ↦ same.1
    | inr (inl gain) ↦ absurd (let r = own.lent o some in gain.2 r.0 r.1)
    | inr (inr lose) ↦ absurd (let z = unlent L s own t f fs runs o (omega arith) in omega arith)
  ]

  pub changed : ((o p k q j : ℕ) → seat' o ≡ Some (Hung p k) → seat' p ≡ Some (Hung q j) → ⊥) → ((o q p k : ℕ) → seat' o ≡ Some (Hung p k) → seat' q ≡ Some (Hung p k) → o ≡ q)
      → ((o : ℕ) → next' ≤ o → seat' o ≡ None) → BeforeSweepIn (length L.clients) s.live (at t (record f { own = mine } ∷ fs) s.stack) seat' s.slots next'
  changed hung' cell' fresh' = reowned L s own t f fs runs mine seat' s.slots next' (λ w o lives. change_even w o) change_keeps hung' cell' fresh'

  -- where nothing is hung anew
  pub changed_flat : ((o p k : ℕ) → seat' o ≡ Some (Hung p k) → s.seat o ≡ Some (Hung p k))
      → ((o : ℕ) → next' ≤ o → seat' o ≡ None) → BeforeSweepIn (length L.clients) s.live (at t (record f { own = mine } ∷ fs) s.stack) seat' s.slots next'
  changed_flat flat fresh' = changed
      (λ o p k q j a b. (unswept L s own).hung o p k q j (flat o p k a) (flat p q j b))
      (λ o q p k a b. own.cell o q p k (flat o p k a) (flat q p k b))
      fresh'

pub at_flat : (o : ℕ) (x : Option Placement) (seat : ℕ → Option Placement) → ((p k : ℕ) → x ≡ Some (Hung p k) → ⊥) → (q p k : ℕ) → at o x seat q ≡ Some (Hung p k) → seat q ≡ Some (Hung p k)
at_flat o x seat flat q p k = at_each (λ j y. y ≡ Some (Hung p k) → seat j ≡ Some (Hung p k)) o x seat q (λ e. absurd (flat p k e)) (λ ne e. e)

module _ (L : LoadRows) (s : Ledger) (own : Owned L s) (t : ℕ) (f : LedgerFrame) (fs : List LedgerFrame) (runs : Runs L s t f fs) (mine : List ℕ) where
  pub new_row : Exchanged f.own [] (s.next_object ∷ []) mine
      → BeforeSweepIn (length L.clients) s.live (at t (record f { own = mine } ∷ fs) s.stack) (at s.next_object (Some (Root f.party)) s.seat) s.slots (suc s.next_object)
  new_row gains = changed_flat L s own t f fs runs mine (at s.next_object (Some (Root f.party)) s.seat) (suc s.next_object)
      (λ o. elim (cases_eq o s.next_object) [
        | inl e ↦ inr (inl (
          rw e (let g = gains s.next_object in let h = one_here s.next_object in omega arith),
          rw e (at_same s.next_object (Some (Root f.party)) s.seat),
          λ v is. let is' = rw e at is in let none = own.fresh s.next_object (omega arith) in cc (is', none),
        ))
        | inr ne ↦ inl (
          let g = gains o in let z = none_there s.next_object o ne in omega arith,
          at_other s.next_object (Some (Root f.party)) s.seat o ne,
        )
      ])
      (at_flat s.next_object (Some (Root f.party)) s.seat (λ p k e. cc))
      (λ o le. at_other s.next_object (Some (Root f.party)) s.seat o (λ e. omega arith) ∙ own.fresh o (omega arith))

  -- nothing is lost or gained
  pub even_row : Exchanged f.own [] [] mine → BeforeSweepIn (length L.clients) s.live (at t (record f { own = mine } ∷ fs) s.stack) s.seat s.slots s.next_object
  even_row even = changed_flat L s own t f fs runs mine s.seat s.next_object (λ o. inl (let e = even o in omega arith, refl)) (λ o p k e. e) own.fresh

  pub drop_row : (o : ℕ) → Exchanged f.own (o ∷ []) [] mine
      → BeforeSweepIn (length L.clients) s.live (at t (record f { own = mine } ∷ fs) s.stack) (at o None s.seat) s.slots s.next_object
  drop_row o loses = changed_flat L s own t f fs runs mine (at o None s.seat) s.next_object
      (λ q. elim (cases_eq q o) [
        | inl e ↦ inr (inr (rw e (let g = loses o in let h = one_here o in omega arith), λ v is. let is' = rw e at is in let no' : None ≡ Some (Root v) = sym (at_same o None s.seat) ∙ is' in cc))
        | inr ne ↦ inl (let g = loses q in let z = none_there o q ne in omega arith, at_other o None s.seat q ne)
      ])
      (at_flat o None s.seat (λ p k e. cc))
      (λ q le. at_each (λ j y. s.next_object ≤ j → y ≡ None) o None s.seat q (λ _. refl) (λ ne le'. own.fresh q le') le)

  pub unhang_row : (o k v : ℕ) → s.seat v ≡ Some (Hung o k) → Exchanged f.own [] (v ∷ []) mine
      → BeforeSweepIn (length L.clients) s.live (at t (record f { own = mine } ∷ fs) s.stack) (at v (Some (Root f.party)) s.seat) s.slots s.next_object
  unhang_row o k v is gains = changed_flat L s own t f fs runs mine (at v (Some (Root f.party)) s.seat) s.next_object
      (λ q. elim (cases_eq q v) [
        | inl e ↦ inr (inl (
          rw e (let g = gains v in let h = one_here v in omega arith),
          rw e (at_same v (Some (Root f.party)) s.seat),
          λ w root. let root' = rw e at root in cc (is, root'),
        ))
        | inr ne ↦ inl (let g = gains q in let z = none_there v q ne in omega arith, at_other v (Some (Root f.party)) s.seat q ne)
      ])
      (at_flat v (Some (Root f.party)) s.seat (λ p k e. cc))
      (λ q le. at_each (λ j y. s.next_object ≤ j → y ≡ None) v (Some (Root f.party)) s.seat q (λ le'. absurd (let none = own.fresh v le' in cc (is, none))) (λ ne le'. own.fresh q le') le)

-- a frame that runs has object an at most once
pub at_most_once : (L : LoadRows) (s : Ledger) (own : Owned L s) (t : ℕ) (f : LedgerFrame) (fs : List LedgerFrame) (runs : Runs L s t f fs) (o : ℕ) → count o f.own ≤ 1
at_most_once L s own t f fs runs o = elim (cases_eq (count o f.own) 0) [
  | inl none ↦ omega arith
  | inr some ↦
      let a = top_own L s own t f fs runs o (omega arith) in
      let b = top_held L s own t f fs runs o (omega arith) in
      let c = own.once f.party o runs.lives in
      let d = is_of_le f.party (s.seat o) in
      omega arith
]

module _ (L : LoadRows) (s : Ledger) (own : Owned L s) (t : ℕ) (f : LedgerFrame) (fs : List LedgerFrame) (runs : Runs L s t f fs) (mine : List ℕ) where
  pub refuse_row : (os : List ℕ) → Exchanged f.own os [] mine
      → BeforeSweepIn (length L.clients) s.live (at t (record f { own = mine } ∷ fs) s.stack) (remove os s.seat) s.slots s.next_object
  refuse_row os loses = changed_flat L s own t f fs runs mine (remove os s.seat) s.next_object
      (λ q. has_cond (λ y. Change f mine (s.seat q) y q) q os None (s.seat q)
      (λ some. inr (inr (let g = loses q in let one = at_most_once L s own t f fs runs q in omega arith, λ v is. cc (is))))
      (λ none. inl (let g = loses q in omega arith, refl)))
      (λ q p k. has_cond (λ y. y ≡ Some (Hung p k) → s.seat q ≡ Some (Hung p k)) q os None (s.seat q) (λ _ e. absurd (cc (e))) (λ _ e. e))
      (λ q le. has_cond (λ y. y ≡ None) q os None (s.seat q) (λ _. refl) (λ _. own.fresh q le))

  pub hang_row : (o k v : ℕ) → 0 < count o mine → Exchanged f.own (v ∷ []) [] mine → ((q : ℕ) → s.seat q ≡ Some (Hung o k) → ⊥) → ((q j : ℕ) → s.seat q ≡ Some (Hung v j) → ⊥)
      → BeforeSweepIn (length L.clients) s.live (at t (record f { own = mine } ∷ fs) s.stack) (at v (Some (Hung o k)) s.seat) s.slots s.next_object
  hang_row o k v has_o loses empty leaf =
      let seat' : ℕ → Option Placement = at v (Some (Hung o k)) s.seat in
      let one = at_most_once L s own t f fs runs in
      let v_own : 0 < count v f.own = (let g = loses v in let h = one_here v in omega arith) in
      let o_own : 0 < count o f.own = (let g = loses o in omega arith) in
      let o_root = top_root L s own t f fs runs o o_own in
      let apart : o ≡ v → ⊥ = (λ e. let g = loses v in let h = one_here v in let m = one v in let has_v : 0 < count v mine = rw e at has_o in omega arith) in
      changed L s own t f fs runs mine (at v (Some (Hung o k)) s.seat) s.next_object
      (λ q. elim (cases_eq q v) [
        | inl e ↦ inr (inr (rw e (let g = loses v in let h = one_here v in omega arith), λ w is. let is' = rw e at is in let h : Some (Hung o k) ≡ Some (Root w) = sym (at_same v (Some (Hung o k)) s.seat) ∙ is' in cc))
        | inr ne ↦ inl (let g = loses q in let z = none_there v q ne in omega arith, at_other v (Some (Hung o k)) s.seat q ne)
      ])
      (λ a p j q i.
      at_each (λ x y. y ≡ Some (Hung p j) → seat' p ≡ Some (Hung q i) → ⊥) v (Some (Hung o k)) s.seat a
      (λ e. at_each (λ x y. o ≡ x → y ≡ Some (Hung q i) → ⊥) v (Some (Hung o k)) s.seat p (λ is _. apart is) (λ ne is e'. let e2 = rw (← is) at e' in cc (o_root, e2)) (cc e))
      (λ ne e. at_each (λ x y. s.seat a ≡ Some (Hung x j) → y ≡ Some (Hung q i) → ⊥) v (Some (Hung o k)) s.seat p (λ e' _. leaf a j e') (λ _ e' e2. let r = own.hung a p j e' in cc (r.1, e2)) e))
      (λ a b p j.
      at_each (λ x y. y ≡ Some (Hung p j) → seat' b ≡ Some (Hung p j) → x ≡ b) v (Some (Hung o k)) s.seat a
      (λ e. at_each (λ x y. y ≡ Some (Hung p j) → v ≡ x) v (Some (Hung o k)) s.seat b (λ _. refl) (λ ne e'. absurd (empty b (cc (e, e')))))
      (λ ne e. at_each (λ x y. y ≡ Some (Hung p j) → a ≡ x) v (Some (Hung o k)) s.seat b (λ e'. absurd (empty a (cc (e, e')))) (λ _ e'. own.cell a b p j e e')))
      (λ q le. at_each (λ j y. s.next_object ≤ j → y ≡ None) v (Some (Hung o k)) s.seat q (λ le'. absurd (let none = own.fresh v le' in let r = top_root L s own t f fs runs v v_own in cc (r, none))) (λ ne le'. own.fresh q le') le)
