-- Each row keeps frames and owners in place.
use Rattle.std.proofs.Common.{◌≡◌, ℕ, zero, suc, ◌<◌, ◌≤◌, true, false, List, [], ◌∷◌, Option, Some, None, refl, ap, sym, ◌∙◌, subst, arith, inl, inr, length}
use Rattle.std.proofs.lemmas.Bool.{cases_eq, both_ways, cases_lt}
use Rattle.machine_defs.specs.declared.values.Owner.{Owner}
use Rattle.machine_defs.specs.declared.values.Owner.TheVariants as owner
use Rattle.machine_defs.specs.declared.entry.Entry.{Entry}
use Rattle.machine_defs.specs.declared.entry.Entry.TheVariants as entry
use Rattle.rl_defs.specs.declared.load.LoadRows.{LoadRows}
use Rattle.rl_defs.specs.Domains.{load_of_target}
use Rattle.machine_defs.specs.State.{Placement, Root, Hung, lives}
use Rattle.machine_defs.specs.Loans.{count}
use Rattle.machine_defs.specs.Arguments.{moved_of}
use Rattle.machine_defs.specs.Arguments.{objects_in}
use Rattle.machine_laws.specs.Ledger.{LedgerFrame, Ledger, at, alive}
use Rattle.machine_laws.specs.LedgerRows.{Runs, give, remove, callee, Row}
use Rattle.machine_laws.specs.LedgerSound.{Owned, Grounded, PlacedIn, Placed}
use Rattle.machine_laws.proofs.Counts.{has_cond, loses_one}
use Rattle.machine_laws.proofs.Owners.{top_root}
use Rattle.machine_laws.proofs.OneStack.{at_each}
use Rattle.machine_laws.proofs.PassRows.{give_flat}
use Rattle.machine_laws.proofs.Calls.{grounded_own, grounded_more, ground, party_opened}
use Rattle.machine_laws.proofs.Rows.{at_same, at_other}

-- what a change of the seats keeps
pub record SeatsPlaced (seat : ℕ → Option Placement) (next_instance next_object : ℕ) : Type 0 where
  pub owners : (o i : ℕ) → seat o ≡ Some (Root (owner.Instance i)) → (0 < i) × (i < next_instance)
  pub parents : (o p k : ℕ) → seat o ≡ Some (Hung p k) → (0 < p) × (p < next_object)
  pub zero_free : seat 0 ≡ None
  pub some_object : 0 < next_object

module _ (L : LoadRows) (s : Ledger) (own : Owned L s) (p : Placed L s) where
  stack_changed : (t : ℕ) (new : List LedgerFrame) (seat' : ℕ → Option Placement) (nx nc : ℕ) → s.next_call ≤ nc → Grounded L s.loads s.next_instance nc t new → length new ≤ 32 → SeatsPlaced seat' s.next_instance nx
      → PlacedIn L s.loads s.live (at t new s.stack) seat' s.current s.next_instance nx nc
  stack_changed t new seat' nx nc le g few q = record {
    grounded = λ u pos lu. at_each (λ k fs. 0 < k → k ≤ length L.clients → Grounded L s.loads s.next_instance nc k fs) t new s.stack u (λ _ _. g)
        (λ _ a b. grounded_more L s.loads s.loads s.next_instance s.next_instance s.next_call nc u (λ _ _. refl) (omega arith) le (s.stack u) (p.grounded u a b)) pos lu;
    small = λ u pos lu. at_each (λ k fs. 0 < k → k ≤ length L.clients → length fs ≤ 32) t new s.stack u (λ _ _. few) (λ _. p.small u) pos lu;
    current_of = p.current_of;
    unopened = p.unopened;
    no_instance = p.no_instance;
    no_load = p.no_load;
    some_load = p.some_load;
    owners = q.owners;
    parents = q.parents;
    zero_free = q.zero_free;
    some_object = q.some_object;
  }

  seats : SeatsPlaced s.seat s.next_instance s.next_object
  seats = record { owners = p.owners; parents = p.parents; zero_free = p.zero_free; some_object = p.some_object }

  pub call_below : (t : ℕ) (f : LedgerFrame) (fs : List LedgerFrame) → Grounded L s.loads s.next_instance s.next_call t (f ∷ fs) → f.call < s.next_call
  call_below t f [] g = g.2
  call_below t f (h ∷ fs) g = g.3

  again_ground : (t : ℕ) (f : LedgerFrame) (fs : List LedgerFrame) (i : ℕ) → alive s.live f.party ≡ false → 0 < i → i < s.next_instance → s.loads i ≡ load_of_target L f.target
      → Grounded L s.loads s.next_instance s.next_call t (f ∷ fs) → Grounded L s.loads s.next_instance s.next_call t (record f { party = owner.Instance i; own = [] } ∷ fs)
  again_ground t f [] i dead pos lt is g = absurd (let e = g.0 in let l : alive s.live (owner.Client t) ≡ false = rw e at dead in cc (l))
  again_ground t f (h ∷ fs) i dead pos lt is g = ((i, refl, pos, lt, is), g.1, g.2, g.3, g.4)

  few : (t : ℕ) (f : LedgerFrame) (fs : List LedgerFrame) → Runs L s t f fs → suc (length fs) ≤ 32
  few t f fs runs = rw runs.stack at (p.small t runs.some runs.within)

  -- what lives was opened
  pub live_some : (i : ℕ) → s.live i ≡ true → 0 < i
  live_some zero lives = absurd (both_ways (s.live 0) p.no_instance lives)
  live_some (suc i) lives = omega arith

  -- the top frame's own objects change
  top : (t : ℕ) (f : LedgerFrame) (fs : List LedgerFrame) (mine : List ℕ) (runs : Runs L s t f fs) (seat' : ℕ → Option Placement) (nx nc : ℕ) → s.next_call ≤ nc → SeatsPlaced seat' s.next_instance nx
      → PlacedIn L s.loads s.live (at t (record f { own = mine } ∷ fs) s.stack) seat' s.current s.next_instance nx nc
  top t f fs mine runs seat' nx nc le q = stack_changed t (record f { own = mine } ∷ fs) seat' nx nc le
      (grounded_more L s.loads s.loads s.next_instance s.next_instance s.next_call nc t (λ _ _. refl) (omega arith) le (record f { own = mine } ∷ fs)
      (grounded_own L s.loads s.next_instance s.next_call t f mine fs (ground L s p t f fs runs.some runs.within runs.stack))) (few t f fs runs) q

  -- one object moves to a seat
  seat_at : (o : ℕ) (x : Option Placement) (nx : ℕ) → s.next_object ≤ nx → 0 < o → ((i : ℕ) → x ≡ Some (Root (owner.Instance i)) → (0 < i) × (i < s.next_instance)) → ((q k : ℕ) → x ≡ Some (Hung q k) → (0 < q) × (q < nx)) → SeatsPlaced (at o x s.seat) s.next_instance nx
  seat_at o x nx le pos roots hungs = record {
    owners = λ q i. at_each (λ k y. y ≡ Some (Root (owner.Instance i)) → (0 < i) × (i < s.next_instance)) o x s.seat q (roots i) (λ _. p.owners q i);
    parents = λ q a k. at_each (λ j y. y ≡ Some (Hung a k) → (0 < a) × (a < nx)) o x s.seat q (hungs a k) (λ _ e. let r = p.parents q a k e in (r.0, omega (arith, r.1)));
    zero_free = at_other o x s.seat 0 (λ e. omega arith) ∙ p.zero_free;
    some_object = let a = p.some_object in omega arith;
  }

  pub made_before : (o : ℕ) (x : Placement) → s.seat o ≡ Some x → (0 < o) × (o < s.next_object)
  made_before o x is = (
    elim (cases_eq o 0) [ inl e ↦ absurd (let z = p.zero_free in let is' : s.seat 0 ≡ Some x = rw e at is in cc (z, is')) | inr ne ↦ omega arith ],
    elim (cases_lt o s.next_object) [ inl l ↦ l | inr ge ↦ absurd (let z = own.fresh o ge in cc (z, is)) ],
  )

  seats_given : (os : List ℕ) (w : Owner) → ((o : ℕ) → 0 < count o os → (0 < o)) → ((i : ℕ) → w ≡ owner.Instance i → (0 < i) × (i < s.next_instance)) → SeatsPlaced (give os w s.seat) s.next_instance s.next_object
  seats_given os w pos to = record {
    owners = λ q i. has_cond (λ y. y ≡ Some (Root (owner.Instance i)) → (0 < i) × (i < s.next_instance)) q os (Some (Root w)) (s.seat q) (λ _ e. to i (cc (e))) (λ _. p.owners q i);
    parents = λ q a k e. p.parents q a k (give_flat os w s.seat q a k e);
    zero_free = has_cond (λ y. y ≡ None) 0 os (Some (Root w)) (s.seat 0) (λ c. absurd (let l = pos 0 c in omega arith)) (λ _. p.zero_free);
    some_object = p.some_object;
  }

  seats_removed : (os : List ℕ) → SeatsPlaced (remove os s.seat) s.next_instance s.next_object
  seats_removed os = record {
    owners = λ q i. has_cond (λ y. y ≡ Some (Root (owner.Instance i)) → (0 < i) × (i < s.next_instance)) q os None (s.seat q) (λ _ e. absurd (cc (e))) (λ _. p.owners q i);
    parents = λ q a k. has_cond (λ y. y ≡ Some (Hung a k) → (0 < a) × (a < s.next_object)) q os None (s.seat q) (λ _ e. absurd (cc (e))) (λ _. p.parents q a k);
    zero_free = has_cond (λ y. y ≡ None) 0 os None (s.seat 0) (λ _. refl) (λ _. p.zero_free);
    some_object = p.some_object;
  }

  pub own_made : (t : ℕ) (f : LedgerFrame) (fs : List LedgerFrame) (runs : Runs L s t f fs) (o : ℕ) → 0 < count o f.own → (0 < o) × (o < s.next_object)
  own_made t f fs runs o has_it = made_before o (Root f.party) (top_root L s own t f fs runs o has_it)

  ended : (i : ℕ) → Placed L (record s { live = at i false s.live })
  ended i = record {
    grounded = p.grounded;
    small = p.small;
    current_of = p.current_of;
    no_instance = at_each (λ k y. y ≡ false) i false s.live 0 refl (λ _. p.no_instance);
    no_load = p.no_load;
    some_load = p.some_load;
    unopened = λ j le. at_each (λ k y. s.next_instance ≤ k → y ≡ false) i false s.live j (λ _. refl) (λ _ l. p.unopened j l) le;
    owners = p.owners;
    parents = p.parents;
    zero_free = p.zero_free;
    some_object = p.some_object;
  }

  pub lower : (t : ℕ) (f g : LedgerFrame) (fs : List LedgerFrame) → Grounded L s.loads s.next_instance s.next_call t (f ∷ g ∷ fs) → Grounded L s.loads s.next_instance s.next_call t (g ∷ fs)
  lower t f g fs x = x.4

  -- restarts are left to targets alone, which have loads
  pub placed_row : ((x n : ℕ) → s.left x ≡ suc n → 0 < load_of_target L x) → (e : Entry) (z : Ledger) → Row L s e z → Placed L z
  placed_row loaded (entry.Call t n x i m args) z r =
      let f : LedgerFrame = r.0 in
      let fs : List LedgerFrame = r.1 in
      let mine : List ℕ = r.2 in
      let row = r.3 in
      let runs = row.runs in
      let opened : i < s.next_instance = (let a = (p.current_of x).0 in let b = row.into in omega arith) in
      subst (Placed L) (sym r.4) (stack_changed t (callee n x i m args ∷ record f { own = mine } ∷ fs) (give (moved_of args) (owner.Instance i) s.seat) s.next_object (suc n) (let b = row.number in omega arith) (
        (i, refl, live_some i row.lives, opened, ap s.loads row.into ∙ (p.current_of x).1),
        refl,
        (let b = row.number in omega (arith, call_below t f fs (ground L s p t f fs runs.some runs.within runs.stack))),
        omega arith,
        grounded_more L s.loads s.loads s.next_instance s.next_instance s.next_call (suc n) t (λ _ _. refl) (omega arith) (let b = row.number in omega arith) (record f { own = mine } ∷ fs)
            (grounded_own L s.loads s.next_instance s.next_call t f mine fs (ground L s p t f fs runs.some runs.within runs.stack)),
      )
      (let room = row.room in omega arith)
      (seats_given (moved_of args) (owner.Instance i) (λ o c. (own_made t f fs runs o (let a = row.passes.moved o in omega arith)).0) (λ j e. let e' : i ≡ j = cc (e) in let some = live_some i row.lives in (omega arith, omega arith))))
  placed_row loaded (entry.Refuse t n why x m args) z r = subst (Placed L) (sym r.7) (top t r.0 r.1 r.2 r.3 (remove (moved_of args) s.seat) s.next_object (suc n) (let b = r.4 in omega arith) (seats_removed (moved_of args)))
  placed_row loaded (entry.Ret t n results) z r =
      let f : LedgerFrame = r.0 in
      let g : LedgerFrame = r.1 in
      let fs : List LedgerFrame = r.2 in
      let runs = r.4 in
      let low = lower t f g fs (ground L s p t f (g ∷ fs) runs.some runs.within runs.stack) in
      subst (Placed L) (sym r.8) (stack_changed t (record g { own = r.3 } ∷ fs) (give (objects_in results) g.party s.seat) s.next_object s.next_call (omega arith)
      (grounded_own L s.loads s.next_instance s.next_call t g r.3 fs low) (let a = few t f (g ∷ fs) runs in omega arith)
      (seats_given (objects_in results) g.party (λ o c. (own_made t f (g ∷ fs) runs o (let a = r.6 o in omega arith)).0) (λ i e. party_opened L s.loads s.next_instance s.next_call t g fs i low e)))
  placed_row loaded (entry.Unwound t n) z r =
      let dead = r.4 in
      let low = lower t r.0 r.1 r.2 (ground L s p t r.0 (r.1 ∷ r.2) dead.some dead.within dead.stack) in
      let a : suc (length (r.1 ∷ r.2)) ≤ 32 = rw dead.stack at (p.small t dead.some dead.within) in
      subst (Placed L) (sym r.8) (stack_changed t (record r.1 { own = r.3 } ∷ r.2) s.seat s.next_object s.next_call (omega arith) (grounded_own L s.loads s.next_instance s.next_call t r.1 r.3 r.2 low) (omega arith) seats)
  placed_row loaded (entry.Reload t x i left) z r =
      let e = r.6 in
      let first : (0 ≡ i) → ⊥ = λ is. (let some = (p.current_of 0).0 in omega arith) in
      let same : (j : ℕ) → j < s.next_instance → at i (load_of_target L x) s.loads j ≡ s.loads j = λ j lt. at_other i (load_of_target L x) s.loads j (λ is. omega arith) in
      subst (Placed L) (sym r.9) (record {
        grounded = λ u pos lu. grounded_more L s.loads (at i (load_of_target L x) s.loads) s.next_instance (suc i) s.next_call s.next_call u same (omega arith) (omega arith) (s.stack u) (p.grounded u pos lu);
        small = p.small;
        current_of = λ y. elim (cases_eq y x) [
          | inl is ↦ rw (is, at_same x i s.current) (omega arith, at_same i (load_of_target L x) s.loads)
          | inr ne ↦ rw (at_other x i s.current y ne) (let c = p.current_of y in (let l = c.0 in omega arith, same (s.current y) c.0 ∙ c.1))
        ];
        unopened = λ j le. at_other i true s.live j (λ is. omega arith) ∙ p.unopened j (omega arith);
        no_instance = at_other i true s.live 0 (λ is. first is) ∙ p.no_instance;
        no_load = at_other i (load_of_target L x) s.loads 0 (λ is. first is) ∙ p.no_load;
        some_load = λ j pos lt. elim (cases_eq j i) [
          | inl is ↦ rw (is, at_same i (load_of_target L x) s.loads) (loaded x left r.5)
          | inr ne ↦ rw (at_other i (load_of_target L x) s.loads j ne) (p.some_load j pos (omega arith))
        ];
        owners = λ o j is. (let l = p.owners o j is in (l.0, let high = l.1 in omega arith));
        parents = p.parents;
        zero_free = p.zero_free;
        some_object = p.some_object;
      })
  placed_row loaded (entry.Again t n x i) z r =
      let f : LedgerFrame = r.0 in
      let fs : List LedgerFrame = r.1 in
      let dead = r.2 in
      let opened : i < s.next_instance = (let a = (p.current_of x).0 in let b = r.5 in omega arith) in
      let a : suc (length fs) ≤ 32 = rw dead.stack at (p.small t dead.some dead.within) in
      subst (Placed L) (sym r.8) (stack_changed t (record f { party = owner.Instance i; own = [] } ∷ fs) s.seat s.next_object s.next_call (omega arith)
      (again_ground t f fs i dead.dead (live_some i r.6) opened (ap s.loads r.5 ∙ (p.current_of x).1 ∙ ap (load_of_target L) (sym r.4.through)) (ground L s p t f fs dead.some dead.within dead.stack)) a seats)
  placed_row loaded (entry.Trap t i cause) z r = subst (Placed L) (sym r.4) (ended i)
  placed_row loaded (entry.Kill t i) z r = subst (Placed L) (sym r.4) (ended i)
  placed_row loaded (entry.New t w o ty values) z r = subst (Placed L) (sym r.7) (top t r.0 r.1 r.2 r.3 (at o (Some (Root w)) s.seat) (suc o) s.next_call (omega arith)
      (seat_at o (Some (Root w)) (suc o) (let e = r.5 in omega arith) (let e = r.5 in let q = p.some_object in omega arith)
      (λ i e. party_opened L s.loads s.next_instance s.next_call t r.0 r.1 i (ground L s p t r.0 r.1 r.3.some r.3.within r.3.stack) (cc (r.4, e))) (λ q k e. absurd (cc (e)))))
  placed_row loaded (entry.Drop t o) z r = subst (Placed L) (sym r.5) (top t r.0 r.1 r.2 r.3 (at o None s.seat) s.next_object s.next_call (omega arith)
      (seat_at o None s.next_object (omega arith) (own_made t r.0 r.1 r.3 o (loses_one r.0.own o r.2 r.4)).0 (λ i e. absurd (cc (e))) (λ q k e. absurd (cc (e)))))
  placed_row loaded (entry.Set t o place values) z r = subst (Placed L) (sym r.6) (top t r.0 r.1 r.2 r.3 s.seat s.next_object s.next_call (omega arith) seats)
  placed_row loaded (entry.Wput t i place value) z r = subst (Placed L) (sym r.6) (top t r.0 r.1 r.2 r.3 s.seat s.next_object s.next_call (omega arith) seats)
  placed_row loaded (entry.Take t i slot o) z r = subst (Placed L) (sym r.9) (top t r.1 r.2 r.3 r.4 s.seat s.next_object s.next_call (omega arith) seats)
  placed_row loaded (entry.Put t i slot o) z r = subst (Placed L) (sym r.9) (top t r.1 r.2 r.3 r.4 s.seat s.next_object s.next_call (omega arith) seats)
  placed_row loaded (entry.DevGet t o b) z r = subst (Placed L) (sym r.6) (top t r.0 r.1 r.2 r.3 s.seat s.next_object s.next_call (omega arith) seats)
  placed_row loaded (entry.DevPut t b o) z r = subst (Placed L) (sym r.6) (top t r.0 r.1 r.2 r.3 s.seat s.next_object s.next_call (omega arith) seats)
  placed_row loaded (entry.Hang t o k v) z r =
      let v_made = own_made t r.0 r.1 r.3 v (loses_one r.0.own v r.2 r.5) in
      let o_made = own_made t r.0 r.1 r.3 o (let a = r.5 o in let b = r.4 in omega arith) in
      subst (Placed L) (sym r.8) (top t r.0 r.1 r.2 r.3 (at v (Some (Hung o k)) s.seat) s.next_object s.next_call (omega arith)
      (seat_at v (Some (Hung o k)) s.next_object (omega arith) v_made.0 (λ i e. absurd (cc (e))) (λ q j e. let is : o ≡ q = cc (e) in rw (← is) o_made)))
  placed_row loaded (entry.Unhang t o k v) z r =
      let v_made = made_before v (Hung o k) r.5 in
      subst (Placed L) (sym r.7) (top t r.0 r.1 r.2 r.3 (at v (Some (Root r.0.party)) s.seat) s.next_object s.next_call (omega arith)
      (seat_at v (Some (Root r.0.party)) s.next_object (omega arith) v_made.0 (λ i e. party_opened L s.loads s.next_instance s.next_call t r.0 r.1 i (ground L s p t r.0 r.1 r.3.some r.3.within r.3.stack) (cc (e))) (λ q j e. absurd (cc (e)))))
  placed_row loaded (entry.Show t o values) z r = subst (Placed L) (sym r.4) p
  placed_row loaded (entry.Skip t number) z r = subst (Placed L) (sym r.2) p
  placed_row loaded (entry.Done t) z r = subst (Placed L) (sym r.2) p
  placed_row loaded (entry.Free o) z r = absurd r
