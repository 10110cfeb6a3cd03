-- A quiet row of the ledger leaves no object doomed.
use Rattle.std.proofs.Common.{◌≡◌, ℕ, ◌<◌, ◌≤◌, Bool, true, false, ◌⊎◌, List, [], ◌∷◌, Option, Some, None, refl, ap, sym, subst, ◌∙◌, arith, inl, inr}
use Rattle.std.proofs.lemmas.Bool.{cases_Bool, cases_eq, both_ways}
use Rattle.rl_defs.specs.declared.load.LoadRows.{LoadRows}
use Rattle.machine_defs.specs.declared.values.Owner.{Owner}
use Rattle.machine_defs.specs.declared.values.Owner.TheVariants as owner
use Rattle.machine_defs.specs.declared.entry.Entry.{Entry}
use Rattle.machine_defs.specs.declared.entry.Entry.TheVariants as entry
use Rattle.machine_defs.specs.State.{Placement, Root, Hung}
use Rattle.machine_defs.specs.Arguments.{has, moved_of}
use Rattle.machine_defs.specs.Loans.{count}
use Rattle.machine_laws.specs.Ledger.{LedgerFrame, Ledger, at, alive, loans, is_lost, is_doomed_at, is_doomed}
use Rattle.machine_laws.specs.LedgerRows.{Row, Runs, Exchanged, give}
use Rattle.machine_laws.specs.LedgerSound.{Owned}
use Rattle.machine_laws.proofs.Owners.{top_root}
use Rattle.machine_laws.proofs.OwnRows.{at_flat, hang_row}
use Rattle.machine_laws.proofs.PassRows.{give_flat}
use Rattle.machine_laws.proofs.Rows.{at_same, at_other}
use Rattle.machine_laws.proofs.Sweeping.{not_lost}
use Rattle.step_laws.specs.StepLaws.{is_quiet}
use Rattle.step_laws.proofs.LedgerLoans.{loans_row}

-- No owner ends, no loan falls, each root is its owner's as before or has an owner that lives, and parents are roots that are there.
pub record EndsNothing (L : LoadRows) (s z : Ledger) : Type 0 where
  pub lives : (w : Owner) → alive s.live w ≡ true → alive z.live w ≡ true
  pub lent : (o : ℕ) → loans L s o ≤ loans L z o
  pub roots : (o : ℕ) (w : Owner) → z.seat o ≡ Some (Root w) → (s.seat o ≡ Some (Root w)) ⊎ (alive z.live w ≡ true)
  pub parents : (o parent place : ℕ) → z.seat o ≡ Some (Hung parent place) → (w : Owner) × (z.seat parent ≡ Some (Root w))

-- a root stays whose owner doesn't end, where its loans don't fall; and one whose owner lives
pub kept_root : (L : LoadRows) (s : Ledger) → Owned L s → (live : ℕ → Bool) (n o : ℕ) (w : Owner) → (alive s.live w ≡ true → alive live w ≡ true) → loans L s o ≤ n
    → (s.seat o ≡ Some (Root w)) ⊎ (alive live w ≡ true) → is_lost live n w ≡ false
kept_root L s own live n o w lives more (inr alive') = rw alive' refl
kept_root L s own live n o w lives more (inl before) = elim (cases_Bool (alive live w)) [
  | inl alive' ↦ rw alive' refl
  | inr dead ↦
      elim (cases_Bool (alive s.live w)) [
        | inl was ↦ absurd (both_ways (alive live w) dead (lives was))
        | inr over ↦ let some = own.rest w o before over in not_lost live n w (omega (arith, some, more))
      ]
]

module _ (L : LoadRows) (s : Ledger) (own : Owned L s) (z : Ledger) (e : EndsNothing L s z) where
  stays : (o : ℕ) (w : Owner) → z.seat o ≡ Some (Root w) → is_lost z.live (loans L z o) w ≡ false
  stays o w seat = kept_root L s own z.live (loans L z o) o w (e.lives w) (e.lent o) (e.roots o w seat)

  pub undoomed : (o : ℕ) → is_doomed L z o ≡ false
  undoomed o = go (z.seat o) refl
    where
      go : (x : Option Placement) → z.seat o ≡ x → is_doomed_at z.live (loans L z) z.seat o x ≡ false
      go None is = refl
      go (Some (Root w)) is = stays o w is
      go (Some (Hung p k)) is = let r = e.parents o p k is in rw r.1 (stays p r.0 r.1)

-- what is a root stays one where objects pass to owners
pub given_root : (os : List ℕ) (w : Owner) (seat : ℕ → Option Placement) (p : ℕ) (v : Owner) → seat p ≡ Some (Root v) → (u : Owner) × (give os w seat p ≡ Some (Root u))
given_root os w seat p v is = elim (cases_Bool (has os p)) [
  | inl e ↦ (w, rw e refl)
  | inr e ↦ (v, rw e is)
]

made_root : (o : ℕ) (w : Owner) (seat : ℕ → Option Placement) (p : ℕ) (v : Owner) → seat p ≡ Some (Root v) → (u : Owner) × (at o (Some (Root w)) seat p ≡ Some (Root u))
made_root o w seat p v is = elim (cases_eq p o) [
  | inl e ↦ (w, rw e (at_same o (Some (Root w)) seat))
  | inr ne ↦ (v, at_other o (Some (Root w)) seat p ne ∙ is)
]

module _ (L : LoadRows) (s : Ledger) (own : Owned L s) where
  -- objects pass to an owner that lives
  given_roots : (os : List ℕ) (w : Owner) → alive s.live w ≡ true → (o : ℕ) (v : Owner) → give os w s.seat o ≡ Some (Root v) → (s.seat o ≡ Some (Root v)) ⊎ (alive s.live v ≡ true)
  given_roots os w lives o v is = elim (cases_Bool (has os o)) [
    | inl e ↦ (let e' : Some (Root w) ≡ Some (Root v) = rw e at is in let same : w ≡ v = cc in inr (subst (λ x. alive s.live x ≡ true) same lives))
    | inr e ↦ inl (rw e at is)
  ]

  given_parents : (os : List ℕ) (w : Owner) (o p k : ℕ) → give os w s.seat o ≡ Some (Hung p k) → (u : Owner) × (give os w s.seat p ≡ Some (Root u))
  given_parents os w o p k is = let r = own.hung o p k (give_flat os w s.seat o p k is) in given_root os w s.seat p r.0 r.1

  made_roots : (q : ℕ) (w : Owner) → alive s.live w ≡ true → (o : ℕ) (v : Owner) → at q (Some (Root w)) s.seat o ≡ Some (Root v) → (s.seat o ≡ Some (Root v)) ⊎ (alive s.live v ≡ true)
  made_roots q w lives o v is = elim (cases_eq o q) [
    | inl e ↦ (let e' : Some (Root w) ≡ Some (Root v) = sym (at_same q (Some (Root w)) s.seat) ∙ (rw e at is) in let same : w ≡ v = cc in inr (subst (λ x. alive s.live x ≡ true) same lives))
    | inr ne ↦ inl (sym (at_other q (Some (Root w)) s.seat o ne) ∙ is)
  ]

  made_parents : (q : ℕ) (w : Owner) (o p k : ℕ) → at q (Some (Root w)) s.seat o ≡ Some (Hung p k) → (u : Owner) × (at q (Some (Root w)) s.seat p ≡ Some (Root u))
  made_parents q w o p k is = let r = own.hung o p k (at_flat q (Some (Root w)) s.seat (λ a b e. cc) o p k is) in made_root q w s.seat p r.0 r.1

  -- seats and lives stay
  seats_stay : (z : Ledger) → ((o : ℕ) → loans L s o ≤ loans L z o) → z.live ≡ s.live → z.seat ≡ s.seat → EndsNothing L s z
  seats_stay z lent live seat = record {
    lives = λ w a. subst (λ l. alive l w ≡ true) (sym live) a;
    lent = lent;
    roots = λ o w is. inl (sym (ap (λ (f : ℕ → Option Placement). f o) seat) ∙ is);
    parents = λ o p k is. (let r = own.hung o p k (sym (ap (λ (f : ℕ → Option Placement). f o) seat) ∙ is) in (r.0, ap (λ (f : ℕ → Option Placement). f p) seat ∙ r.1));
  }

  equal : (z : Ledger) (o : ℕ) → loans L z o ≡ loans L s o → loans L s o ≤ loans L z o
  equal z o e = omega (arith, e)

  -- an object becomes, or is anew, a root of who runs
  rooted : (z : Ledger) (q : ℕ) (f : LedgerFrame) (fs : List LedgerFrame) {t : ℕ} → Runs L s t f fs → ((o : ℕ) → loans L s o ≤ loans L z o) → z.live ≡ s.live → z.seat ≡ at q (Some (Root f.party)) s.seat → EndsNothing L s z
  rooted z q f fs runs lent live seat = record {
    lives = λ w a. subst (λ l. alive l w ≡ true) (sym live) a;
    lent = lent;
    roots = λ o w is. subst (λ l. (s.seat o ≡ Some (Root w)) ⊎ (alive l w ≡ true)) (sym live) (made_roots q f.party runs.lives o w (sym (ap (λ (g : ℕ → Option Placement). g o) seat) ∙ is));
    parents = λ o p k is. subst (λ g. (w : Owner) × (g p ≡ Some (Root w))) (sym seat) (made_parents q f.party o p k (sym (ap (λ (g : ℕ → Option Placement). g o) seat) ∙ is));
  }

  -- an object hangs in a root of who runs
  hung_parents : (t : ℕ) (f : LedgerFrame) (fs : List LedgerFrame) (mine : List ℕ) (q k v : ℕ) → Runs L s t f fs → 0 < count q mine → Exchanged f.own (v ∷ []) [] mine
      → ((a : ℕ) → s.seat a ≡ Some (Hung q k) → ⊥) → ((a j : ℕ) → s.seat a ≡ Some (Hung v j) → ⊥)
      → (o p j : ℕ) → at v (Some (Hung q k)) s.seat o ≡ Some (Hung p j) → (w : Owner) × (at v (Some (Hung q k)) s.seat p ≡ Some (Root w))
  hung_parents t f fs mine q k v runs has_q loses empty leaf o p j is =
      let before = hang_row L s own t f fs runs mine q k v has_q loses empty leaf in
      let q_own : 0 < count q f.own = (let g = loses q in omega arith) in
      let q_root = top_root L s own t f fs runs q q_own in
      elim (cases_eq p v) [
        | inl e ↦ absurd (before.hung o p j q k is (rw e (at_same v (Some (Hung q k)) s.seat)))
        | inr ne ↦
            let stays = at_other v (Some (Hung q k)) s.seat p ne in
            elim (cases_eq o v) [
              | inl e ↦
                  let e' : Some (Hung q k) ≡ Some (Hung p j) = sym (at_same v (Some (Hung q k)) s.seat) ∙ (rw e at is) in
                  let same : q ≡ p = cc in
                  (f.party, stays ∙ subst (λ n. s.seat n ≡ Some (Root f.party)) same q_root)
              | inr apart ↦ let r = own.hung o p j (sym (at_other v (Some (Hung q k)) s.seat o apart) ∙ is) in (r.0, stays ∙ r.1)
            ]
      ]

  hung_roots : (q k v o : ℕ) (w : Owner) → at v (Some (Hung q k)) s.seat o ≡ Some (Root w) → s.seat o ≡ Some (Root w)
  hung_roots q k v o w is = elim (cases_eq o v) [
    | inl e ↦ absurd (let e' : Some (Hung q k) ≡ Some (Root w) = sym (at_same v (Some (Hung q k)) s.seat) ∙ (rw e at is) in cc)
    | inr ne ↦ sym (at_other v (Some (Hung q k)) s.seat o ne) ∙ is
  ]

  pub quiet_row : (e : Entry) (z : Ledger) → Row L s e z → is_quiet e ≡ true → EndsNothing L s z
  quiet_row (entry.Call t c x i m args) z r quiet =
      let more : (o : ℕ) → loans L s o ≤ loans L z o = λ o. (let e = loans_row L s o (entry.Call t c x i m args) z r in omega (arith, e)) in
      let seat : z.seat ≡ give (moved_of args) (owner.Instance i) s.seat = ap (λ (y : Ledger). y.seat) r.4 in
      let live : z.live ≡ s.live = ap (λ (y : Ledger). y.live) r.4 in
      record {
        lives = λ w a. subst (λ l. alive l w ≡ true) (sym live) a;
        lent = more;
        roots = λ o w is. subst (λ l. (s.seat o ≡ Some (Root w)) ⊎ (alive l w ≡ true)) (sym live) (given_roots (moved_of args) (owner.Instance i) r.3.lives o w (sym (ap (λ (f : ℕ → Option Placement). f o) seat) ∙ is));
        parents = λ o p k is. subst (λ f. (w : Owner) × (f p ≡ Some (Root w))) (sym seat) (given_parents (moved_of args) (owner.Instance i) o p k (sym (ap (λ (f : ℕ → Option Placement). f o) seat) ∙ is));
      }
  quiet_row (entry.Reload t x i left) z r quiet =
      let more : (o : ℕ) → loans L s o ≤ loans L z o = λ o. equal z o (loans_row L s o (entry.Reload t x i left) z r) in
      let seat : z.seat ≡ s.seat = ap (λ (y : Ledger). y.seat) r.9 in
      let live : z.live ≡ at i true s.live = ap (λ (y : Ledger). y.live) r.9 in
      let stays : (w : Owner) → alive s.live w ≡ true → alive (at i true s.live) w ≡ true = opened i in
      record {
        lives = λ w a. subst (λ l. alive l w ≡ true) (sym live) (stays w a);
        lent = more;
        roots = λ o w is. inl (sym (ap (λ (f : ℕ → Option Placement). f o) seat) ∙ is);
        parents = λ o p k is. (let q = own.hung o p k (sym (ap (λ (f : ℕ → Option Placement). f o) seat) ∙ is) in (q.0, ap (λ (f : ℕ → Option Placement). f p) seat ∙ q.1));
      }
    where
      opened : (i : ℕ) (w : Owner) → alive s.live w ≡ true → alive (at i true s.live) w ≡ true
      opened i (owner.Client c) a = refl
      opened i (owner.Instance j) a = elim (cases_eq j i) [
        | inl e ↦ rw e (at_same i true s.live)
        | inr ne ↦ at_other i true s.live j ne ∙ a
      ]
  quiet_row (entry.Again t c x i) z r quiet = seats_stay z (λ o. equal z o (loans_row L s o (entry.Again t c x i) z r)) (ap (λ (y : Ledger). y.live) r.8) (ap (λ (y : Ledger). y.seat) r.8)
  quiet_row (entry.New t w q ty values) z r quiet = rooted z q r.0 r.1 r.3 (λ o. equal z o (loans_row L s o (entry.New t w q ty values) z r)) (ap (λ (y : Ledger). y.live) r.7) (ap (λ (y : Ledger). y.seat) r.7 ∙ ap (λ v. at q (Some (Root v)) s.seat) r.4)
  quiet_row (entry.Set t q place values) z r quiet = seats_stay z (λ o. equal z o (loans_row L s o (entry.Set t q place values) z r)) (ap (λ (y : Ledger). y.live) r.6) (ap (λ (y : Ledger). y.seat) r.6)
  quiet_row (entry.Wput t i place value) z r quiet = seats_stay z (λ o. equal z o (loans_row L s o (entry.Wput t i place value) z r)) (ap (λ (y : Ledger). y.live) r.6) (ap (λ (y : Ledger). y.seat) r.6)
  quiet_row (entry.Take t i slot q) z r quiet = seats_stay z (λ o. equal z o (loans_row L s o (entry.Take t i slot q) z r)) (ap (λ (y : Ledger). y.live) r.9) (ap (λ (y : Ledger). y.seat) r.9)
  quiet_row (entry.Put t i slot q) z r quiet = seats_stay z (λ o. equal z o (loans_row L s o (entry.Put t i slot q) z r)) (ap (λ (y : Ledger). y.live) r.9) (ap (λ (y : Ledger). y.seat) r.9)
  quiet_row (entry.DevGet t q b) z r quiet = seats_stay z (λ o. equal z o (loans_row L s o (entry.DevGet t q b) z r)) (ap (λ (y : Ledger). y.live) r.6) (ap (λ (y : Ledger). y.seat) r.6)
  quiet_row (entry.DevPut t b q) z r quiet = seats_stay z (λ o. equal z o (loans_row L s o (entry.DevPut t b q) z r)) (ap (λ (y : Ledger). y.live) r.6) (ap (λ (y : Ledger). y.seat) r.6)
  quiet_row (entry.Hang t q k v) z r quiet =
      let seat : z.seat ≡ at v (Some (Hung q k)) s.seat = ap (λ (y : Ledger). y.seat) r.8 in
      let live : z.live ≡ s.live = ap (λ (y : Ledger). y.live) r.8 in
      record {
        lives = λ w a. subst (λ l. alive l w ≡ true) (sym live) a;
        lent = λ o. equal z o (loans_row L s o (entry.Hang t q k v) z r);
        roots = λ o w is. inl (hung_roots q k v o w (sym (ap (λ (g : ℕ → Option Placement). g o) seat) ∙ is));
        parents = λ o p j is. subst (λ g. (w : Owner) × (g p ≡ Some (Root w))) (sym seat) (hung_parents t r.0 r.1 r.2 q k v r.3 r.4 r.5 r.6 r.7 o p j (sym (ap (λ (g : ℕ → Option Placement). g o) seat) ∙ is));
      }
  quiet_row (entry.Unhang t q k v) z r quiet = rooted z v r.0 r.1 r.3 (λ o. equal z o (loans_row L s o (entry.Unhang t q k v) z r)) (ap (λ (y : Ledger). y.live) r.7) (ap (λ (y : Ledger). y.seat) r.7)
  quiet_row (entry.Show t q values) z r quiet = seats_stay z (λ o. equal z o (loans_row L s o (entry.Show t q values) z r)) (ap (λ (y : Ledger). y.live) r.4) (ap (λ (y : Ledger). y.seat) r.4)
  quiet_row (entry.Skip t number) z r quiet = seats_stay z (λ o. equal z o (loans_row L s o (entry.Skip t number) z r)) (ap (λ (y : Ledger). y.live) r.2) (ap (λ (y : Ledger). y.seat) r.2)
  quiet_row (entry.Done t) z r quiet = seats_stay z (λ o. equal z o (loans_row L s o (entry.Done t) z r)) (ap (λ (y : Ledger). y.live) r.2) (ap (λ (y : Ledger). y.seat) r.2)
  quiet_row (entry.Free q) z r quiet = absurd r
  quiet_row (entry.Drop t q) z r quiet = absurd cc
  quiet_row (entry.Refuse t c why x m args) z r quiet = absurd cc
  quiet_row (entry.Ret t c results) z r quiet = absurd cc
  quiet_row (entry.Unwound t c) z r quiet = absurd cc
  quiet_row (entry.Trap t i cause) z r quiet = absurd cc
  quiet_row (entry.Kill t i) z r quiet = absurd cc

  -- an instance that has ended ends again
  pub again_row : (t i : ℕ) (z : Ledger) → Row L s (entry.Kill t i) z → s.live i ≡ false → EndsNothing L s z
  again_row t i z r over =
      let seat : z.seat ≡ s.seat = ap (λ (y : Ledger). y.seat) r.4 in
      let live : z.live ≡ at i false s.live = ap (λ (y : Ledger). y.live) r.4 in
      record {
        lives = λ w a. subst (λ l. alive l w ≡ true) (sym live) (still w a);
        lent = λ o. equal z o (loans_row L s o (entry.Kill t i) z r);
        roots = λ o w is. inl (sym (ap (λ (f : ℕ → Option Placement). f o) seat) ∙ is);
        parents = λ o p k is. (let q = own.hung o p k (sym (ap (λ (f : ℕ → Option Placement). f o) seat) ∙ is) in (q.0, ap (λ (f : ℕ → Option Placement). f p) seat ∙ q.1));
      }
    where
      still : (w : Owner) → alive s.live w ≡ true → alive (at i false s.live) w ≡ true
      still (owner.Client c) a = refl
      still (owner.Instance j) a = elim (cases_eq j i) [
        | inl e ↦ absurd (both_ways (s.live i) over (subst (λ n. s.live n ≡ true) e a))
        | inr ne ↦ at_other i false s.live j ne ∙ a
      ]
