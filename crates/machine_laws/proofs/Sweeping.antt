-- A sweep makes a state sound that is sound but for what is doomed.
use Rattle.std.proofs.Common.{◌≡◌, ℕ, ◌<◌, ◌≤◌, ◌==◌, Bool, true, false, cond, not, List, [], ◌∷◌, Option, Some, None, refl, ap, sym, ◌∙◌, subst, arith, inl, inr, length}
use Rattle.std.proofs.lemmas.Bool.{cases_eq, cases_Bool, eqb-true, eq-eqb, and_parts, and_from, not-true, both_ways}
use Rattle.machine_defs.specs.declared.values.Owner.{Owner}
use Rattle.rl_defs.specs.declared.load.LoadRows.{LoadRows}
use Rattle.machine_defs.specs.State.{Placement, Root, Hung, lives}
use Rattle.machine_defs.specs.Report.{same_owner}
use Rattle.machine_laws.specs.Ledger.{LedgerFrame, Ledger, alive, lent_in, loans_in, loans, is_lost, is_lost_above, is_doomed_at, is_doomed, sweep}
use Rattle.machine_laws.specs.LedgerSound.{held_in, is_of, Covered, Owned}
use Rattle.machine_laws.proofs.Owners.{same_is}

-- what holds of a state before its sweep
pub record BeforeSweepIn (n : ℕ) (live : ℕ → Bool) (stack : ℕ → List LedgerFrame) (seat : ℕ → Option Placement) (slots : ℕ → List (Option ℕ)) (next : ℕ) : Type 0 where
  pub once : (w : Owner) (o : ℕ) → alive live w ≡ true → held_in n stack slots w o ≡ cond (is_of w (seat o)) 1 0
  pub hung : (o p k q j : ℕ) → seat o ≡ Some (Hung p k) → seat p ≡ Some (Hung q j) → ⊥
  pub cell : (o q p k : ℕ) → seat o ≡ Some (Hung p k) → seat q ≡ Some (Hung p k) → o ≡ q
  pub lent : (o : ℕ) → 0 < loans_in n stack o → (w : Owner) × (seat o ≡ Some (Root w))
  pub stacks : (t u o : ℕ) → 0 < lent_in o (stack t) → 0 < lent_in o (stack u) → t ≡ u
  pub within : (t o : ℕ) → 0 < lent_in o (stack t) → (0 < t) × (t ≤ n)
  pub covered : (t : ℕ) → Covered live seat (stack t)
  pub fresh : (o : ℕ) → next ≤ o → seat o ≡ None

abbrev pub BeforeSweep : LoadRows → Ledger → Type 0
BeforeSweep L s = BeforeSweepIn (length L.clients) s.live s.stack s.seat s.slots s.next_object

-- a seat after the sweep was the seat before it, and not doomed
pub kept_some : (d : Bool) (x : Option Placement) (v : Placement) → cond d None x ≡ Some v → (d ≡ false) × (x ≡ Some v)
kept_some true x v e = absurd cc
kept_some false x v e = (refl, e)

pub covered_weaker : (live live' : ℕ → Bool) (seat seat' : ℕ → Option Placement) (fs : List LedgerFrame)
    → ((o : ℕ) (w : Owner) → 0 < lent_in o fs → seat' o ≡ Some (Root w) → alive live' w ≡ true → (seat o ≡ Some (Root w)) × (alive live w ≡ true))
    → Covered live seat fs → Covered live' seat' fs
covered_weaker live live' seat seat' [] weaker c = tt
covered_weaker live live' seat seat' (f ∷ fs) weaker c = (
  λ o w pos is lives. let r = weaker o w (omega arith) is lives in c.0 o w pos r.0 r.1,
  covered_weaker live live' seat seat' fs (λ o w pos is lives. weaker o w (omega arith) is lives) c.1,
)

-- what is lost has an owner that isn't alive
pub lost_dead : (live : ℕ → Bool) (n : ℕ) (w : Owner) → is_lost live n w ≡ true → (alive live w ≡ false) × (n ≡ 0)
lost_dead live n w e = let r = and_parts (not (alive live w)) (n == 0) e in (not-true (alive live w) r.0, eqb-true n 0 r.1)

pub lost_from : (live : ℕ → Bool) (n : ℕ) (w : Owner) → alive live w ≡ false → n ≡ 0 → is_lost live n w ≡ true
lost_from live n w dead none = and_from (not (alive live w)) (n == 0) (rw dead refl) (eq-eqb n 0 none)

-- a live owner has as much after the sweep as before
pub sweep_is_of : (live : ℕ → Bool) (loans : ℕ → ℕ) (seat : ℕ → Option Placement) (o : ℕ) (w : Owner) (x : Option Placement) → alive live w ≡ true
    → is_of w (cond (is_doomed_at live loans seat o x) None x) ≡ is_of w x
sweep_is_of live loans seat o w None lives = refl
sweep_is_of live loans seat o w (Some (Hung p k)) lives = elim (cases_Bool (is_lost_above live loans p (seat p))) [
  | inl e ↦ rw e refl
  | inr e ↦ rw e refl
]
sweep_is_of live loans seat o w (Some (Root v)) lives = elim (cases_Bool (is_lost live (loans o) v)) [
  | inl e ↦ rw e (elim (cases_Bool (same_owner w v)) [
    | inl same ↦ absurd (both_ways (alive live v) (lost_dead live (loans o) v e).0 (subst (λ x. alive live x ≡ true) (same_is w v same) lives))
    | inr other ↦ sym other
  ])
  | inr e ↦ rw e refl
]

pub not_lost : (live : ℕ → Bool) (n : ℕ) (w : Owner) → 0 < n → is_lost live n w ≡ false
not_lost live n w pos = elim (cases_Bool (is_lost live n w)) [
  | inl e ↦ absurd (let r = lost_dead live n w e in let z = r.1 in omega arith)
  | inr e ↦ e
]

-- what hangs and stays, hangs in a root that stays
pub stays_below : (live : ℕ → Bool) (loans : ℕ → ℕ) (seat : ℕ → Option Placement) (p : ℕ) (x : Option Placement) → ((q j : ℕ) → x ≡ Some (Hung q j) → ⊥)
    → is_lost_above live loans p x ≡ false → (w : Owner) × (cond (is_doomed_at live loans seat p x) None x ≡ Some (Root w))
stays_below live loans seat p None flat e = absurd cc
stays_below live loans seat p (Some (Root w)) flat e = (w, rw e refl)
stays_below live loans seat p (Some (Hung q j)) flat e = absurd (flat q j refl)

module _ (L : LoadRows) (s : Ledger) (l : BeforeSweep L s) where
  pub swept_owned : Owned L (sweep L s)
  swept_owned = record {
    once = λ w o lives. l.once w o lives ∙ ap (λ b. cond b 1 0) (sym (sweep_is_of s.live (loans L s) s.seat o w (s.seat o) lives));
    rest = λ w o is dead. (
        let r = kept_some (is_doomed L s o) (s.seat o) (Root w) is in
        elim (cases_eq (loans L s o) 0) [
          | inl none ↦ absurd (both_ways (is_doomed L s o) r.0 (rw r.1 (lost_from s.live (loans L s o) w dead none)))
          | inr some ↦ omega arith
        ]);
    hung = λ o p k is. (
        let r = kept_some (is_doomed L s o) (s.seat o) (Hung p k) is in
        let stays : is_lost_above s.live (loans L s) p (s.seat p) ≡ false = rw r.1 at r.0 in
        stays_below s.live (loans L s) s.seat p (s.seat p) (λ q j there. l.hung o p k q j r.1 there) stays);
    cell = λ o q p k a b. l.cell o q p k (kept_some (is_doomed L s o) (s.seat o) (Hung p k) a).1 (kept_some (is_doomed L s q) (s.seat q) (Hung p k) b).1;
    lent = λ o pos. (
        let r = l.lent o pos in
        (r.0, rw (r.1, not_lost s.live (loans L s o) r.0 pos) refl));
    stacks = l.stacks;
    within = l.within;
    covered = λ t. covered_weaker s.live s.live s.seat (sweep L s).seat (s.stack t) (λ o w pos is lives. ((kept_some (is_doomed L s o) (s.seat o) (Root w) is).1, lives)) (l.covered t);
    fresh = λ o le. rw (l.fresh o le) refl;
  }
