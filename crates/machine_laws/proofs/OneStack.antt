-- A step that changes one stack, seats and slots.
use Rattle.std.proofs.Common.{◌≡◌, ℕ, ◌+◌, ◌<◌, ◌≤◌, Bool, true, cond, ◌⊎◌, List, Option, Some, None, refl, sym, ◌∙◌, arith, inl, inr}
use Rattle.std.proofs.lemmas.Bool.{cases_eq}
use Rattle.machine_defs.specs.declared.values.Owner.{Owner}
use Rattle.machine_defs.specs.State.{Placement, Root, Hung, stack}
use Rattle.machine_defs.specs.Seen.{slots}
use Rattle.machine_laws.specs.Ledger.{LedgerFrame, at, alive, lent_in, loans_in}
use Rattle.machine_laws.specs.LedgerSound.{own_in, slots_held, is_of, Covered, OwnedIn}
use Rattle.machine_laws.proofs.Sums.{sum_at, sum_least}
use Rattle.machine_laws.proofs.Sweeping.{BeforeSweepIn, covered_weaker}
use Rattle.machine_laws.proofs.Rows.{at_same, at_other}

-- a claim on the stack at each place, by the changed one and the others
pub at_each : {A : Type 0} (P : ℕ → A → Type 0) (t : ℕ) (x : A) (f : ℕ → A) (k : ℕ) → P t x → (((k ≡ t) → ⊥) → P k (f k)) → P k (at t x f k)
at_each P t x f k here there = elim (cases_eq k t) [
  | inl e ↦ rw e (rw (at_same t x f) here)
  | inr ne ↦ rw (at_other t x f k ne) (there ne)
]

pub lent_loans : (n : ℕ) (live : ℕ → Bool) (stack : ℕ → List LedgerFrame) (seat : ℕ → Option Placement) (slots : ℕ → List (Option ℕ)) (next : ℕ) → OwnedIn n live stack seat slots next
    → (u o : ℕ) → 0 < lent_in o (stack u) → 0 < loans_in n stack o
lent_loans n live stack seat slots next own u o p = let r = own.within u o p in let b = sum_least (λ k. lent_in o (stack k)) n u r.0 r.1 in omega arith

module _ (n : ℕ) (live : ℕ → Bool) (stack : ℕ → List LedgerFrame) (seat : ℕ → Option Placement) (slots : ℕ → List (Option ℕ)) (next : ℕ) (own : OwnedIn n live stack seat slots next)
    (t : ℕ) (pos : 0 < t) (le : t ≤ n) (new : List LedgerFrame) (seat' : ℕ → Option Placement) (slots' : ℕ → List (Option ℕ)) (next' : ℕ)
    (balance : (w : Owner) (o : ℕ) → alive live w ≡ true → slots_held slots' w o + own_in w o new + cond (is_of w (seat o)) 1 0 ≡ slots_held slots w o + own_in w o (stack t) + cond (is_of w (seat' o)) 1 0)
    (source : (o : ℕ) → 0 < lent_in o new → (0 < lent_in o (stack t)) ⊎ ((loans_in n stack o ≡ 0) × ((w : Owner) × (seat' o ≡ Some (Root w)))))
    (keeps : (o : ℕ) → 0 < loans_in n stack o → seat' o ≡ seat o)
    (covers : Covered live seat' new)
    (hung' : (o p k q j : ℕ) → seat' o ≡ Some (Hung p k) → seat' p ≡ Some (Hung q j) → ⊥)
    (cell' : (o q p k : ℕ) → seat' o ≡ Some (Hung p k) → seat' q ≡ Some (Hung p k) → o ≡ q)
    (fresh' : (o : ℕ) → next' ≤ o → seat' o ≡ None) where
  pub only_here : (b o : ℕ) → 0 < lent_in o new → ((b ≡ t) → ⊥) → 0 < lent_in o (stack b) → ⊥
  only_here b o pn ne pb = elim (source o pn) [
    | inl old ↦ ne (sym (own.stacks t b o old pb))
    | inr r ↦ let p = lent_loans n live stack seat slots next own b o pb in let z = r.0 in omega arith
  ]

  pub stack_changed : BeforeSweepIn n live (at t new stack) seat' slots' next'
  stack_changed = record {
    once = λ w o lives. (
        let before = own.once w o lives in
        let change = sum_at (own_in w o) stack t new n pos le in
        let even = balance w o lives in
        omega arith);
    hung = hung';
    cell = cell';
    lent = λ o some. (
        let change = sum_at (lent_in o) stack t new n pos le in
        elim (cases_eq (loans_in n stack o) 0) [
          | inl none ↦
              elim (source o (omega arith)) [
                | inl old ↦ absurd (let p = lent_loans n live stack seat slots next own t o old in omega arith)
                | inr r ↦ r.1
              ]
          | inr ne ↦ let r = own.lent o (omega arith) in (r.0, keeps o (omega arith) ∙ r.1)
        ]);
    stacks = λ a b o pa pb.
        at_each (λ k fs. 0 < lent_in o fs → k ≡ b) t new stack a
        (λ pn. at_each (λ k fs. 0 < lent_in o fs → t ≡ k) t new stack b (λ _. refl) (λ ne p. absurd (only_here b o pn ne p)) pb)
        (λ ne p. at_each (λ k fs. 0 < lent_in o fs → a ≡ k) t new stack b (λ pn. absurd (only_here a o pn ne p)) (λ _ p'. own.stacks a b o p p') pb)
        pa;
    within = λ a o. at_each (λ k fs. 0 < lent_in o fs → (0 < k) × (k ≤ n)) t new stack a (λ _. (pos, le)) (λ ne p. own.within a o p);
    covered = λ a. at_each (λ k fs. Covered live seat' fs) t new stack a covers (λ ne. covered_weaker live live seat seat' (stack a) (λ o w p is lives. (sym (keeps o (lent_loans n live stack seat slots next own a o p)) ∙ is, lives)) (own.covered a));
    fresh = fresh';
  }
