-- Names that are bound: what they hold after it, and how often.
use Rattle.std.proofs.Common.{◌≡◌, ◌≢◌, ℕ, zero, suc, ◌+◌, ◌<◌, ◌⊎◌, List, [], ◌∷◌, length, Option, Some, None, slice_get, slice_set, refl, ap, sym, ◌∙◌, arith, inl, inr}
use Rattle.std.proofs.lemmas.Bool.{cases_eq}
use Rattle.std.proofs.lemmas.List.{length-set}
use Rattle.rl_defs.specs.declared.values.Value.{Value}
use Rattle.machine_defs.specs.Loans.{count}
use Rattle.machine_defs.specs.Wants.{Names, name_held}
use Rattle.machine_defs.specs.Frames.{bind}
use Rattle.machine_defs.specs.Arguments.{objects_in}
use Rattle.machine_laws.proofs.NameCounts.{objects_of, share, objects_first, held_set, held_set_same, held_set_other}

-- names of which no two are alike, that are there, and hold nothing
pub record Unused (ks : List ℕ) (names : Names) : Type 0 where
  pub apart : (i j k : ℕ) → slice_get ks i ≡ Some k → slice_get ks j ≡ Some k → i ≡ j
  pub none : (i k : ℕ) → slice_get ks i ≡ Some k → name_held names k ≡ None
  pub room : (i k : ℕ) → slice_get ks i ≡ Some k → k < length names

later_apart : (k : ℕ) (ks : List ℕ) (names : Names) → Unused (k ∷ ks) names → (i l : ℕ) → slice_get ks i ≡ Some l → l ≢ k
later_apart k ks names unused i l is same = let e = unused.apart (suc i) zero k (is ∙ ap Some same) refl in omega (arith, e)

pub unused_rest : (k : ℕ) (ks : List ℕ) (names : Names) (v : Option Value) → Unused (k ∷ ks) names → Unused ks (slice_set names k v)
unused_rest k ks names v unused = record {
  apart = λ i j l a b. (let e = unused.apart (suc i) (suc j) l a b in omega (arith, e));
  none = λ i l is. held_set_other names k l v (later_apart k ks names unused i l is) ∙ unused.none (suc i) l is;
  room = λ i l is. (let lt = unused.room (suc i) l is in let same = length-set names k v in omega (arith, lt, same));
}

pub bound_length : (ks : List ℕ) (values : List Value) (names : Names) → length (bind ks values names) ≡ length names
bound_length [] values names = refl
bound_length (k ∷ ks) [] names = refl
bound_length (k ∷ ks) (v ∷ values) names = bound_length ks values (slice_set names k (Some v)) ∙ length-set names k (Some v)

-- the objects among the values are held then, beside those that were
pub count_bound : (p : ℕ) (ks : List ℕ) (values : List Value) (names : Names) → Unused ks names → length ks ≡ length values → count p (objects_of (bind ks values names)) ≡ count p (objects_of names) + count p (objects_in values)
count_bound p [] [] names unused same = omega arith
count_bound p [] (v ∷ values) names unused same = absurd (omega (arith, same))
count_bound p (k ∷ ks) [] names unused same = absurd (omega (arith, same))
count_bound p (k ∷ ks) (v ∷ values) names unused same =
    let deeper = count_bound p ks values (slice_set names k (Some v)) (unused_rest k ks names (Some v) unused) (omega (arith, same)) in
    let here = held_set p names k (Some v) (unused.room zero k refl) in
    let none : share p (name_held names k) ≡ 0 = rw (unused.none zero k refl) refl in
    omega (arith, deeper, here, none, objects_first p v values)

-- a name holds what it did, or the value at its own place among those bound
pub held_bound : (ks : List ℕ) (values : List Value) (names : Names) → Unused ks names → (k : ℕ) (v : Value) → name_held (bind ks values names) k ≡ Some v → (name_held names k ≡ Some v) ⊎ ((i : ℕ) × (slice_get ks i ≡ Some k) × (slice_get values i ≡ Some v))
held_bound [] values names unused k v is = inl is
held_bound (j ∷ ks) [] names unused k v is = inl is
held_bound (j ∷ ks) (w ∷ values) names unused k v is = elim (held_bound ks values (slice_set names j (Some w)) (unused_rest j ks names (Some w) unused) k v is) [
  | inl old ↦ elim (cases_eq k j) [
    | inl same ↦
        let e : Some w ≡ Some v = sym (held_set_same names j (Some w) (unused.room zero j refl)) ∙ ap (name_held (slice_set names j (Some w))) (sym same) ∙ old in
        inr (zero, ap Some (sym same), e)
    | inr apart ↦ inl (sym (held_set_other names j k (Some w) apart) ∙ old)
  ]
  | inr new ↦ inr (suc new.0, new.1, new.2)
]

-- other names hold nothing still
pub bound_none : (ks : List ℕ) (values : List Value) (names : Names) (k : ℕ) → name_held names k ≡ None → ((i : ℕ) → slice_get ks i ≡ Some k → ⊥) → name_held (bind ks values names) k ≡ None
bound_none [] values names k none apart = none
bound_none (j ∷ ks) [] names k none apart = none
bound_none (j ∷ ks) (w ∷ values) names k none apart = bound_none ks values (slice_set names j (Some w)) k (held_set_other names j k (Some w) (λ e. apart zero (ap Some (sym e))) ∙ none) (λ i is. apart (suc i) is)
