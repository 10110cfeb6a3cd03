-- How often objects are held by script names, name by name.
use Rattle.std.proofs.Common.{◌≡◌, ◌≢◌, ℕ, zero, suc, ◌+◌, ◌<◌, ◌≤◌, ◌==◌, false, cond, List, [], ◌∷◌, length, map, Option, Some, None, slice_set, refl, ap, arith, inl, inr}
use Rattle.std.specs.List.{filter_map}
use Rattle.std.proofs.lemmas.Bool.{cases_Bool, cases_eq, ne_eqb}
use Rattle.rl_defs.specs.declared.values.Value.{Value}
use Rattle.rl_defs.specs.declared.values.Value.TheVariants as value
use Rattle.machine_defs.specs.Loans.{count}
use Rattle.machine_defs.specs.Wants.{Names, name_held}
use Rattle.machine_defs.specs.Arguments.{has}
use Rattle.machine_defs.specs.Calling.{unless_moved}
use Rattle.machine_defs.specs.Arguments.{objects_in}
use Rattle.machine_defs.specs.Sound.{object_held}
use Rattle.machine_laws.proofs.Counts.{one_here}

-- the objects that names hold
abbrev pub objects_of : Names → List ℕ
objects_of names = filter_map object_held names

-- how often an object is held by one name
abbrev pub share : ℕ → Option Value → ℕ
share p None = 0
share p (Some (value.Num n)) = 0
share p (Some (value.Obj o)) = count p (o ∷ [])
share p (Some (value.Cap x)) = 0

pub held_first : (p : ℕ) (v : Option Value) (names : Names) → count p (objects_of (v ∷ names)) ≡ share p v + count p (objects_of names)
held_first p None names = omega arith
held_first p (Some (value.Num n)) names = omega arith
held_first p (Some (value.Obj o)) names = omega arith
held_first p (Some (value.Cap x)) names = omega arith

pub objects_first : (p : ℕ) (v : Value) (values : List Value) → count p (objects_in (v ∷ values)) ≡ share p (Some v) + count p (objects_in values)
objects_first p (value.Num n) values = omega arith
objects_first p (value.Obj o) values = omega arith
objects_first p (value.Cap x) values = omega arith

-- another value of one name
pub held_set : (p : ℕ) (names : Names) (k : ℕ) (v : Option Value) → k < length names → count p (objects_of (slice_set names k v)) + share p (name_held names k) ≡ count p (objects_of names) + share p v
held_set p [] k v lt = absurd (omega arith)
held_set p (x ∷ names) zero v lt = omega (arith, held_first p v names, held_first p x names)
held_set p (x ∷ names) (suc k) v lt = omega (arith, held_first p x (slice_set names k v), held_first p x names, held_set p names k v (omega arith))

-- what one name holds is among what all hold
pub held_least : (p : ℕ) (names : Names) (k : ℕ) → share p (name_held names k) ≤ count p (objects_of names)
held_least p [] k = omega arith
held_least p (x ∷ names) zero = omega (arith, held_first p x names)
held_least p (x ∷ names) (suc k) = omega (arith, held_first p x names, held_least p names k)

pub held_some : (names : Names) (k o : ℕ) → name_held names k ≡ Some (value.Obj o) → 0 < count o (objects_of names)
held_some names k o is = let least = held_least o names k in let mine : share o (name_held names k) ≡ 1 = rw is (one_here o) in omega (arith, least, mine)

-- an object that is held once is held by one name
pub held_apart : (names : Names) (k l o : ℕ) → count o (objects_of names) ≤ 1 → name_held names k ≡ Some (value.Obj o) → name_held names l ≡ Some (value.Obj o) → k ≡ l
held_apart [] k l o once a b = absurd cc
held_apart (x ∷ names) zero zero o once a b = refl
held_apart (x ∷ names) zero (suc l) o once a b =
    let mine : share o x ≡ 1 = rw a (one_here o) in
    absurd (omega (arith, once, held_first o x names, mine, held_some names l o b))
held_apart (x ∷ names) (suc k) zero o once a b =
    let mine : share o x ≡ 1 = rw b (one_here o) in
    absurd (omega (arith, once, held_first o x names, mine, held_some names k o a))
held_apart (x ∷ names) (suc k) (suc l) o once a b = ap (λ n. suc n) (held_apart names k l o (omega (arith, once, held_first o x names)) a b)

-- a name of a list in which one was set
pub held_set_same : (names : Names) (k : ℕ) (v : Option Value) → k < length names → name_held (slice_set names k v) k ≡ v
held_set_same [] k v lt = absurd (omega arith)
held_set_same (x ∷ names) zero v lt = refl
held_set_same (x ∷ names) (suc k) v lt = held_set_same names k v (omega arith)

pub held_set_other : (names : Names) (k j : ℕ) (v : Option Value) → j ≢ k → name_held (slice_set names k v) j ≡ name_held names j
held_set_other [] k j v ne = refl
held_set_other (x ∷ names) zero zero v ne = absurd (ne refl)
held_set_other (x ∷ names) zero (suc j) v ne = refl
held_set_other (x ∷ names) (suc k) zero v ne = refl
held_set_other (x ∷ names) (suc k) (suc j) v ne = held_set_other names k j v (λ e. ne (ap (λ n. suc n) e))

-- a name that is there
pub held_within : (names : Names) (k : ℕ) (v : Value) → name_held names k ≡ Some v → k < length names
held_within [] k v is = absurd cc
held_within (x ∷ names) zero v is = omega arith
held_within (x ∷ names) (suc k) v is = omega (arith, held_within names k v is)

-- names that no longer hold what was moved
pub held_kept : (moved : List ℕ) (names : Names) (k : ℕ) → name_held (map (unless_moved moved) names) k ≡ unless_moved moved (name_held names k)
held_kept moved [] k = refl
held_kept moved (x ∷ names) zero = refl
held_kept moved (x ∷ names) (suc k) = held_kept moved names k

pub kept_length : (moved : List ℕ) (names : Names) → length (map (unless_moved moved) names) ≡ length names
kept_length moved [] = refl
kept_length moved (x ∷ names) = ap (λ n. suc n) (kept_length moved names)

share_kept : (moved : List ℕ) (p : ℕ) (v : Option Value) → share p (unless_moved moved v) ≡ cond (has moved p) 0 (share p v)
share_kept moved p None = elim (cases_Bool (has moved p)) [ inl e ↦ rw e refl | inr e ↦ rw e refl ]
share_kept moved p (Some (value.Num n)) = elim (cases_Bool (has moved p)) [ inl e ↦ rw e refl | inr e ↦ rw e refl ]
share_kept moved p (Some (value.Cap x)) = elim (cases_Bool (has moved p)) [ inl e ↦ rw e refl | inr e ↦ rw e refl ]
share_kept moved p (Some (value.Obj o)) = elim (cases_eq o p) [
  | inl same ↦ rw same (elim (cases_Bool (has moved p)) [ inl e ↦ rw e refl | inr e ↦ rw e refl ])
  | inr apart ↦
      let other : (o == p) ≡ false = ne_eqb o p apart in
      elim (cases_Bool (has moved o)) [
        | inl a ↦ elim (cases_Bool (has moved p)) [ inl b ↦ rw (a, b) refl | inr b ↦ rw (a, b, other) refl ]
        | inr a ↦ elim (cases_Bool (has moved p)) [ inl b ↦ rw (a, b, other) refl | inr b ↦ rw (a, b) refl ]
      ]
]

pub count_kept : (moved : List ℕ) (p : ℕ) (names : Names) → count p (objects_of (map (unless_moved moved) names)) ≡ cond (has moved p) 0 (count p (objects_of names))
count_kept moved p [] = elim (cases_Bool (has moved p)) [ inl e ↦ rw e refl | inr e ↦ rw e refl ]
count_kept moved p (x ∷ names) =
    let deeper = count_kept moved p names in
    let here = share_kept moved p x in
    elim (cases_Bool (has moved p)) [
      | inl e ↦ let a : share p (unless_moved moved x) ≡ 0 = rw e at here in let b : count p (objects_of (map (unless_moved moved) names)) ≡ 0 = rw e at deeper in rw e (omega (arith, held_first p (unless_moved moved x) (map (unless_moved moved) names), a, b))
      | inr e ↦ let a : share p (unless_moved moved x) ≡ share p x = rw e at here in let b : count p (objects_of (map (unless_moved moved) names)) ≡ count p (objects_of names) = rw e at deeper in rw e (omega (arith, held_first p (unless_moved moved x) (map (unless_moved moved) names), held_first p x names, a, b))
    ]
