-- Objects by their numbers: what is found in a list of objects that rise.
use Rattle.std.proofs.Common.{◌≡◌, ◌≢◌, ℕ, suc, ◌<◌, ◌≤◌, ◌==◌, Bool, true, false, cond, inl, inr, List, [], ◌∷◌, ◌++◌, map, filter, find, Option, Some, None, refl, ap, ◌∙◌, arith}
use Rattle.std.proofs.lemmas.Bool.{cases_Bool, ne_eqb, eqb-true}
use Rattle.machine_defs.specs.State.{Object}
use Rattle.machine_laws.specs.Shape.{Rises}

-- the object of a number in a list
abbrev pub found : ℕ → List Object → Option Object
found o xs = find (λ x. x.number == o) xs

abbrev pub if_passes : (Object → Bool) → Option Object → Option Object
if_passes test None = None
if_passes test (Some x) = cond (test x) (Some x) None

abbrev pub changed : (Object → Object) → Option Object → Option Object
changed g None = None
changed g (Some x) = Some (g x)

pub found_above : (n next o : ℕ) (xs : List Object) → Rises n next xs → o ≤ n → found o xs ≡ None
found_above n next o [] rises le = refl
found_above n next o (x ∷ xs) rises le =
    let apart : x.number ≢ o = λ e. (let a = rises.0 in omega arith) in
    rw (ne_eqb x.number o apart) (found_above x.number next o xs rises.2 (let a = rises.0 in omega arith))

pub found_number : (o : ℕ) (xs : List Object) (x : Object) → found o xs ≡ Some x → x.number ≡ o
found_number o [] x e = absurd cc
found_number o (y ∷ xs) x e = elim (cases_Bool (y.number == o)) [
  | inl is ↦ let e' : Some y ≡ Some x = rw is at e in let same : y ≡ x = cc in rw (← same) (eqb-true y.number o is)
  | inr is ↦ found_number o xs x (rw is at e)
]

pub found_below : (n next o : ℕ) (xs : List Object) (x : Object) → Rises n next xs → found o xs ≡ Some x → (n < o) × (o < next)
found_below n next o [] x rises e = absurd cc
found_below n next o (y ∷ xs) x rises e = elim (cases_Bool (y.number == o)) [
  | inl is ↦ let same = eqb-true y.number o is in rw (← same) (rises.0, rises.1)
  | inr is ↦ let r = found_below y.number next o xs x rises.2 (rw is at e) in (let a = rises.0 in omega (arith, r.0), r.1)
]

-- an object is found in what passes a test where it is found and passes
pub found_filter : (test : Object → Bool) (n next o : ℕ) (xs : List Object) → Rises n next xs → found o (filter test xs) ≡ if_passes test (found o xs)
found_filter test n next o [] rises = refl
found_filter test n next o (x ∷ xs) rises =
    let deeper = found_filter test x.number next o xs rises.2 in
    elim (cases_Bool (x.number == o)) [
      | inl is ↦
          elim (cases_Bool (test x)) [
            | inl yes' ↦ rw (is, yes', is) refl
            | inr no' ↦
                let same = eqb-true x.number o is in
                let none = found_above x.number next o xs rises.2 (omega (arith, same)) in
                rw (is, no', deeper, none) refl
          ]
      | inr isn't ↦ elim (cases_Bool (test x)) [
        | inl yes' ↦ rw (isn't, yes', isn't) deeper
        | inr no' ↦ rw (isn't, no') deeper
      ]
    ]

-- a change that keeps the numbers changes what is found
pub found_map : (g : Object → Object) → ((x : Object) → (g x).number ≡ x.number) → (o : ℕ) (xs : List Object) → found o (map g xs) ≡ changed g (found o xs)
found_map g keeps o [] = refl
found_map g keeps o (x ∷ xs) = elim (cases_Bool (x.number == o)) [
  | inl is ↦ let e : ((g x).number == o) ≡ true = ap (λ n. n == o) (keeps x) ∙ is in rw (e, is) refl
  | inr isn't ↦ let e : ((g x).number == o) ≡ false = ap (λ n. n == o) (keeps x) ∙ isn't in rw (e, isn't) (found_map g keeps o xs)
]

abbrev pub or_else : Option Object → Option Object → Option Object
or_else None other = other
or_else (Some x) other = Some x

pub found_append : (o : ℕ) (xs ys : List Object) → found o (xs ++ ys) ≡ or_else (found o xs) (found o ys)
found_append o [] ys = refl
found_append o (x ∷ xs) ys = elim (cases_Bool (x.number == o)) [
  | inl is ↦ rw is refl
  | inr isn't ↦ rw isn't (found_append o xs ys)
]

-- lists stay rising
pub rises_from : (k n next : ℕ) (xs : List Object) → Rises n next xs → k ≤ n → Rises k next xs
rises_from k n next [] rises le = tt
rises_from k n next (x ∷ xs) rises le = ((let a = rises.0 in omega arith), rises.1, rises.2)

pub rises_filter : (test : Object → Bool) (n next : ℕ) (xs : List Object) → Rises n next xs → Rises n next (filter test xs)
rises_filter test n next [] rises = tt
rises_filter test n next (x ∷ xs) rises = elim (cases_Bool (test x)) [
  | inl yes' ↦ rw yes' (rises.0, rises.1, rises_filter test x.number next xs rises.2)
  | inr no' ↦ rw no' (rises_from n x.number next (filter test xs) (rises_filter test x.number next xs rises.2) (let a = rises.0 in omega arith))
]

pub rises_map : (g : Object → Object) → ((x : Object) → (g x).number ≡ x.number) → (n next : ℕ) (xs : List Object) → Rises n next xs → Rises n next (map g xs)
rises_map g keeps n next [] rises = tt
rises_map g keeps n next (x ∷ xs) rises = rw (keeps x) (rises.0, rises.1, rises_map g keeps x.number next xs rises.2)

pub rises_append : (n next : ℕ) (xs : List Object) (x : Object) → Rises n next xs → n < next → x.number ≡ next → Rises n (suc next) (xs ++ x ∷ [])
rises_append n next [] x rises lt is = (omega (arith, lt, is), omega (arith, is), tt)
rises_append n next (y ∷ xs) x rises lt is = (rises.0, (let a = rises.1 in omega arith), rises_append y.number next xs x rises.2 rises.1 is)
