-- The numbers of the objects that pass a test, by rising number.
use Rattle.std.proofs.Common.{◌≡◌, ◌≢◌, ℕ, zero, suc, ◌+◌, ◌-◌, ◌<◌, ◌≤◌, Bool, true, false, if◌then◌else◌, inl, inr, List, [], ◌∷◌, ◌++◌, map, filter, Some, None, refl, ap, sym, ◌∙◌, arith, append_assoc}
use Rattle.std.proofs.lemmas.Bool.{cases_Bool, eq-eqb, ne_eqb}
use Rattle.machine_defs.specs.State.{Object}
use Rattle.machine_laws.specs.Ledger.{passing}
use Rattle.machine_laws.specs.Shape.{Rises}
use Rattle.machine_laws.proofs.Objects.{found, found_above, found_below}

-- the numbers from n + 1 to n + k that pass, rising
abbrev pub passing_from : (ℕ → Bool) → ℕ → ℕ → List ℕ
passing_from test n zero = []
passing_from test n (suc k) = (if test (suc n) then suc n ∷ [] else []) ++ passing_from test (suc n) k

pub from_last : (test : ℕ → Bool) (n k : ℕ) → passing_from test n (suc k) ≡ passing_from test n k ++ (if test (suc (n + k)) then suc (n + k) ∷ [] else [])
from_last test n zero = let z : n + 0 ≡ n = omega arith in rw z (elim (cases_Bool (test (suc n))) [ inl e ↦ rw e refl | inr e ↦ rw e refl ])
from_last test n (suc k) =
    let deeper = from_last test (suc n) k in
    let same : suc (n + k) ≡ n + suc k = omega arith in
    let same' : suc n + k ≡ n + suc k = omega arith in
    let e : passing_from test (suc n) (suc k) ≡ passing_from test (suc n) k ++ (if test (suc (n + suc k)) then suc (n + suc k) ∷ [] else []) = rw same' at deeper in
    ap (λ xs. (if test (suc n) then suc n ∷ [] else []) ++ xs) e
    ∙ sym (append_assoc (if test (suc n) then suc n ∷ [] else []) (passing_from test (suc n) k) (if test (suc (n + suc k)) then suc (n + suc k) ∷ [] else []))

pub passing_all : (test : ℕ → Bool) (n : ℕ) → passing test n ≡ passing_from test 0 n
passing_all test zero = refl
passing_all test (suc n) =
    let deeper = passing_all test n in
    let last' = from_last test 0 n in
    let e : 0 + n ≡ n = omega arith in
    rw deeper (sym (rw e at last'))

pub passing_none : (test : ℕ → Bool) (n k : ℕ) → ((o : ℕ) → n < o → o ≤ n + k → test o ≡ false) → passing_from test n k ≡ []
passing_none test n zero none = refl
passing_none test n (suc k) none = rw (none (suc n) (omega arith) (omega arith)) (passing_none test (suc n) k (λ o lt le. none o (omega arith) (omega arith)))

pub passing_skip : (test : ℕ → Bool) (n j k : ℕ) → ((o : ℕ) → n < o → o ≤ n + j → test o ≡ false) → passing_from test n (j + k) ≡ passing_from test (n + j) k
passing_skip test n zero k none = let e : n + 0 ≡ n = omega arith in let e' : 0 + k ≡ k = omega arith in rw (e, e') refl
passing_skip test n (suc j) k none =
    let deeper = passing_skip test (suc n) j k (λ o lt le. none o (omega arith) (omega arith)) in
    let e : suc n + j ≡ n + suc j = omega arith in
    let e' : suc j + k ≡ suc (j + k) = omega arith in
    let first = none (suc n) (omega arith) (omega arith) in
    rw e' (rw first (rw e at deeper))

-- the numbers of the objects that pass a test of objects are the numbers that pass a test of numbers, where the tests agree on the objects
-- and no other number passes
pub numbers_passing : (test : Object → Bool) (by_number : ℕ → Bool) (n k next : ℕ) (xs : List Object) → Rises n next xs → next ≤ suc (n + k)
    → ((x : Object) → found x.number xs ≡ Some x → test x ≡ by_number x.number)
    → ((o : ℕ) → n < o → found o xs ≡ None → by_number o ≡ false)
    → map (λ x. x.number) (filter test xs) ≡ passing_from by_number n k
numbers_passing test by_number n k next [] rises le agree none = sym (passing_none by_number n k (λ o lt le'. none o lt refl))
numbers_passing test by_number n k next (x ∷ xs) rises le agree none =
    let low = rises.0 in
    let high = rises.1 in
    let j : ℕ = x.number - n - 1 in
    let m : ℕ = k - j - 1 in
    let split : k ≡ j + suc m = omega arith in
    let here : n + j + 1 ≡ x.number = omega arith in
    let here' : suc (n + j) ≡ x.number = omega arith in
    let self : found x.number (x ∷ xs) ≡ Some x = rw (eq-eqb x.number x.number refl) refl in
    let same = agree x self in
    let skip = passing_skip by_number n j (suc m) (λ o lt le'. none o lt (let apart : x.number ≢ o = (λ e. omega arith) in rw (ne_eqb x.number o apart) (found_above x.number next o xs rises.2 (omega arith)))) in
    let deeper = numbers_passing test by_number x.number m next xs rises.2 (omega arith)
    (λ y is. agree y (let b = found_below x.number next y.number xs y rises.2 is in let apart : x.number ≢ y.number = (λ e. omega (arith, b.0, e)) in rw (ne_eqb x.number y.number apart) is))
    (λ o lt is. none o (omega arith) (let apart : x.number ≢ o = (λ e. omega arith) in rw (ne_eqb x.number o apart) is)) in
    let goal : map (λ y. y.number) (filter test (x ∷ xs)) ≡ passing_from by_number (n + j) (suc m) = (
    elim (cases_Bool (test x)) [
      | inl yes' ↦ let y : by_number x.number ≡ true = sym same ∙ yes' in rw (here', yes', y) (ap (λ os. x.number ∷ os) deeper)
      | inr no' ↦ let y : by_number x.number ≡ false = sym same ∙ no' in rw (here', no', y) deeper
    ]) in
    rw split (goal ∙ sym skip)
