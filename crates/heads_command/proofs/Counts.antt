-- How many heads are gone, and what a pass still holds.
use Rattle.std.proofs.Common.{◌≡◌, ◌≢◌, ℕ, zero, suc, ◌+◌, ◌<◌, ◌≤◌, eqb, List, [], ◌∷◌, ◌++◌, map, reverse, length, sym, refl, ap, ◌∙◌, subst, ap₂, arith, eq-eqb, ne_eqb}
use mathlib.Core.Logic.{dite}
use mathlib.Core.Option.{some, some-injective}
use native.Mathlib.Decide.{ℕ_discrete}
use lib.ListN.{get_elem?}
use Rattle.std.proofs.lemmas.List.{reverse-append}
use Rattle.machine_defs.specs.declared.heads.HeadWord.{HeadWord}
use Rattle.machine_defs.specs.declared.heads.Title.{Title}
use Rattle.machine_defs.specs.HeadSums.{one_if, count, less}
use Rattle.machine_defs.specs.Heads.{head_of, itself, due, released_entry}
use Rattle.rref_heads.proofs.HeadSums.{count_here, less_here}
use Rattle.rref_heads.specs.declared.table.Pass.{Pass}
use Rattle.machine_defs.specs.Heads.{Slot}
use Rattle.rref_heads.specs.Passes.{view, sum_over, IsClosed}
use Rattle.heads_command.specs.Workers.{AreHeads, gone_count}

abbrev pub sum_from : (ℕ → ℕ) → ℕ → ℕ → ℕ
sum_from f k zero = 0
sum_from f k (suc n) = f k + sum_from f (suc k) n

sum_zero : (k n : ℕ) → sum_from (λ _. 0) k n ≡ 0
sum_zero k zero = refl
sum_zero k (suc n) = let m = sum_zero (suc k) n in omega arith

pub sum_add : (f g : ℕ → ℕ) (k n : ℕ) → sum_from (λ h. f h + g h) k n ≡ sum_from f k n + sum_from g k n
sum_add f g k zero = refl
sum_add f g k (suc n) = let m = sum_add f g (suc k) n in omega arith

pub sum_same : (f g : ℕ → ℕ) (k n : ℕ) → ((h : ℕ) → f h ≡ g h) → sum_from f k n ≡ sum_from g k n
sum_same f g k zero e = refl
sum_same f g k (suc n) e = let m = sum_same f g (suc k) n e in let p = e k in omega arith

-- x is none of the numbers from k on
sum_past : (x k n : ℕ) → x < k → sum_from (λ h. one_if (eqb x h)) k n ≡ 0
sum_past x k zero p = refl
sum_past x k (suc n) p = let z : one_if (eqb x k) ≡ 0 = ap one_if (ne_eqb x k (λ (e : x ≡ k). omega arith)) in let m = sum_past x (suc k) n (omega arith) in omega arith

sum_one : (x k n : ℕ) → k ≤ x → x < k + n → sum_from (λ h. one_if (eqb x h)) k n ≡ 1
sum_one x k zero a b = absurd (omega arith)
sum_one x k (suc n) a b = dite (ℕ_discrete x k)
    (λ (e : x ≡ k). let z : one_if (eqb x k) ≡ 1 = ap one_if (eq-eqb x k e) in let m = sum_past x (suc k) n (omega arith) in omega arith)
    (λ (ne : x ≢ k). let z : one_if (eqb x k) ≡ 0 = ap one_if (ne_eqb x k ne) in let m = sum_one x (suc k) n (omega arith) (omega arith) in omega arith)

-- the counts of all heads add up to the list's length
pub sum_counts : (n : ℕ) (xs : List ℕ) → AreHeads n xs → sum_from (λ h. count itself h xs) 1 n ≡ length xs
sum_counts n [] a = sum_zero 1 n
sum_counts n (x ∷ xs) a = let p : 1 ≤ x = a.0 in let q : x ≤ n = a.1 in let one = sum_one x 1 n p (omega arith) in let m = sum_counts n xs a.2 in
    sum_add (λ h. one_if (eqb x h)) (λ h. count itself h xs) 1 n ∙ (omega arith)

-- the words that are gone, by the sums that they ask for
pub gone_sum : (f : ℕ → ℕ) (ws : List HeadWord) (k : ℕ) → ((i : ℕ) → i < length ws → (a : HeadWord) × (get_elem? ws i ≡ some a) × (f (k + i) ≡ due a released_entry)) → gone_count ws ≡ sum_from f k (length ws)
gone_sum f [] k each = refl
gone_sum f (a ∷ ws) k each = let x = each 0 (omega arith) in let e : x.0 ≡ a = sym (some-injective a x.0 x.1) in let z : f k ≡ due a released_entry = (let w : f k ≡ f (k + 0) = ap f (omega arith) in w) ∙ x.2 ∙ ap (λ (b : HeadWord). due b released_entry) e in
    let m = gone_sum f ws (suc k) (λ i p. let y = each (suc i) (omega arith) in (y.0, y.1, (let w : f (suc k + i) ≡ f (k + suc i) = ap f (omega arith) in w) ∙ y.2)) in omega arith

pub last_first : (xs : List ℕ) (h : ℕ) → reverse (xs ++ h ∷ []) ≡ h ∷ reverse xs
last_first xs h = reverse-append xs (h ∷ [])

pub among_snoc : (n : ℕ) (xs : List ℕ) (h : ℕ) → AreHeads n (xs ++ h ∷ []) → AreHeads n xs × (1 ≤ h) × (h ≤ n)
among_snoc n [] h a = (tt, a.0, a.1)
among_snoc n (x ∷ xs) h a = let r = among_snoc n xs h a.2 in ((a.0, a.1, r.0), r.1, r.2)

pub among_more : (n : ℕ) (xs : List ℕ) (h : ℕ) → AreHeads n xs → 1 ≤ h → h ≤ n → AreHeads n (xs ++ h ∷ [])
among_more n [] h a p q = (p, q, tt)
among_more n (x ∷ xs) h a p q = (a.0, a.1, among_more n xs h a.2 p q)

abbrev first_or : ℕ → List ℕ → ℕ
first_or d [] = d
first_or d (x ∷ xs) = x

abbrev rest_of : List ℕ → List ℕ
rest_of [] = []
rest_of (x ∷ xs) = xs

-- the first of these titles is of h
pub first_title : (ts : List Title) (h : ℕ) (xs : List ℕ) → map head_of ts ≡ h ∷ xs → (1 ≤ count head_of h ts) × (map head_of (less head_of h ts) ≡ xs)
first_title [] h xs e = absurd (let z : 0 ≡ suc (length xs) = ap length e in omega arith)
first_title (t ∷ ts) h xs e = let is : t.head ≡ h = ap (λ l. first_or 0 l) e in let c = count_here head_of h t ts is in ((omega arith), ap (map head_of) (less_here head_of h t ts is) ∙ ap (λ l. rest_of l) e)

pub first_loan : (ls : List ℕ) (h : ℕ) (xs : List ℕ) → ls ≡ h ∷ xs → (1 ≤ count itself h ls) × (less itself h ls ≡ xs)
first_loan ls h xs e = subst (λ (l : List ℕ). (1 ≤ count itself h l) × (less itself h l ≡ xs)) (sym e) ((let c = count_here itself h h xs refl in omega arith), less_here itself h h xs refl)

pub no_titles : (ts : List Title) → map head_of ts ≡ [] → ts ≡ []
no_titles [] e = refl
no_titles (t ∷ ts) e = absurd (let z : suc (length (map head_of ts)) ≡ 0 = ap length e in omega arith)

-- the words that are gone are as many as two passes released
pub gone_two : (n : ℕ) (p q : Pass) (ps : List Pass) (words : List HeadWord) (payloads : List Slot) → ps ≡ p ∷ q ∷ [] → IsClosed n ps words payloads → AreHeads n (view p).released → AreHeads n (view q).released
    → length (view p).released + length (view q).released ≡ gone_count words
gone_two n p q ps words payloads is shut a b = let f : ℕ → ℕ = λ h. count itself h (view p).released in let g : ℕ → ℕ = λ h. count itself h (view q).released in
    let same : (h : ℕ) → sum_over released_entry h ps ≡ f h + g h = λ h. ap (sum_over released_entry h) is ∙ (let z : f h + (g h + 0) ≡ f h + g h = omega arith in z) in
    let gone : gone_count words ≡ sum_from (λ h. f h + g h) 1 (length words) = gone_sum (λ h. f h + g h) words 1 (λ i near. let x = shut.2 i (subst (λ (z : ℕ). i < z) shut.0 near) in
    (x.0, x.2, (let w : f (1 + i) + g (1 + i) ≡ f (suc i) + g (suc i) = ap (λ (z : ℕ). f z + g z) (let y : 1 + i ≡ suc i = omega arith in y) in w) ∙ sym (same (suc i)) ∙ x.4 released_entry)) in
    sym (gone ∙ ap (sum_from (λ h. f h + g h) 1) shut.0 ∙ sum_add f g 1 n ∙ ap₂ (λ (x y : ℕ). x + y) (sum_counts n (view p).released a) (sum_counts n (view q).released b))
