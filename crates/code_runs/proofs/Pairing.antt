-- Two lists of which each item suits the one at its place.
use Rattle.std.proofs.Common.{◌≡◌, refl, sym, ◌∙◌, ap, ℕ, zero, suc, ◌+◌, ◌<◌, ◌≤◌, ◌==◌, Bool, true, false, ◌&&◌, List, [], ◌∷◌, length, drop, Some, None, slice_get, slice_index_or, arith, add-one}
use Rattle.std.proofs.lemmas.Bool.{ne_eqb}
use lib.Dec.{eqb-suc-suc}
use Rattle.code_runs.specs.Suits.{all_suit}
use Rattle.rl_defs.proofs.Lists.{and_left, and_right}

and_false : (a b : Bool) → false ≡ b → false ≡ (a && b)
and_false true b e = e
and_false false b e = refl

pub all_differ : {A B : Type 0} (p : A → B → Bool) (xs : List A) (ys : List B) → (length xs ≡ length ys → ⊥) → false ≡ all_suit p xs ys
all_differ p [] [] ne = absurd (ne refl)
all_differ p [] (y ∷ ys) ne = refl
all_differ p (x ∷ xs) [] ne = refl
all_differ p (x ∷ xs) (y ∷ ys) ne = and_false (p x y) (all_suit p xs ys) (all_differ p xs ys (λ e. ne (ap suc e)))

opened_suc : {A : Type 0} (xs : List A) (n : ℕ) (x : A) → n < length xs → drop n xs ≡ slice_index_or xs n x ∷ drop (suc n) xs
opened_suc [] n x lt = absurd (omega arith)
opened_suc (y ∷ xs) zero x lt = refl
opened_suc (y ∷ xs) (suc n) x lt = opened_suc xs n x (omega arith)

-- the next item and the rest
pub opened : {A : Type 0} (xs : List A) (n : ℕ) (x : A) → n < length xs → drop n xs ≡ slice_index_or xs n x ∷ drop (n + 1) xs
opened xs n x lt = rw add-one (opened_suc xs n x lt)

pub closed : {A : Type 0} (xs : List A) (n : ℕ) → length xs ≤ n → drop n xs ≡ []
closed [] zero le = refl
closed [] (suc n) le = refl
closed (x ∷ xs) zero le = absurd (omega arith)
closed (x ∷ xs) (suc n) le = closed xs n (omega arith)

pub walks_on : {A B : Type 0} (p : A → B → Bool) (xs : List A) (n : ℕ) (x : A) (y : B) (ys : List B) (whole : Bool) → n < length xs → all_suit p (drop n xs) (y ∷ ys) ≡ whole → p (slice_index_or xs n x) y ≡ true → all_suit p (drop (n + 1) xs) ys ≡ whole
walks_on p xs n x y ys whole lt rest good =
    sym (ap (λ b. b && all_suit p (drop (n + 1) xs) ys) good)
    ∙ (sym (ap (λ zs. all_suit p zs (y ∷ ys)) (opened xs n x lt)) ∙ rest)

pub walk_breaks : {A B : Type 0} (p : A → B → Bool) (xs : List A) (n : ℕ) (x : A) (y : B) (ys : List B) (whole : Bool) → n < length xs → all_suit p (drop n xs) (y ∷ ys) ≡ whole → p (slice_index_or xs n x) y ≡ false → false ≡ whole
walk_breaks p xs n x y ys whole lt rest bad =
    sym (ap (λ b. b && all_suit p (drop (n + 1) xs) ys) bad)
    ∙ (sym (ap (λ zs. all_suit p zs (y ∷ ys)) (opened xs n x lt)) ∙ rest)

pub walk_lacks : {A B : Type 0} (p : A → B → Bool) (xs : List A) (n : ℕ) (y : B) (ys : List B) (whole : Bool) → length xs ≤ n → all_suit p (drop n xs) (y ∷ ys) ≡ whole → false ≡ whole
walk_lacks p xs n y ys whole le rest = sym (ap (λ zs. all_suit p zs (y ∷ ys)) (closed xs n le)) ∙ rest

pub walk_ends : {A B : Type 0} (p : A → B → Bool) (xs : List A) (n : ℕ) (whole : Bool) → n ≤ length xs → all_suit p (drop n xs) [] ≡ whole → (n == length xs) ≡ whole
walk_ends p [] zero whole le rest = rest
walk_ends p [] (suc n) whole le rest = absurd (omega arith)
walk_ends p (x ∷ xs) zero whole le rest = ne_eqb 0 (suc (length xs)) (λ e. omega arith) ∙ rest
walk_ends p (x ∷ xs) (suc n) whole le rest = eqb-suc-suc n (length xs) ∙ walk_ends p xs n whole (omega arith) rest

pub pair_breaks : {A B : Type 0} (p : A → B → Bool) (xs : List A) (ys : List B) (n : ℕ) (x : A) (y : B) (whole : Bool) → n < length xs → length xs ≡ length ys → all_suit p (drop n xs) (drop n ys) ≡ whole → p (slice_index_or xs n x) (slice_index_or ys n y) ≡ false → false ≡ whole
pair_breaks p xs ys n x y whole lt same rest bad =
    walk_breaks p xs n x (slice_index_or ys n y) (drop (n + 1) ys) whole lt (sym (ap (all_suit p (drop n xs)) (opened ys n y (omega arith))) ∙ rest) bad

pub pairs_on : {A B : Type 0} (p : A → B → Bool) (xs : List A) (ys : List B) (n : ℕ) (x : A) (y : B) (whole : Bool) → n < length xs → length xs ≡ length ys → all_suit p (drop n xs) (drop n ys) ≡ whole → p (slice_index_or xs n x) (slice_index_or ys n y) ≡ true → all_suit p (drop (n + 1) xs) (drop (n + 1) ys) ≡ whole
pairs_on p xs ys n x y whole lt same rest good =
    walks_on p xs n x (slice_index_or ys n y) (drop (n + 1) ys) whole lt (sym (ap (all_suit p (drop n xs)) (opened ys n y (omega arith))) ∙ rest) good

pub pairs_end : {A B : Type 0} (p : A → B → Bool) (xs : List A) (ys : List B) (n : ℕ) (whole : Bool) → length xs ≤ n → length xs ≡ length ys → all_suit p (drop n xs) (drop n ys) ≡ whole → true ≡ whole
pairs_end p xs ys n whole le same rest =
    sym (ap (λ zs. all_suit p zs []) (closed xs n le)) ∙ (sym (ap (all_suit p (drop n xs)) (closed ys n (omega arith))) ∙ rest)

-- what stands beside an item
pub record Beside {A B : Type 0} (p : A → B → Bool) (ys : List B) (k : ℕ) (x : A) : Type 0 where
  pub other : B
  pub there : slice_get ys k ≡ Some other
  pub suit : p x other ≡ true

pub beside : {A B : Type 0} (p : A → B → Bool) (xs : List A) (ys : List B) (k : ℕ) (x : A) → all_suit p xs ys ≡ true → slice_get xs k ≡ Some x → Beside p ys k x
beside p [] ys k x all e = absurd cc
beside p (z ∷ xs) [] k x all e = absurd cc
beside p (z ∷ xs) (y ∷ ys) zero x all e = record { other = y; there = refl; suit = let same : z ≡ x = cc in sym (ap (λ w. p w y) same) ∙ and_left (p z y) (all_suit p xs ys) all }
beside p (z ∷ xs) (y ∷ ys) (suc k) x all e = let b = beside p xs ys k x (and_right (p z y) (all_suit p xs ys) all) e in record { other = b.other; there = b.there; suit = b.suit }

pub nothing_beside : {A B : Type 0} (p : A → B → Bool) (xs : List A) (ys : List B) (k : ℕ) → all_suit p xs ys ≡ true → slice_get xs k ≡ None → slice_get ys k ≡ None
nothing_beside p [] [] k all e = refl
nothing_beside p [] (y ∷ ys) k all e = absurd cc
nothing_beside p (z ∷ xs) [] k all e = absurd cc
nothing_beside p (z ∷ xs) (y ∷ ys) zero all e = absurd cc
nothing_beside p (z ∷ xs) (y ∷ ys) (suc k) all e = nothing_beside p xs ys k (and_right (p z y) (all_suit p xs ys) all) e

pub same_count : {A B : Type 0} (p : A → B → Bool) (xs : List A) (ys : List B) → all_suit p xs ys ≡ true → length xs ≡ length ys
same_count p [] [] all = refl
same_count p [] (y ∷ ys) all = absurd cc
same_count p (x ∷ xs) [] all = absurd cc
same_count p (x ∷ xs) (y ∷ ys) all = ap suc (same_count p xs ys (and_right (p x y) (all_suit p xs ys) all))
