-- Whether items fit, place by place.
use Rattle.std.proofs.Common.{◌≡◌, refl, sym, ◌∙◌, ap, ℕ, zero, suc, ◌<◌, ◌≤◌, true, false, Bool, ◌&&◌, List, [], ◌∷◌, length, drop, slice_index_or, arith}
use Rattle.std.proofs.Math.ListN.{drop_of_length-le}
use Rattle.rl_defs.specs.declared.tables.Kind.{Kind}
use Rattle.machine_defs.specs.Instructions.{all_fit}

all_fit_none : {A : Type 0} (fit : Kind → A → Bool) (ks : List Kind) → all_fit fit ks [] ≡ true
all_fit_none fit [] = refl
all_fit_none fit (k ∷ ks) = refl

-- where there is no other item, all fit
pub all_fit_stop : {A : Type 0} (fit : Kind → A → Bool) (ks : List Kind) (xs : List A) (n : ℕ) → length xs ≤ n → all_fit fit (drop n ks) (drop n xs) ≡ all_fit fit ks xs → true ≡ all_fit fit ks xs
all_fit_stop fit ks xs n le same = sym (all_fit_none fit (drop n ks)) ∙ (sym (ap (all_fit fit (drop n ks)) (drop_of_length-le xs le)) ∙ same)

all_fit_here : {A : Type 0} (fit : Kind → A → Bool) (ks : List Kind) (xs : List A) (n : ℕ) (k : Kind) (x : A) → n < length ks → n < length xs → fit (slice_index_or ks n k) (slice_index_or xs n x) ≡ false → all_fit fit (drop n ks) (drop n xs) ≡ false
all_fit_here fit [] xs n k x lk lx e = absurd (omega arith)
all_fit_here fit (h ∷ ks) [] n k x lk lx e = absurd (omega arith)
all_fit_here fit (h ∷ ks) (y ∷ xs) zero k x lk lx e = ap (λ b. b && all_fit fit ks xs) e
all_fit_here fit (h ∷ ks) (y ∷ xs) (suc n) k x lk lx e = all_fit_here fit ks xs n k x (omega arith) (omega arith) e

-- where one doesn't, not all do
pub all_fit_break : {A : Type 0} (fit : Kind → A → Bool) (ks : List Kind) (xs : List A) (n : ℕ) (k : Kind) (x : A) → n < length ks → n < length xs → fit (slice_index_or ks n k) (slice_index_or xs n x) ≡ false → all_fit fit (drop n ks) (drop n xs) ≡ all_fit fit ks xs → false ≡ all_fit fit ks xs
all_fit_break fit ks xs n k x lk lx e same = sym (all_fit_here fit ks xs n k x lk lx e) ∙ same
