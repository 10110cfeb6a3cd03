-- What is sorted and then reversed falls, and has the same numbers.
use Rattle.std.proofs.Common.{◌≡◌, ℕ, suc, ◌-◌, ◌<◌, ◌≤◌, List, [], ◌∷◌, length, get_or, arith, reverse}
use Rattle.std.proofs.lemmas.List.{get_or-reverse, length-reverse}
use Rattle.std.proofs.lemmas.List.Sorted.{IsPermutation-trans, IsNonDecreasingBy-from_sort}
use Rattle.std.specs.List.Sorted.{IsNonDecreasing}
use Rattle.rref_heap.specs.Listing.{Falls}
use Rattle.rref_heap.proofs.listing.Listing.sort.Goals as goal

falls_by_index : (xs : List ℕ) → ((k : ℕ) → suc k < length xs → get_or xs (suc k) 0 ≤ get_or xs k 0) → Falls xs
falls_by_index [] falls = tt
falls_by_index (x ∷ []) falls = tt
falls_by_index (x ∷ (y ∷ ys)) falls = (falls 0 (omega arith), falls_by_index (y ∷ ys) (λ k lt. falls (suc k) (omega arith)))

falls_reversed : (xs : List ℕ) → IsNonDecreasing xs → Falls (reverse xs)
falls_reversed xs rises = falls_by_index (reverse xs) (λ k lt. (
    let len : length (reverse xs) ≡ length xs = length-reverse xs in
    let low = get_or-reverse xs k 0 (omega arith) in
    let high = get_or-reverse xs (suc k) 0 (omega arith) in
    let up = rises (length xs - 1 - suc k) (length xs - 1 - k) 0 (omega arith) (omega arith) in
    omega (arith, low, high, up)))

pub returns-clause-same : goal.returns-clause-same
returns-clause-same c = IsPermutation-trans _ _ _ (rw (← c.self.view_is) c.sort_unstable.ensures.permutation) c.reverse.ensures.permutation

pub returns-clause-falls : goal.returns-clause-falls
returns-clause-falls c = rw c.reverse.ensures.items (falls_reversed _ (IsNonDecreasingBy-from_sort (λ x. x) _ c.sort_unstable.ensures.sorted))
