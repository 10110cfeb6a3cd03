-- A list whose items are replaced one by one.
use Rattle.std.proofs.Common.{◌≡◌, ℕ, zero, suc, ◌+◌, ◌<◌, ◌++◌, [], ◌∷◌, List, length, map, take, drop, set, get_or, ap, ◌∙◌, add-one, arith}

replaced : {X : Type 0} (f : X → X) (xs : List X) (i : ℕ) (d y : X) → i < length xs → y ≡ f (get_or (map f (take i xs) ++ drop i xs) i d) → set (map f (take i xs) ++ drop i xs) i y ≡ map f (take (suc i) xs) ++ drop (suc i) xs
replaced f [] i d y within is = absurd (omega arith)
replaced f (x ∷ xs) zero d y within is = ap (λ z. z ∷ xs) is
replaced f (x ∷ xs) (suc i) d y within is = ap (λ zs. f x ∷ zs) (replaced f xs i d y (omega arith) is)

pub mapped_more : {X : Type 0} (f : X → X) (xs ys : List X) (i : ℕ) (d y : X) → i < length xs → ys ≡ map f (take i xs) ++ drop i xs → y ≡ f (get_or ys i d) → set ys i y ≡ map f (take (i + 1) xs) ++ drop (i + 1) xs
mapped_more f xs ys i d y within so is =
    rw (so, add-one) (replaced f xs i d y within (is ∙ ap (λ zs. f (get_or zs i d)) so))
