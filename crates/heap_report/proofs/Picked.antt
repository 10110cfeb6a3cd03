-- The items that a test makes of a list, one item more.
use Rattle.std.proofs.Common.{◌≡◌, ℕ, ◌+◌, ◌<◌, ◌++◌, [], ◌∷◌, List, Option, Some, None, length, take, get_or, refl, ap, ◌∙◌, append-nil}
use Rattle.std.specs.List.{filter_map}
use Rattle.std.proofs.lemmas.List.{take_more}
use Rattle.std.proofs.lemmas.List.Elements.{filter_map-append}

one_more : {X : Type 0} (h : X → Option ℕ) (xs : List X) (i : ℕ) (d : X) → i < length xs → filter_map h (take (i + 1) xs) ≡ filter_map h (take i xs) ++ filter_map h (get_or xs i d ∷ [])
one_more h xs i d within = ap (filter_map h) (take_more xs i d within) ∙ filter_map-append h (take i xs) (get_or xs i d ∷ [])

one_item : {X : Type 0} (h : X → Option ℕ) (x : X) (o : ℕ) → h x ≡ Some o → filter_map h (x ∷ []) ≡ o ∷ []
one_item h x o e = rw e refl

no_item : {X : Type 0} (h : X → Option ℕ) (x : X) → h x ≡ None → filter_map h (x ∷ []) ≡ []
no_item h x e = rw e refl

pub picked : {X : Type 0} (h : X → Option ℕ) (xs : List X) (i : ℕ) (d : X) (o : ℕ) → i < length xs → h (get_or xs i d) ≡ Some o → filter_map h (take (i + 1) xs) ≡ filter_map h (take i xs) ++ o ∷ []
picked h xs i d o within is = one_more h xs i d within ∙ ap (λ (ys : List ℕ). filter_map h (take i xs) ++ ys) (one_item h (get_or xs i d) o is)

pub passed_over : {X : Type 0} (h : X → Option ℕ) (xs : List X) (i : ℕ) (d : X) → i < length xs → h (get_or xs i d) ≡ None → filter_map h (take (i + 1) xs) ≡ filter_map h (take i xs)
passed_over h xs i d within is = one_more h xs i d within ∙ (ap (λ (ys : List ℕ). filter_map h (take i xs) ++ ys) (no_item h (get_or xs i d) is) ∙ append-nil (filter_map h (take i xs)))
