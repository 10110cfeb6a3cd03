-- The place of the first row with a name.
use Rattle.std.proofs.Common.{◌≡◌, refl, sym, ◌∙◌, ap, ℕ, suc, ◌+◌, ◌<◌, ◌≤◌, Bool, true, false, cond, List, ◌∷◌, length, map, drop, Option, Some, None, slice_index_or, arith, nat_eq}
use Rattle.std.specs.Option.{option_map}
use Rattle.std.specs.Cmp.Lexicographic.{pointwise}
use Rattle.rl_defs.specs.Interfaces.{place_of}
use Rattle.code_runs.proofs.Pairing.{opened, closed}

abbrev pub shifted : ℕ → Option ℕ → Option ℕ
shifted i o = option_map (λ k. i + k) o

shift_suc : (i : ℕ) (o : Option ℕ) → shifted i (option_map (λ k. suc k) o) ≡ shifted (i + 1) o
shift_suc i None = refl
shift_suc i (Some k) = ap (λ (n : ℕ). Some n) (omega arith)

pub shift_none : (o : Option ℕ) → shifted 0 o ≡ o
shift_none None = refl
shift_none (Some k) = ap (λ (n : ℕ). Some n) (omega arith)

head_is : {A : Type 0} (f : A → List ℕ) (rows : List A) (i : ℕ) (x : A) → i < length rows → x ≡ slice_index_or rows i x → map f (drop i rows) ≡ f x ∷ map f (drop (i + 1) rows)
head_is f rows i x lt is = ap (map f) (opened rows i x lt) ∙ ap (λ y. f y ∷ map f (drop (i + 1) rows)) (sym is)

-- another name
pub place_later : {A : Type 0} (f : A → List ℕ) (name : List ℕ) (rows : List A) (i : ℕ) (x : A) (whole : Option ℕ) → i < length rows → x ≡ slice_index_or rows i x → pointwise nat_eq (f x) name ≡ false → whole ≡ shifted i (place_of name (map f (drop i rows))) → whole ≡ shifted (i + 1) (place_of name (map f (drop (i + 1) rows)))
place_later f name rows i x whole lt is differs h =
    h ∙ ap (λ (ns : List (List ℕ)). shifted i (place_of name ns)) (head_is f rows i x lt is)
    ∙ ap (λ (b : Bool). shifted i (cond b (Some 0) (option_map (λ k. suc k) (place_of name (map f (drop (i + 1) rows)))))) differs
    ∙ shift_suc i (place_of name (map f (drop (i + 1) rows)))

-- the name
pub place_here : {A : Type 0} (f : A → List ℕ) (name : List ℕ) (rows : List A) (i : ℕ) (x : A) (whole : Option ℕ) → i < length rows → x ≡ slice_index_or rows i x → pointwise nat_eq (f x) name ≡ true → whole ≡ shifted i (place_of name (map f (drop i rows))) → Some i ≡ whole
place_here f name rows i x whole lt is same h =
    sym (h ∙ ap (λ (ns : List (List ℕ)). shifted i (place_of name ns)) (head_is f rows i x lt is)
    ∙ ap (λ (b : Bool). shifted i (cond b (Some 0) (option_map (λ k. suc k) (place_of name (map f (drop (i + 1) rows)))))) same
    ∙ ap (λ (n : ℕ). Some n) (omega arith))

-- no row has the name
pub place_nowhere : {A : Type 0} (f : A → List ℕ) (name : List ℕ) (rows : List A) (i : ℕ) (whole : Option ℕ) → length rows ≤ i → whole ≡ shifted i (place_of name (map f (drop i rows))) → None ≡ whole
place_nowhere f name rows i whole le h = sym (h ∙ ap (λ xs. shifted i (place_of name (map f xs))) (closed rows i le))
