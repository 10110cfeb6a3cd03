-- Names and their numbers, name by name.
use Rattle.std.proofs.Common.{◌≡◌, ℕ, suc, ◌+◌, ◌≤◌, Bool, true, false, List, [], ◌∷◌, length, Option, Some, None, refl, sym, ap, subst, ◌∙◌, arith, cond, nat_eq, map, drop}
use Rattle.std.specs.Prelude.{slice_get, is_some, IsTrue}
use Rattle.std.proofs.lemmas.List.{drop_all}
use Rattle.rl_defs.specs.Words.{is_name}
use Rattle.std.specs.Option.{option_map}
use Rattle.std.specs.Cmp.Lexicographic.{pointwise}
use Rattle.rl_defs.specs.Interfaces.{place_of}
use Rattle.rl_defs.proofs.Places.{drop_at}
use Rattle.domain_checker.specs.Numbering.{or_else, noted, counted_from, found}

-- one more name was noted
pub noted_or : (old new : Option ℕ) (same : Bool) (number : ℕ) (rest : Option ℕ) → new ≡ or_else old (cond same (Some number) None) → or_else old (cond same (Some number) rest) ≡ or_else new rest
noted_or (Some k) new same number rest e = ap (λ n. or_else n rest) (sym e)
noted_or None new true number rest e = ap (λ n. or_else n rest) (sym e)
noted_or None new false number rest e = ap (λ n. or_else n rest) (sym e)

counted_first : (same : Bool) (count : ℕ) (place : Option ℕ) → counted_from count (cond same (Some 0) (option_map (λ k. suc k) place)) ≡ cond same (Some count) (counted_from (count + 1) place)
counted_first true count place = ap (λ (n : ℕ). Some n) (omega arith)
counted_first false count None = refl
counted_first false count (Some k) = ap (λ (n : ℕ). Some n) (omega arith)

counted_zero : (place : Option ℕ) → counted_from 0 place ≡ place
counted_zero None = refl
counted_zero (Some k) = ap (λ (n : ℕ). Some n) (omega arith)

-- What a look-up keeps: it gives the place of each name, as far as the names were noted.
pub record Finds (look : List ℕ → Option ℕ) (count : ℕ) (names all : List (List ℕ)) : Type 0 where
  pub each : (q : List ℕ) → found look count names q ≡ place_of q all

pub finds_none : (look : List ℕ → Option ℕ) (all : List (List ℕ)) → ((q : List ℕ) → look q ≡ None) → Finds look 0 all all
finds_none look all none = record { each = λ q. ap (λ (o : Option ℕ). or_else o (counted_from 0 (place_of q all))) (none q) ∙ counted_zero (place_of q all) }

pub finds_more : (old new : List ℕ → Option ℕ) (count : ℕ) (name : List ℕ) (names all : List (List ℕ)) → Finds old count (name ∷ names) all → ((q : List ℕ) → new q ≡ noted old name count q) → Finds new (count + 1) names all
finds_more old new count name names all h step = record {
  each = λ q. sym (noted_or (old q) (new q) (pointwise nat_eq name q) count (counted_from (count + 1) (place_of q names)) (step q)) ∙ ap (or_else (old q)) (sym (counted_first (pointwise nat_eq name q) count (place_of q names))) ∙ h.each q;
}

pub or_none : (o : Option ℕ) → or_else o None ≡ o
or_none None = refl
or_none (Some k) = refl

pub finds_all : (look : List ℕ → Option ℕ) (count : ℕ) (all : List (List ℕ)) → Finds look count [] all → (q : List ℕ) → look q ≡ place_of q all
finds_all look count all h q = sym (or_none (look q)) ∙ h.each q

-- the names of things in a list, one thing more
pub finds_row : {A : Type 0} (f : A → List ℕ) (xs : List A) (i : ℕ) (x : A) (old new : List ℕ → Option ℕ) → slice_get xs i ≡ Some x → Finds old i (map f (drop i xs)) (map f xs) → ((q : List ℕ) → new q ≡ noted old (f x) i q) → Finds new (i + 1) (map f (drop (i + 1) xs)) (map f xs)
finds_row f xs i x old new here h step = finds_more old new i (f x) (map f (drop (i + 1) xs)) (map f xs) (subst (λ (names : List (List ℕ)). Finds old i names (map f xs)) (ap (map f) (drop_at xs i x here)) h) step

pub finds_end : {A : Type 0} (f : A → List ℕ) (xs : List A) (i : ℕ) (look : List ℕ → Option ℕ) → length xs ≤ i → Finds look i (map f (drop i xs)) (map f xs) → (q : List ℕ) → look q ≡ place_of q (map f xs)
finds_end f xs i look le h = finds_all look i (map f xs) (subst (λ (names : List (List ℕ)). Finds look i names (map f xs)) (ap (map f) (drop_all i xs le)) h)

not_empty : (name : List ℕ) → IsTrue (is_name name) → pointwise nat_eq name [] ≡ false
not_empty [] h = absurd cc
not_empty (b ∷ bs) h = refl

-- a name isn't empty
pub still_none : (old new : List ℕ → Option ℕ) (name : List ℕ) (number : ℕ) → IsTrue (is_name name) → ((q : List ℕ) → new q ≡ noted old name number q) → old [] ≡ None → new [] ≡ None
still_none old new name number h step none = step [] ∙ both (old []) (pointwise nat_eq name []) none (not_empty name h) where
  both : (o : Option ℕ) (b : Bool) → o ≡ None → b ≡ false → cond (is_some o) o (cond b (Some number) None) ≡ None
  both o b e f = rw (e, f) refl
