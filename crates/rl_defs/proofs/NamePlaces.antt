-- Names, and their places among names.
use Rattle.std.proofs.Common.{◌≡◌, ℕ, zero, suc, Bool, true, false, List, [], ◌∷◌, Option, Some, None, refl, eq-eqb, sym, ap, subst, ◌∙◌, cond, nat_eq}
use Rattle.std.specs.Prelude.{slice_get}
use Rattle.std.specs.Option.{option_map}
use Rattle.std.specs.Cmp.Lexicographic.{pointwise}
use Rattle.std.proofs.lemmas.Slice.Eq.{slice_eq-Decides}
use Rattle.std.proofs.lemmas.Bool.Decides.{Decides-eqb}
use Rattle.rl_defs.specs.Interfaces.{place_of}

-- names of equal bytes are equal
pub same_name : (left right : List ℕ) → pointwise nat_eq left right ≡ true → left ≡ right
same_name left right is = (slice_eq-Decides Decides-eqb left right true (sym is)).0 refl

pub same_self : (q : List ℕ) → pointwise nat_eq q q ≡ true
same_self [] = refl
same_self (c ∷ cs) = rw (eq-eqb c c refl, same_self cs) refl

-- the name stands at its place
pub place_there : (q : List ℕ) (names : List (List ℕ)) (k : ℕ) → place_of q names ≡ Some k → slice_get names k ≡ Some q
place_there q [] k e = absurd cc
place_there q (x ∷ xs) k e = here (pointwise nat_eq x q) refl (place_of q xs) e (λ j h. place_there q xs j h) where
  here : (b : Bool) → pointwise nat_eq x q ≡ b → (o : Option ℕ) → cond b (Some 0) (option_map (λ (i : ℕ). suc i) o) ≡ Some k → ((j : ℕ) → o ≡ Some j → slice_get xs j ≡ Some q) → slice_get (x ∷ xs) k ≡ Some q
  here true is o h more = let at : 0 ≡ k = cc in subst (λ (n : ℕ). slice_get (x ∷ xs) n ≡ Some q) at (ap (λ (y : List ℕ). Some y) (same_name x q is))
  here false is None h more = absurd cc
  here false is (Some j) h more = let at : suc j ≡ k = cc in subst (λ (n : ℕ). slice_get (x ∷ xs) n ≡ Some q) at (more j refl)

-- a name that is there has a place
pub there_place : (q : List ℕ) (names : List (List ℕ)) (k : ℕ) → slice_get names k ≡ Some q → (p : ℕ) × (place_of q names ≡ Some p)
there_place q [] k e = absurd cc
there_place q (x ∷ xs) k e = here (pointwise nat_eq x q) refl k e (λ j h. there_place q xs j h) where
  here : (b : Bool) → pointwise nat_eq x q ≡ b → (k : ℕ) → slice_get (x ∷ xs) k ≡ Some q → ((j : ℕ) → slice_get xs j ≡ Some q → (p : ℕ) × (place_of q xs ≡ Some p)) → (p : ℕ) × (cond b (Some 0) (option_map (λ (i : ℕ). suc i) (place_of q xs)) ≡ Some p)
  here true is k h more = (0, refl)
  here false is zero h more = let same : x ≡ q = cc in let bad : true ≡ false = sym (same_self q) ∙ ap (λ (y : List ℕ). pointwise nat_eq y q) (sym same) ∙ is in absurd cc
  here false is (suc k) h more = let r = more k h in (suc r.0, ap (option_map (λ (i : ℕ). suc i)) r.1)

-- no name stands at two places
abbrev pub Apart : List (List ℕ) → Type 0
Apart names = (j k : ℕ) (q : List ℕ) → slice_get names j ≡ Some q → slice_get names k ≡ Some q → j ≡ k

-- of names apart, each has the place where it stands
pub apart_place : (names : List (List ℕ)) (k : ℕ) (q : List ℕ) → Apart names → slice_get names k ≡ Some q → place_of q names ≡ Some k
apart_place names k q apart e =
    let r = there_place q names k e in
    r.1 ∙ ap (λ (n : ℕ). Some n) (apart r.0 k q (place_there q names r.0 r.1) e)
