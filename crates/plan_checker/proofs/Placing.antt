-- Names and their places.
use Rattle.std.proofs.Common.{◌≡◌, ℕ, zero, suc, ◌+◌, ◌<◌, inl, inr, Bool, true, false, ◌||◌, List, [], ◌∷◌, ◌++◌, length, Option, Some, None, refl, eq-eqb, sym, ap, subst, ◌∙◌, arith, cond, nat_eq}
use Rattle.std.specs.Prelude.{slice_get, is_some, IsTrue}
use Rattle.std.specs.List.{list_any}
use Rattle.std.specs.Option.{option_map}
use Rattle.std.specs.Cmp.Lexicographic.{pointwise}
use Rattle.rl_defs.specs.Words.{is_name, same_bytes}
use Rattle.rl_defs.specs.Interfaces.{place_of}
use Rattle.rl_defs.specs.LoadOf.{counted}
use Rattle.rl_defs.proofs.Places.{get_last}
use Rattle.name_tables.proofs.Placing.{same_name}
use Rattle.plan_checker.specs.Facts.{AreNames}

-- a place is within the names
pub place_within : (q : List ℕ) (names : List (List ℕ)) (k : ℕ) → place_of q names ≡ Some k → k < length names
place_within q [] k e = absurd cc
place_within q (x ∷ xs) k e = here (pointwise nat_eq x q) (place_of q xs) e (λ j h. place_within q xs j h) where
  here : (b : Bool) (o : Option ℕ) → cond b (Some 0) (option_map (λ (i : ℕ). suc i) o) ≡ Some k → ((j : ℕ) → o ≡ Some j → j < length xs) → k < suc (length xs)
  here true o h more = let is : 0 ≡ k = cc in omega (arith, is)
  here false None h more = absurd cc
  here false (Some j) h more = let is : suc j ≡ k = cc in omega (arith, is, more j refl)

-- the name stands at its place
pub place_there : (q : List ℕ) (names : List (List ℕ)) (k : ℕ) → place_of q names ≡ Some k → slice_get names k ≡ Some q
place_there q [] k e = absurd cc
place_there q (x ∷ xs) k e = here (pointwise nat_eq x q) refl (place_of q xs) e (λ j h. place_there q xs j h) where
  here : (b : Bool) → pointwise nat_eq x q ≡ b → (o : Option ℕ) → cond b (Some 0) (option_map (λ (i : ℕ). suc i) o) ≡ Some k → ((j : ℕ) → o ≡ Some j → slice_get xs j ≡ Some q) → slice_get (x ∷ xs) k ≡ Some q
  here true is o h more = let at : 0 ≡ k = cc in subst (λ (n : ℕ). slice_get (x ∷ xs) n ≡ Some q) at (ap (λ (y : List ℕ). Some y) (same_name x q is))
  here false is None h more = absurd cc
  here false is (Some j) h more = let at : suc j ≡ k = cc in subst (λ (n : ℕ). slice_get (x ∷ xs) n ≡ Some q) at (more j refl)

same_self : (q : List ℕ) → pointwise nat_eq q q ≡ true
same_self [] = refl
same_self (c ∷ cs) = rw (eq-eqb c c refl, same_self cs) refl

-- a name that is there has a place
pub place_some : (q : List ℕ) (names : List (List ℕ)) (k : ℕ) → slice_get names k ≡ Some q → is_some (place_of q names) ≡ true
place_some q [] k e = absurd cc
place_some q (x ∷ xs) zero e = let same : x ≡ q = cc in ap (λ (b : Bool). is_some (cond b (Some 0) (option_map (λ (i : ℕ). suc i) (place_of q xs)))) (ap (λ (y : List ℕ). pointwise nat_eq y q) same ∙ same_self q)
place_some q (x ∷ xs) (suc k) e = here (pointwise nat_eq x q) (place_of q xs) (place_some q xs k e) where
  here : (b : Bool) (o : Option ℕ) → is_some o ≡ true → is_some (cond b (Some 0) (option_map (λ (i : ℕ). suc i) o)) ≡ true
  here true o h = refl
  here false None h = absurd cc
  here false (Some j) h = refl

-- whether a name is there
pub is_there : (q : List ℕ) (names : List (List ℕ)) → is_some (place_of q names) ≡ list_any (λ other. same_bytes other q) names
is_there q [] = refl
is_there q (x ∷ xs) = here (pointwise nat_eq x q) (place_of q xs) (list_any (λ other. same_bytes other q) xs) (is_there q xs) where
  here : (b : Bool) (o : Option ℕ) (any : Bool) → is_some o ≡ any → is_some (cond b (Some 0) (option_map (λ (i : ℕ). suc i) o)) ≡ (b || any)
  here true o any h = refl
  here false None any h = h
  here false (Some j) any h = h

-- the number of a name among two lists of names
pub number_first : (q : List ℕ) (xs ys : List (List ℕ)) (k : ℕ) → place_of q xs ≡ Some k → counted (place_of q (xs ++ ys)) ≡ k + 1
number_first q [] ys k e = absurd cc
number_first q (x ∷ xs) ys k e = here (pointwise nat_eq x q) (place_of q xs) (place_of q (xs ++ ys)) e (λ j h. number_first q xs ys j h) where
  here : (b : Bool) (o p : Option ℕ) → cond b (Some 0) (option_map (λ (i : ℕ). suc i) o) ≡ Some k → ((j : ℕ) → o ≡ Some j → counted p ≡ j + 1) → counted (cond b (Some 0) (option_map (λ (i : ℕ). suc i) p)) ≡ k + 1
  here true o p h more = let is : 0 ≡ k = cc in omega (arith, is)
  here false None p h more = absurd cc
  here false (Some j) None h more = let is : suc j ≡ k = cc in omega (arith, is, more j refl)
  here false (Some j) (Some i) h more = let is : suc j ≡ k = cc in omega (arith, is, more j refl)

-- the place behind so many names
abbrev pub behind : ℕ → Option ℕ → Option ℕ
behind n None = None
behind n (Some k) = Some (n + k)

pub place_second : (q : List ℕ) (xs ys : List (List ℕ)) → place_of q xs ≡ None → place_of q (xs ++ ys) ≡ behind (length xs) (place_of q ys)
place_second q [] ys e = none (place_of q ys) where
  none : (o : Option ℕ) → o ≡ behind 0 o
  none None = refl
  none (Some k) = ap (λ (n : ℕ). Some n) (omega arith)
place_second q (x ∷ xs) ys e = here (pointwise nat_eq x q) (place_of q xs) (place_of q (xs ++ ys)) (place_of q ys) e (λ h. place_second q xs ys h) where
  here : (b : Bool) (o p r : Option ℕ) → cond b (Some 0) (option_map (λ (i : ℕ). suc i) o) ≡ None → (o ≡ None → p ≡ behind (length xs) r) → cond b (Some 0) (option_map (λ (i : ℕ). suc i) p) ≡ behind (suc (length xs)) r
  here true o p r h more = absurd cc
  here false (Some j) p r h more = absurd cc
  here false None p r h more = ap (option_map (λ (i : ℕ). suc i)) (more refl) ∙ next r where
    next : (s : Option ℕ) → option_map (λ (i : ℕ). suc i) (behind (length xs) s) ≡ behind (suc (length xs)) s
    next None = refl
    next (Some k) = ap (λ (n : ℕ). Some n) (omega arith)

-- a name isn't empty
pub not_empty : (name : List ℕ) → IsTrue (is_name name) → pointwise nat_eq name [] ≡ false
not_empty [] h = absurd cc
not_empty (b ∷ bs) h = refl

-- among names there is no empty one
pub no_empty : (names : List (List ℕ)) → AreNames names → place_of [] names ≡ None
no_empty [] h = refl
no_empty (x ∷ xs) h = both (pointwise nat_eq x []) (place_of [] xs) (not_empty x (h.each 0 x refl)) (no_empty xs (record { each = λ k name e. h.each (suc k) name e })) where
  both : (b : Bool) (o : Option ℕ) → b ≡ false → o ≡ None → cond b (Some 0) (option_map (λ (i : ℕ). suc i) o) ≡ None
  both b o e f = rw (e, f) refl

pub names_none : (names : List (List ℕ)) → names ≡ [] → AreNames names
names_none names is = subst AreNames (sym is) (record { each = λ k name e. absurd cc })

pub names_more : (before after : List (List ℕ)) (name : List ℕ) → AreNames before → IsTrue (is_name name) → after ≡ before ++ name ∷ [] → AreNames after
names_more before after name h is more = subst AreNames (sym more) (record {
  each = λ k x e. elim (get_last before name k x e) [ inl a ↦ h.each k x a | inr b ↦ subst (λ (y : List ℕ). IsTrue (is_name y)) (sym b.1) is ];
})
