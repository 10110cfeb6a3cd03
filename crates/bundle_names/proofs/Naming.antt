-- Names among names.
use Rattle.std.proofs.Common.{◌≡◌, ℕ, zero, suc, Bool, true, false, ◌||◌, List, [], ◌∷◌, Option, Some, None, ◌⊎◌, inl, inr, refl, sym, ap, cond, nat_eq}
use Rattle.std.specs.Prelude.{slice_get, is_some, is_none, IsTrue}
use Rattle.std.specs.Option.{option_map}
use Rattle.std.specs.Cmp.Lexicographic.{pointwise}
use Rattle.std.proofs.lemmas.Slice.Eq.{slice_eq-Decides}
use Rattle.std.proofs.lemmas.Bool.Decides.{Decides-eqb}
use Rattle.rl_defs.specs.Interfaces.{place_of}
use Rattle.rl_defs.specs.NameRules.{IsUnknown}
use Rattle.bundle_names.specs.Tests.{is_given, is_unknown, has_unknown}

pub or_either : (a b : Bool) → IsTrue (a || b) → IsTrue a ⊎ IsTrue b
or_either true b h = inl refl
or_either false b h = inr h

pub or_first : (a b : Bool) → IsTrue a → IsTrue (a || b)
or_first true b h = refl
or_first false b h = absurd cc

pub or_second : (a b : Bool) → IsTrue b → IsTrue (a || b)
or_second true b h = refl
or_second false b h = h

pub same_text : (left right : List ℕ) → pointwise nat_eq left right ≡ true → left ≡ right
same_text left right is = (slice_eq-Decides Decides-eqb left right true (sym is)).0 refl

pub self_text : (name : List ℕ) → pointwise nat_eq name name ≡ true
self_text name = (slice_eq-Decides Decides-eqb name name (pointwise nat_eq name name) refl).1 refl

-- a name that stands among names has a place there
pub stands_given : (names : List (List ℕ)) (i : ℕ) (name : List ℕ) → slice_get names i ≡ Some name → IsTrue (is_given names name)
stands_given [] i name e = absurd cc
stands_given (x ∷ xs) zero name e = let same : x ≡ name = cc in rw (same, self_text name) refl
stands_given (x ∷ xs) (suc i) name e = step (pointwise nat_eq x name) (place_of name xs) (stands_given xs i name e) where
  step : (b : Bool) (o : Option ℕ) → IsTrue (is_some o) → IsTrue (is_some (cond b (Some 0) (option_map (λ k. suc k) o)))
  step true o h = refl
  step false (Some k) h = refl
  step false None h = absurd cc

-- a name that has a place stands there
pub given_stands : (names : List (List ℕ)) (name : List ℕ) → IsTrue (is_given names name) → (i : ℕ) × (slice_get names i ≡ Some name)
given_stands [] name h = absurd cc
given_stands (x ∷ xs) name h = step (pointwise nat_eq x name) (place_of name xs) refl refl (λ t. given_stands xs name t) h where
  step : (b : Bool) (o : Option ℕ) → pointwise nat_eq x name ≡ b → place_of name xs ≡ o → (IsTrue (is_given xs name) → (i : ℕ) × (slice_get xs i ≡ Some name)) → IsTrue (is_some (cond b (Some 0) (option_map (λ k. suc k) o))) → (i : ℕ) × (slice_get (x ∷ xs) i ≡ Some name)
  step true o e f rest t = (0, ap (λ (n : List ℕ). Some n) (same_text x name e))
  step false (Some k) e f rest t = let there = rest (rw f refl) in (suc there.0, there.1)
  step false None e f rest t = absurd cc

none_unknown : (o : Option ℕ) → o ≡ None → IsTrue (is_none o)
none_unknown None e = refl
none_unknown (Some k) e = absurd cc

unknown_none : (o : Option ℕ) → IsTrue (is_none o) → o ≡ None
unknown_none None h = refl
unknown_none (Some k) h = absurd cc

pub is_unknown_none : (declared : List (List ℕ)) (name : List ℕ) → IsTrue (is_unknown declared name) → place_of name declared ≡ None
is_unknown_none declared name h = unknown_none (place_of name declared) h

pub none_is_unknown : (declared : List (List ℕ)) (name : List ℕ) → place_of name declared ≡ None → IsTrue (is_unknown declared name)
none_is_unknown declared name e = none_unknown (place_of name declared) e

pub unknown_used : (declared used : List (List ℕ)) → IsUnknown used declared → IsTrue (has_unknown declared used)
unknown_used declared used u = at used u.place u.uses where
  at : (names : List (List ℕ)) (i : ℕ) → slice_get names i ≡ Some u.name → IsTrue (has_unknown declared names)
  at [] i e = absurd cc
  at (x ∷ xs) zero e = let same : x ≡ u.name = cc in or_first (is_unknown declared x) (has_unknown declared xs) (rw same (none_is_unknown declared u.name u.unknown))
  at (x ∷ xs) (suc i) e = or_second (is_unknown declared x) (has_unknown declared xs) (at xs i e)

pub used_unknown : (declared used : List (List ℕ)) → IsTrue (has_unknown declared used) → IsUnknown used declared
used_unknown declared [] h = absurd cc
used_unknown declared (x ∷ xs) h = elim (or_either (is_unknown declared x) (has_unknown declared xs) h) [
  | inl a ↦ record { place = 0; name = x; uses = refl; unknown = is_unknown_none declared x a }
  | inr b ↦ let rest = used_unknown declared xs b in record { place = suc rest.place; name = rest.name; uses = rest.uses; unknown = rest.unknown }
]
