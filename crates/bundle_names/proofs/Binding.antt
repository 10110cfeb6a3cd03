-- Script names that a line binds, one after the other.
use Rattle.std.proofs.Common.{◌≡◌, ℕ, ◌+◌, ◌≤◌, Bool, true, false, ◌||◌, List, [], ◌∷◌, ◌++◌, length, drop, Some, refl, sym, ap, ◌∙◌, append_assoc}
use Rattle.std.specs.Prelude.{slice_get}
use Rattle.std.specs.List.{flat_map, list_any}
use Rattle.std.proofs.lemmas.List.{append-nil, drop_all}
use Rattle.rl_defs.proofs.Places.{drop_at}
use Rattle.bundle_names.specs.Tests.{is_given, repeats, has_unknown, is_unknown}

or_assoc : (a b c : Bool) → ((a || b) || c) ≡ (a || (b || c))
or_assoc true b c = refl
or_assoc false b c = refl

or_false : (a : Bool) → (a || false) ≡ a
or_false true = refl
or_false false = refl

-- What is kept: whether a name came again, and the names so far.
pub record Binds (again : Bool) (bound : List (List ℕ)) (rest : List (List ℕ)) (whole : Bool) (all : List (List ℕ)) : Type 0 where
  pub repeated : (again || repeats bound rest) ≡ whole
  pub names : bound ++ rest ≡ all

pub binds_begin : (bound names : List (List ℕ)) → Binds false bound names (repeats bound names) (bound ++ names)
binds_begin bound names = record { repeated = refl; names = refl }

pub binds_more : (again now : Bool) (bound next : List (List ℕ)) (names : List (List ℕ)) (k : ℕ) (name : List ℕ) (whole : Bool) (all : List (List ℕ)) → Binds again bound (drop k names) whole all → slice_get names k ≡ Some name → now ≡ (again || is_given bound name) → next ≡ bound ++ name ∷ [] → Binds now next (drop (k + 1) names) whole all
binds_more again now bound next names k name whole all h here is more =
    let rest : drop k names ≡ name ∷ drop (k + 1) names = drop_at names k name here in
    rw (is, more) (record {
      repeated = or_assoc again (is_given bound name) (repeats (bound ++ name ∷ []) (drop (k + 1) names)) ∙ ap (λ (ns : List (List ℕ)). again || repeats bound ns) (sym rest) ∙ h.repeated;
      names = append_assoc bound (name ∷ []) (drop (k + 1) names) ∙ ap (λ (ns : List (List ℕ)). bound ++ ns) (sym rest) ∙ h.names;
    })

pub binds_again : (again : Bool) (bound names : List (List ℕ)) (k : ℕ) (whole : Bool) (all : List (List ℕ)) → length names ≤ k → Binds again bound (drop k names) whole all → again ≡ whole
binds_again again bound names k whole all le h = sym (or_false again) ∙ ap (λ (ns : List (List ℕ)). again || repeats bound ns) (sym (drop_all k names le)) ∙ h.repeated

pub binds_all : (again : Bool) (bound names : List (List ℕ)) (k : ℕ) (whole : Bool) (all : List (List ℕ)) → length names ≤ k → Binds again bound (drop k names) whole all → bound ≡ all
binds_all again bound names k whole all le h = sym (append-nil bound) ∙ ap (λ (ns : List (List ℕ)). bound ++ ns) (sym (drop_all k names le)) ∙ h.names

-- what the arguments name
any_append : (declared xs ys : List (List ℕ)) → has_unknown declared (xs ++ ys) ≡ (has_unknown declared xs || has_unknown declared ys)
any_append declared [] ys = refl
any_append declared (x ∷ xs) ys = ap (λ (b : Bool). is_unknown declared x || b) (any_append declared xs ys) ∙ sym (or_assoc (is_unknown declared x) (has_unknown declared xs) (has_unknown declared ys))

pub unknown_among : {A : Type 0} (f : A → List (List ℕ)) (declared : List (List ℕ)) (args : List A) → list_any (λ a. has_unknown declared (f a)) args ≡ has_unknown declared (flat_map f args)
unknown_among f declared [] = refl
unknown_among f declared (x ∷ xs) = ap (λ (b : Bool). has_unknown declared (f x) || b) (unknown_among f declared xs) ∙ sym (any_append declared (f x) (flat_map f xs))
