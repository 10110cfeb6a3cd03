-- The place of a method's name.
use Rattle.std.proofs.Common.{◌≡◌, ℕ, suc, ◌+◌, Bool, true, false, List, ◌∷◌, drop, Option, Some, None, cond, nat_eq, refl, ap, ◌∙◌, arith}
use Rattle.std.specs.Prelude.{slice_get}
use Rattle.std.specs.Option.{option_map}
use Rattle.std.specs.Cmp.Lexicographic.{pointwise}
use Rattle.rl_defs.specs.declared.tables.MethodRow.{MethodRow}
use Rattle.rl_defs.specs.Interfaces.{place_of}
use Rattle.rl_defs.proofs.Places.{drop_at, drop_past}
use Rattle.proxy_tables.specs.Names.{method_names}

-- a place that is counted from a later item
abbrev pub shifted : ℕ → Option ℕ → Option ℕ
shifted i o = option_map (λ k. i + k) o

shift_suc : (i : ℕ) (o : Option ℕ) → shifted i (option_map (λ k. suc k) o) ≡ shifted (i + 1) o
shift_suc i None = refl
shift_suc i (Some k) = ap (λ (n : ℕ). Some n) (omega arith)

pub shift_none : (o : Option ℕ) → shifted 0 o ≡ o
shift_none None = refl
shift_none (Some k) = ap (λ (n : ℕ). Some n) (omega arith)

names_at : (ms : List MethodRow) (i : ℕ) (m : MethodRow) → slice_get ms i ≡ Some m → method_names (drop i ms) ≡ m.name ∷ method_names (drop (i + 1) ms)
names_at ms i m e = ap method_names (drop_at ms i m e)

-- another name
pub place_later : (name : List ℕ) (ms : List MethodRow) (i : ℕ) (m : MethodRow) (whole : Option ℕ) → slice_get ms i ≡ Some m → pointwise nat_eq m.name name ≡ false → whole ≡ shifted i (place_of name (method_names (drop i ms))) → whole ≡ shifted (i + 1) (place_of name (method_names (drop (i + 1) ms)))
place_later name ms i m whole e differs h =
    h ∙ ap (λ (ns : List (List ℕ)). shifted i (place_of name ns)) (names_at ms i m e)
    ∙ ap (λ (b : Bool). shifted i (cond b (Some 0) (option_map (λ k. suc k) (place_of name (method_names (drop (i + 1) ms)))))) differs
    ∙ shift_suc i (place_of name (method_names (drop (i + 1) ms)))

-- the name
pub place_here : (name : List ℕ) (ms : List MethodRow) (i : ℕ) (m : MethodRow) (whole : Option ℕ) → slice_get ms i ≡ Some m → pointwise nat_eq m.name name ≡ true → whole ≡ shifted i (place_of name (method_names (drop i ms))) → whole ≡ Some i
place_here name ms i m whole e same h =
    h ∙ ap (λ (ns : List (List ℕ)). shifted i (place_of name ns)) (names_at ms i m e)
    ∙ ap (λ (b : Bool). shifted i (cond b (Some 0) (option_map (λ k. suc k) (place_of name (method_names (drop (i + 1) ms)))))) same
    ∙ ap (λ (n : ℕ). Some n) (omega arith)

-- no method has the name
pub place_nowhere : (name : List ℕ) (ms : List MethodRow) (i : ℕ) (whole : Option ℕ) → slice_get ms i ≡ None → whole ≡ shifted i (place_of name (method_names (drop i ms))) → whole ≡ None
place_nowhere name ms i whole e h = h ∙ ap (λ (xs : List MethodRow). shifted i (place_of name (method_names xs))) (drop_past ms i e)
