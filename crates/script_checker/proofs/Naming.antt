-- Names, their places, and what they are bound to.
use Rattle.std.proofs.Common.{◌≡◌, ℕ, suc, ◌+◌, ◌<◌, Bool, true, false, ◌||◌, List, [], ◌∷◌, ◌++◌, length, Option, Some, None, refl, ap, ◌∙◌, arith, cond, nat_eq, eq-eqb}
use Rattle.std.specs.Prelude.{is_some, slice_get}
use Rattle.std.specs.Option.{option_map}
use Rattle.std.specs.Cmp.Lexicographic.{pointwise}
use Rattle.rl_defs.specs.declared.tables.Kind.{Kind}
use Rattle.rl_defs.specs.Interfaces.{place_of}
use Rattle.script_checker.specs.Known.{Known, bound_name, IsEven}
use Rattle.rl_defs.specs.ScriptRules.{Bound, paired, kind_of, is_among}

-- a name is itself
pub same_name : (q : List ℕ) → pointwise nat_eq q q ≡ true
same_name [] = refl
same_name (c ∷ cs) = rw (eq-eqb c c refl) (same_name cs)

found_step : (b : Bool) (c : Kind) (cs : List Kind) (rest : Option Kind) (o : Option ℕ) (k : ℕ) → ((j : ℕ) → o ≡ Some j → rest ≡ slice_get cs j) → cond b (Some 0) (option_map (λ j. suc j) o) ≡ Some k → cond b (Some c) rest ≡ slice_get (c ∷ cs) k
found_step true c cs rest o k h e = let z : k ≡ 0 = cc in rw z refl
found_step false c cs rest None k h e = absurd cc
found_step false c cs rest (Some j) k h e = let z : k ≡ suc j = cc in rw z (h j refl)

-- a name that stands at a place is bound to the kind there
pub kind_found : (names : List (List ℕ)) (kinds : List Kind) (q : List ℕ) (k : ℕ) → place_of q names ≡ Some k → kind_of (paired names kinds) q ≡ slice_get kinds k
kind_found [] kinds q k e = absurd cc
kind_found (n ∷ ns) [] q k e = refl
kind_found (n ∷ ns) (c ∷ cs) q k e = found_step (pointwise nat_eq n q) c cs (kind_of (paired ns cs) q) (place_of q ns) k (λ j f. kind_found ns cs q j f) e

none_step : (b : Bool) (c : Kind) (rest : Option Kind) (o : Option ℕ) → (o ≡ None → rest ≡ None) → cond b (Some 0) (option_map (λ j. suc j) o) ≡ None → cond b (Some c) rest ≡ None
none_step true c rest o h e = absurd cc
none_step false c rest None h e = h refl
none_step false c rest (Some j) h e = absurd cc

pub kind_none : (names : List (List ℕ)) (kinds : List Kind) (q : List ℕ) → place_of q names ≡ None → kind_of (paired names kinds) q ≡ None
kind_none [] kinds q e = refl
kind_none (n ∷ ns) [] q e = refl
kind_none (n ∷ ns) (c ∷ cs) q e = none_step (pointwise nat_eq n q) c (kind_of (paired ns cs) q) (place_of q ns) (λ f. kind_none ns cs q f) e

pub paired_more : (names : List (List ℕ)) (kinds : List Kind) (n : List ℕ) (k : Kind) → length names ≡ length kinds → paired (names ++ n ∷ []) (kinds ++ k ∷ []) ≡ paired names kinds ++ record { name = n; kind = k } ∷ []
paired_more [] [] n k e = refl
paired_more [] (c ∷ cs) n k e = absurd (omega (arith, e))
paired_more (x ∷ xs) [] n k e = absurd (omega (arith, e))
paired_more (x ∷ xs) (c ∷ cs) n k e = ap (λ (bs : List Bound). record { name = x; kind = c } ∷ bs) (paired_more xs cs n k (omega (arith, e)))

among_step : (b r : Bool) (o : Option ℕ) → r ≡ is_some o → (b || r) ≡ is_some (cond b (Some 0) (option_map (λ j. suc j) o))
among_step true r o e = refl
among_step false r None e = e
among_step false r (Some j) e = e

-- a name is among names where it has a place there
pub among_place : (q : List ℕ) (names : List (List ℕ)) → is_among q names ≡ is_some (place_of q names)
among_place q [] = refl
among_place q (n ∷ ns) = among_step (pointwise nat_eq n q) (is_among q ns) (place_of q ns) (among_place q ns)

within_step : (b : Bool) (o : Option ℕ) (k n : ℕ) → ((j : ℕ) → o ≡ Some j → j < n) → cond b (Some 0) (option_map (λ j. suc j) o) ≡ Some k → k < suc n
within_step true o k n h e = let z : k ≡ 0 = cc in omega arith
within_step false None k n h e = absurd cc
within_step false (Some j) k n h e = let z : k ≡ suc j = cc in omega (arith, h j refl)

pub place_within : (q : List ℕ) (names : List (List ℕ)) (k : ℕ) → place_of q names ≡ Some k → k < length names
place_within q [] k e = absurd cc
place_within q (n ∷ ns) k e = within_step (pointwise nat_eq n q) (place_of q ns) k (length ns) (λ j f. place_within q ns j f) e

grow_step : (b : Bool) (old new : Option ℕ) → (is_some old ≡ true → new ≡ old) → is_some (cond b (Some 0) (option_map (λ j. suc j) old)) ≡ true → cond b (Some 0) (option_map (λ j. suc j) new) ≡ cond b (Some 0) (option_map (λ j. suc j) old)
grow_step true old new h e = refl
grow_step false None new h e = absurd cc
grow_step false (Some j) new h e = ap (option_map (λ (i : ℕ). suc i)) (h refl)

-- a name that is there keeps its place among more names
pub place_grows : (q : List ℕ) (names more : List (List ℕ)) → is_some (place_of q names) ≡ true → place_of q (names ++ more) ≡ place_of q names
place_grows q [] more e = absurd cc
place_grows q (n ∷ ns) more e = grow_step (pointwise nat_eq n q) (place_of q ns) (place_of q (ns ++ more)) (λ f. place_grows q ns more f) e

behind_step : (b : Bool) (old new other : Option ℕ) (n : ℕ) → (old ≡ None → new ≡ option_map (λ j. n + j) other) → cond b (Some 0) (option_map (λ j. suc j) old) ≡ None → cond b (Some 0) (option_map (λ j. suc j) new) ≡ option_map (λ j. suc n + j) other
behind_step true old new other n h e = absurd cc
behind_step false (Some j) new other n h e = absurd cc
behind_step false None new None n h e = ap (option_map (λ (i : ℕ). suc i)) (h refl)
behind_step false None new (Some j) n h e = ap (option_map (λ (i : ℕ). suc i)) (h refl) ∙ ap (λ (i : ℕ). Some i) (omega arith)

zero_more : (o : Option ℕ) → o ≡ option_map (λ j. 0 + j) o
zero_more None = refl
zero_more (Some j) = ap (λ (i : ℕ). Some i) (omega arith)

-- a name that isn't there stands among those behind
pub place_behind : (q : List ℕ) (names more : List (List ℕ)) → place_of q names ≡ None → place_of q (names ++ more) ≡ option_map (λ j. length names + j) (place_of q more)
place_behind q [] more e = zero_more (place_of q more)
place_behind q (n ∷ ns) more e = behind_step (pointwise nat_eq n q) (place_of q ns) (place_of q (ns ++ more)) (place_of q more) (length ns) (λ f. place_behind q ns more f) e

test_true : (b : Bool) (o : Option ℕ) → b ≡ true → is_some (cond b (Some 0) o) ≡ true
test_true true o e = refl
test_true false o e = absurd cc

-- among names with one more, that one is there
pub last_there : (q : List ℕ) (names : List (List ℕ)) → is_some (place_of q (names ++ q ∷ [])) ≡ true
last_there q [] = test_true (pointwise nat_eq q q) (option_map (λ j. suc j) None) (same_name q)
last_there q (n ∷ ns) = step (pointwise nat_eq n q) (place_of q (ns ++ q ∷ [])) (last_there q ns) where
  step : (b : Bool) (o : Option ℕ) → is_some o ≡ true → is_some (cond b (Some 0) (option_map (λ j. suc j) o)) ≡ true
  step true o e = refl
  step false None e = e
  step false (Some j) e = refl

there_behind_step : (b : Bool) (o : Option ℕ) → is_some o ≡ true → is_some (cond b (Some 0) (option_map (λ j. suc j) o)) ≡ true
there_behind_step true o e = refl
there_behind_step false None e = e
there_behind_step false (Some j) e = refl

-- a name that is there is among more names too
pub there_first : (q : List ℕ) (names more : List (List ℕ)) → is_some (place_of q names) ≡ true → is_some (place_of q (names ++ more)) ≡ true
there_first q names more e = ap is_some (place_grows q names more e) ∙ e

pub there_last : (q : List ℕ) (names more : List (List ℕ)) → is_some (place_of q more) ≡ true → is_some (place_of q (names ++ more)) ≡ true
there_last q [] more e = e
there_last q (n ∷ ns) more e = there_behind_step (pointwise nat_eq n q) (place_of q (ns ++ more)) (there_last q ns more e)

-- what is known with one name more
pub view_more : (names new : List (List ℕ)) (kinds more : List Kind) (gone : List (List ℕ)) (n : List ℕ) (k : Kind) → IsEven names kinds → new ≡ names ++ n ∷ [] → more ≡ kinds ++ k ∷ [] → ◌≡◌ {A = Known} (record { names = new; bound = paired new more; gone = gone }) (record { names = names ++ n ∷ []; bound = paired names kinds ++ bound_name n k ∷ []; gone = gone })
view_more names new kinds more gone n k h e f =
    ap (λ (ns : List (List ℕ)). record { names = ns; bound = paired ns more; gone = gone }) e
    ∙ ap (λ (ks : List Kind). record { names = names ++ n ∷ []; bound = paired (names ++ n ∷ []) ks; gone = gone }) f
    ∙ ap (λ (bs : List Bound). record { names = names ++ n ∷ []; bound = bs; gone = gone }) (paired_more names kinds n k h.even)
