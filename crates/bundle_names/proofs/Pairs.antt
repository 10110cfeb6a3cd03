-- Pairs of names, and the names that a dot parts.
use Rattle.std.proofs.Common.{◌≡◌, ℕ, suc, Bool, true, false, ◌||◌, ◌&&◌, List, [], ◌∷◌, ◌++◌, Option, Some, None, refl, sym, ap, subst, ◌∙◌, cond, nat_eq}
use Rattle.std.specs.Prelude.{IsTrue, is_some, not}
use Rattle.std.specs.Option.{option_map}
use Rattle.std.specs.List.{list_all}
use Rattle.std.specs.Cmp.Lexicographic.{pointwise}
use Rattle.std.proofs.lemmas.Bool.Decides.{Decides-eqb}
use Rattle.rl_defs.specs.Interfaces.{place_of}
use Rattle.rl_defs.specs.Words.{is_name, is_word, is_word_byte, is_reserved}
use Rattle.bundle_names.specs.Tests.{is_given}
use Rattle.bundle_names.specs.GivenSoFar.{Pair, same_pair, AreBound}

-- no byte of the name is a dot
abbrev pub HasNoDot : List ℕ → Type 0
HasNoDot [] = Unit {0}
HasNoDot (c ∷ cs) = (nat_eq c 46 ≡ false) × HasNoDot cs

and_first : (a b : Bool) → IsTrue (a && b) → IsTrue a
and_first true b h = refl
and_first false b h = absurd cc

and_second : (a b : Bool) → IsTrue (a && b) → IsTrue b
and_second true b h = h
and_second false b h = absurd cc

dot : IsTrue (is_word_byte 46) → ⊥
dot h = absurd cc

byte_no_dot : (c : ℕ) → IsTrue (is_word_byte c) → nat_eq c 46 ≡ false
byte_no_dot c h = by (nat_eq c 46) refl where
  by : (b : Bool) → nat_eq c 46 ≡ b → nat_eq c 46 ≡ false
  by false e = e
  by true e = let is : c ≡ 46 = (Decides-eqb c 46).0 e in absurd (dot (subst (λ (d : ℕ). IsTrue (is_word_byte d)) is h))

bytes_no_dot : (cs : List ℕ) → IsTrue (list_all is_word_byte cs) → HasNoDot cs
bytes_no_dot [] h = tt
bytes_no_dot (c ∷ cs) h = (byte_no_dot c (and_first (is_word_byte c) (list_all is_word_byte cs) h), bytes_no_dot cs (and_second (is_word_byte c) (list_all is_word_byte cs) h))

pub name_no_dot : (name : List ℕ) → IsTrue (is_name name) → HasNoDot name
name_no_dot name h = bytes_no_dot name (and_second _ (list_all is_word_byte name) (and_first (is_word name) (not (is_reserved name)) h))

same : nat_eq 46 46 ≡ false → ⊥
same e = absurd cc

flip : (a : ℕ) → nat_eq a 46 ≡ false → nat_eq 46 a ≡ false
flip a e = by (nat_eq 46 a) refl where
  by : (b : Bool) → nat_eq 46 a ≡ b → nat_eq 46 a ≡ false
  by false f = f
  by true f = let is : 46 ≡ a = (Decides-eqb 46 a).0 f in absurd (same (subst (λ (d : ℕ). nat_eq d 46 ≡ false) (sym is) e))

-- two names with two others behind a dot are one where the pairs are
pub joined_same : (a b x y : List ℕ) → HasNoDot a → HasNoDot x → (pointwise nat_eq a x && pointwise nat_eq b y) ≡ pointwise nat_eq (a ++ 46 ∷ b) (x ++ 46 ∷ y)
joined_same [] b [] y p q = refl
joined_same [] b (c ∷ cs) y p q = rw (flip c q.0) refl
joined_same (c ∷ cs) b [] y p q = rw p.0 refl
joined_same (c ∷ cs) b (d ∷ ds) y p q = assoc (nat_eq c d) (pointwise nat_eq cs ds) (pointwise nat_eq b y) (pointwise nat_eq (cs ++ 46 ∷ b) (ds ++ 46 ∷ y)) (joined_same cs b ds y p.1 q.1) where
  assoc : (i j k l : Bool) → (j && k) ≡ l → ((i && j) && k) ≡ (i && l)
  assoc true j k l e = e
  assoc false j k l e = refl

-- a name among names and one more
pub given_push : (names : List (List ℕ)) (name q : List ℕ) → is_given (names ++ name ∷ []) q ≡ (is_given names q || pointwise nat_eq name q)
given_push [] name q = by (pointwise nat_eq name q) where
  by : (b : Bool) → is_some (cond b (Some 0) (option_map (λ k. suc k) None)) ≡ b
  by true = refl
  by false = refl
given_push (x ∷ xs) name q = by (pointwise nat_eq x q) (place_of q (xs ++ name ∷ [])) (place_of q xs) (pointwise nat_eq name q) (given_push xs name q) where
  mapped : (o : Option ℕ) → is_some (option_map (λ (k : ℕ). suc k) o) ≡ is_some o
  mapped None = refl
  mapped (Some k) = refl

  by : (b : Bool) (new old : Option ℕ) (c : Bool) → is_some new ≡ (is_some old || c) → is_some (cond b (Some 0) (option_map (λ k. suc k) new)) ≡ (is_some (cond b (Some 0) (option_map (λ k. suc k) old)) || c)
  by true new old c e = refl
  by false new old c e = mapped new ∙ e ∙ ap (λ (d : Bool). d || c) (sym (mapped old))

-- one more pair
pub bound_more : (old new : Pair → Bool) (binds : List (List ℕ)) (load import : List ℕ) → IsTrue (is_name load) → AreBound old binds → ((q : Pair) → new q ≡ cond (same_pair (load, import) q) true (old q)) → AreBound new (binds ++ (load ++ 46 ∷ import) ∷ [])
bound_more old new binds load import named h step = record {
  each = λ l i name. step (l, i) ∙ turn (same_pair (load, import) (l, i)) (old (l, i)) (is_given binds (l ++ 46 ∷ i)) (pointwise nat_eq (load ++ 46 ∷ import) (l ++ 46 ∷ i)) (h.each l i name) (joined_same load import l i (name_no_dot load named) (name_no_dot l name)) ∙ sym (given_push binds (load ++ 46 ∷ import) (l ++ 46 ∷ i));
} where
  turn : (a b c d : Bool) → b ≡ c → a ≡ d → cond a true b ≡ (c || d)
  turn true b true d e f = refl
  turn true b false d e f = f
  turn false b true d e f = e
  turn false b false d e f = e ∙ f

-- nothing is given again where there is nothing to give
pub one_repeat : (names : List (List ℕ)) (name : List ℕ) → (is_given names name || false) ≡ is_given names name
one_repeat names name = by (is_given names name) where
  by : (b : Bool) → (b || false) ≡ b
  by true = refl
  by false = refl
