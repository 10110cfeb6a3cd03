-- Places of lists, and the lines at them.
use Rattle.std.proofs.Common.{◌≡◌, ℕ, zero, suc, ◌+◌, ◌<◌, List, [], ◌∷◌, ◌++◌, length, take, get_or, map, Some, refl, sym, ap, subst, ◌∙◌, arith, add-zero}
use Rattle.std.specs.Prelude.{slice_get}
use Rattle.std.proofs.lemmas.List.{take_more}
use Rattle.rl_text.specs.declared.line.Line.{Line}
use Rattle.rl_text.specs.Places.{text_of, AreNumbered, IsWithin, first_number}

pub read_at : {A : Type 0} (xs : List A) (i : ℕ) (x d : A) → i < length xs → x ≡ get_or xs i d → slice_get xs i ≡ Some x
read_at [] i x d lt e = absurd (omega arith)
read_at (y ∷ ys) zero x d lt e = ap (λ z. Some z) (sym e)
read_at (y ∷ ys) (suc i) x d lt e = read_at ys i x d (omega arith) e

pub read_within : {A : Type 0} (xs : List A) (i : ℕ) (x : A) → slice_get xs i ≡ Some x → i < length xs
read_within [] i x e = absurd cc
read_within (y ∷ ys) zero x e = omega arith
read_within (y ∷ ys) (suc i) x e = omega (arith, read_within ys i x e)

get_from : {A : Type 0} (xs : List A) (i : ℕ) (x : A) → slice_get xs i ≡ Some x → get_or xs i x ≡ x
get_from [] i x e = refl
get_from (y ∷ ys) zero x e = let q : y ≡ x = cc in q
get_from (y ∷ ys) (suc i) x e = get_from ys i x e

pub read_map : {A B : Type 0} (f : A → B) (xs : List A) (i : ℕ) (x : A) → slice_get xs i ≡ Some x → slice_get (map f xs) i ≡ Some (f x)
read_map f [] i x e = absurd cc
read_map {A} {B} f (y ∷ ys) zero x e = let q : y ≡ x = cc in ap (λ (z : A). Some (f z)) q
read_map f (y ∷ ys) (suc i) x e = read_map f ys i x e

pub one_more : {A : Type 0} (xs : List A) (i : ℕ) (x : A) → slice_get xs i ≡ Some x → take (i + 1) xs ≡ take i xs ++ x ∷ []
one_more {A} xs i x e = take_more xs i x (read_within xs i x e) ∙ ap (λ (z : A). take i xs ++ z ∷ []) (get_from xs i x e)

pub numbered_at : (bytes : List ℕ) (number : ℕ) (lines : List Line) (i : ℕ) (line : Line) → AreNumbered bytes number lines → slice_get lines i ≡ Some line → (line.number ≡ number + i) × IsWithin bytes line
numbered_at bytes number [] i line h e = absurd cc
numbered_at bytes number (l ∷ lines) zero line h e =
    let q : l ≡ line = cc in
    (subst (λ (x : Line). x.number ≡ number + zero) q (h.0 ∙ sym (add-zero number)), subst (λ (x : Line). IsWithin bytes x) q h.1)
numbered_at bytes number (l ∷ lines) (suc i) line h e = let p = numbered_at bytes (number + 1) lines i line h.2 e in (omega (arith, p.0), p.1)

-- the line at a place, as a loop over the lines reads it
abbrev pub line_at : List Line → ℕ → Line
line_at lines i = get_or lines i (record { number = 0; start = 0; «end» = 0 })

-- what is known of the line at a place
pub record IsLineAt (bytes : List ℕ) (first : ℕ) (lines : List Line) (i : ℕ) (line : Line) : Type 0 where
  pub number : line.number ≡ first + i
  pub within : IsWithin bytes line
  pub text : slice_get (map (text_of bytes) lines) i ≡ Some (text_of bytes line)

pub line_here : (bytes : List ℕ) (first : ℕ) (lines : List Line) (i : ℕ) → AreNumbered bytes first lines → i < length lines → IsLineAt bytes first lines i (line_at lines i)
line_here bytes first lines i h lt =
    let line : Line = line_at lines i in
    let here : slice_get lines i ≡ Some line = read_at lines i line (record { number = 0; start = 0; «end» = 0 }) lt refl in
    let n = numbered_at bytes first lines i line h here in
    record { number = n.0; within = n.1; text = read_map (text_of bytes) lines i line here }

-- the lines of a text from its first on
pub first_one : (bytes : List ℕ) (lines : List Line) → AreNumbered bytes 1 lines → first_number lines ≡ 1
first_one bytes [] h = refl
first_one bytes (line ∷ lines) h = h.0
