-- Lines by their places, and numbers from 1.
use Rattle.std.proofs.Common.{◌≡◌, ℕ, zero, suc, ◌+◌, ◌-◌, ◌≤◌, List, [], ◌∷◌, ◌++◌, append_assoc, map, take, length, Some, None, refl, ap, subst, arith}
use Rattle.std.specs.Prelude.{slice_get}
use Rattle.std.proofs.lemmas.List.{append-nil}
use Rattle.rl_text.specs.declared.line.Line.{Line}
use Rattle.rl_text.specs.Places.{text_of, IsWithin, AreNumbered}
use Rattle.rl_defs.specs.Lines.{lines_of}
use Rattle.refusal_notes.specs.Notes.{line_of}

pub within : (bytes : List ℕ) (n k : ℕ) (lines : List Line) (line : Line) → AreNumbered bytes n lines → slice_get lines k ≡ Some line → IsWithin bytes line
within bytes n k [] line h e = absurd cc
within bytes n zero (x ∷ lines) line h e = let same : x ≡ line = cc in subst (λ (l : Line). IsWithin bytes l) same h.1
within bytes n (suc k) (x ∷ lines) line h e = within bytes (n + 1) k lines line h.2 e

pub mapped : {A B : Type 0} (f : A → B) (xs : List A) (k : ℕ) (x : A) → slice_get xs k ≡ Some x → slice_get (map f xs) k ≡ Some (f x)
mapped f [] k x e = absurd cc
mapped f (y ∷ xs) zero x e = let same : y ≡ x = cc in ap (λ z. Some (f z)) same
mapped f (y ∷ xs) (suc k) x e = mapped f xs k x e

pub mapped_none : {A B : Type 0} (f : A → B) (xs : List A) (k : ℕ) → slice_get xs k ≡ None → slice_get (map f xs) k ≡ None
mapped_none f [] k e = refl
mapped_none f (y ∷ xs) zero e = absurd cc
mapped_none f (y ∷ xs) (suc k) e = mapped_none f xs k e

pub take_whole : {A : Type 0} (xs : List A) (n : ℕ) → length xs ≤ n → xs ≡ take n xs
take_whole [] zero le = refl
take_whole [] (suc n) le = refl
take_whole (x ∷ xs) zero le = absurd (omega (arith, le))
take_whole (x ∷ xs) (suc n) le = ap (λ ys. x ∷ ys) (take_whole xs n (omega (arith, le)))

-- the line at a place, as it is shown
pub line_there : (bytes : List ℕ) (lines : List Line) (k : ℕ) (line : Line) → map (text_of bytes) lines ≡ lines_of bytes → slice_get lines k ≡ Some line → slice_get (lines_of bytes) k ≡ Some (text_of bytes line)
line_there bytes lines k line same e = subst (λ (ts : List (List ℕ)). slice_get ts k ≡ Some (text_of bytes line)) same (mapped (text_of bytes) lines k line e)

pub no_line_there : (bytes : List ℕ) (lines : List Line) (k : ℕ) → map (text_of bytes) lines ≡ lines_of bytes → slice_get lines k ≡ None → slice_get (lines_of bytes) k ≡ None
no_line_there bytes lines k same e = subst (λ (ts : List (List ℕ)). slice_get ts k ≡ None) same (mapped_none (text_of bytes) lines k e)

pub beyond : {A : Type 0} (xs : List A) (k : ℕ) → length xs ≤ k → slice_get xs k ≡ None
beyond [] k le = refl
beyond (x ∷ xs) zero le = absurd (omega (arith, le))
beyond (x ∷ xs) (suc k) le = beyond xs k (omega (arith, le))

-- the line of a number, from 1
pub line_of_number : (bytes : List ℕ) (n : ℕ) → 1 ≤ n → line_of (Some bytes) n ≡ slice_get (lines_of bytes) (n - 1)
line_of_number bytes zero le = absurd (omega (arith, le))
line_of_number bytes (suc n) le =
    let e : n ≡ suc n - 1 = omega arith in
    ap (λ (k : ℕ). slice_get (lines_of bytes) k) e

-- parts, put one behind the other
pub three_parts : (start a b d o1 o2 : List ℕ) → o1 ≡ start ++ a → o2 ≡ o1 ++ b → o2 ++ d ≡ start ++ (a ++ (b ++ d))
three_parts start a b d o1 o2 p1 p2 = rw (p2, p1) (simp append_assoc)

pub two_parts : (start a b o1 o2 : List ℕ) → start ≡ [] → o1 ≡ start ++ a → o2 ≡ o1 ++ b → o2 ≡ a ++ (b ++ [])
two_parts start a b o1 o2 s p1 p2 = rw (p2, p1, s, append-nil b) refl

pub four_parts : (start a b c d o1 o2 o3 o4 : List ℕ) → start ≡ [] → o1 ≡ start ++ a → o2 ≡ o1 ++ b → o3 ≡ o2 ++ c → o4 ≡ o3 ++ d → o4 ≡ a ++ (b ++ (c ++ d))
four_parts start a b c d o1 o2 o3 o4 s p1 p2 p3 p4 = rw (p4, p3, p2, p1, s) (simp append_assoc)
