-- The numbers of the lines that texts stand for.
use Rattle.std.proofs.Common.{◌≡◌, ℕ, zero, suc, ◌+◌, ◌<◌, ◌≤◌, inl, inr, List, [], ◌∷◌, length, Some, sym, ap, subst, ◌∙◌, arith}
use Rattle.std.specs.Prelude.{slice_get}
use Rattle.rl_defs.specs.declared.bundle.Numbered.{Numbered}
use Rattle.rl_defs.specs.declared.idl.IdlLine.{IdlLine}
use Rattle.rl_defs.specs.Parts.{StandFor, numbered}
use Rattle.rl_defs.specs.IdlParts.{interface_part}
use Rattle.rl_defs.specs.Interfaces.{Rises}

abbrev Part : Type 0
Part = List (Numbered IdlLine)

from_head : (first : ℕ) (form : IdlLine) (more : Part) (k : ℕ) (x : Numbered IdlLine) → ((i : ℕ) (y : Numbered IdlLine) → slice_get more i ≡ Some y → first + 1 ≤ y.line) → slice_get (numbered first form ∷ more) k ≡ Some x → first ≤ x.line
from_head first form more zero x above e = let same : numbered first form ≡ x = cc in omega (arith, ap (λ (y : Numbered IdlLine). y.line) same)
from_head first form more (suc k) x above e = omega (arith, above k x e)

-- no line's number is below the first text's
from_first : (first : ℕ) (texts : List (List ℕ)) (lines : Part) (k : ℕ) (x : Numbered IdlLine) → StandFor interface_part first texts lines → slice_get lines k ≡ Some x → first ≤ x.line
from_first first [] lines k x h e = let none = sym (ap (λ (xs : Part). slice_get xs k) h) ∙ e in absurd cc
from_first first (t ∷ texts) lines k x (inl h) e = omega (arith, from_first (first + 1) texts lines k x h.1 e)
from_first first (t ∷ texts) lines k x (inr (form, more, is, f, h)) e = from_head first form more k x (λ i y g. from_first (first + 1) texts more i y h g) (subst (λ (xs : Part). slice_get xs k ≡ Some x) is e)

rises_behind : (first : ℕ) (form : IdlLine) (more : Part) → ((k : ℕ) (x : Numbered IdlLine) → slice_get more k ≡ Some x → first < x.line) → Rises more → Rises (numbered first form ∷ more)
rises_behind first form more above rises zero zero x y lt e g = absurd (omega (arith, lt))
rises_behind first form more above rises zero (suc k) x y lt e g = let same : numbered first form ≡ x = cc in omega (arith, above k y g, ap (λ (z : Numbered IdlLine). z.line) same)
rises_behind first form more above rises (suc j) zero x y lt e g = absurd (omega (arith, lt))
rises_behind first form more above rises (suc j) (suc k) x y lt e g = rises j k x y (omega (arith, lt)) e g

pub part_rises : (first : ℕ) (texts : List (List ℕ)) (lines : Part) → StandFor interface_part first texts lines → Rises lines
part_rises first [] lines h = subst Rises (sym h) (λ j k x y lt e g. absurd cc)
part_rises first (t ∷ texts) lines (inl h) = part_rises (first + 1) texts lines h.1
part_rises first (t ∷ texts) lines (inr (form, more, is, f, h)) =
    subst Rises (sym is) (rises_behind first form more (λ k x e. omega (arith, from_first (first + 1) texts more k x h e)) (part_rises (first + 1) texts more h))

pub part_is_short : (first : ℕ) (texts : List (List ℕ)) (lines : Part) → StandFor interface_part first texts lines → length lines ≤ length texts
part_is_short first [] lines h = omega (arith, ap (λ (xs : Part). length xs) h)
part_is_short first (t ∷ texts) lines (inl h) = omega (arith, part_is_short (first + 1) texts lines h.1)
part_is_short first (t ∷ texts) lines (inr (form, more, is, f, h)) = omega (arith, part_is_short (first + 1) texts more h, ap (λ (xs : Part). length xs) is)
