-- How far the lines of a bundle are read, and where its next header stands.
use Rattle.std.specs.Prelude.{◌≡◌, ℕ, suc, ◌+◌, ◌<◌, ◌≤◌, ◌⊎◌, Bool, false, ◌==◌, List, [], ◌∷◌, Option, Some, None, Result, Ok, Err, length, slice_range}
use Rattle.rl_defs.specs.declared.LoadFault.{LoadFault}
use Rattle.rl_defs.specs.declared.LoadFault.TheVariants.{Refused, Memory}
use Rattle.rl_defs.specs.Refusals.{IsFirst}
use Rattle.rl_defs.specs.BundleParts as parts
use Rattle.rl_defs.specs.BundleParts.{HeaderAt, header_place, IsPart, FailsInPart, IsBrokenBefore, StandsBefore, IsOutOfOrder, FailsForms}
use Rattle.rl_text.specs.declared.line.Line.{Line}
use Rattle.bundle_parts.specs.declared.header.Header.{Header}
use Rattle.bundle_parts.specs.declared.cut.At.{At}
use Rattle.bundle_parts.specs.Headers.{header_of}

-- none of the lines between these two numbers, without the first and with the last, is a header
abbrev pub NoHeader : List (List ℕ) → ℕ → ℕ → Type 0
NoHeader texts from upto = (number : ℕ) (h : parts.Header) → from < number → number ≤ upto → HeaderAt texts number h → ⊥

-- behind so many lines stands this header, or the end
abbrev pub StandsAt : List (List ℕ) → ℕ → Option Header → Type 0
StandsAt texts place None = place ≡ length texts
StandsAt texts place (Some h) = HeaderAt texts (suc place) (header_of h)

-- the first header behind so many lines, or the end
pub record IsNext (texts : List (List ℕ)) (from : ℕ) (at : At) : Type 0 where
  pub behind : from ≤ at.place
  pub stands : StandsAt texts at.place at.header
  pub none : NoHeader texts from at.place

-- So many lines are read, up to a header or the end; no rule fails at them, and the headers among them are of the first so many parts.
pub record IsRead (texts : List (List ℕ)) (done place : ℕ) : Type 0 where
  pub order : (number : ℕ) → IsOutOfOrder texts number → place < number
  pub fine : (number rule : ℕ) (f : FailsInPart texts number rule) → place < f.part.header
  pub front : (number : ℕ) → IsBrokenBefore texts number ⊎ StandsBefore texts number → ⊥
  pub early : (number : ℕ) (h : parts.Header) → number ≤ place → HeaderAt texts number h → header_place h < done
  pub next : (h : parts.Header) → HeaderAt texts (suc place) h → (done ≤ header_place h) ⊎ IsOutOfOrder texts (suc place)

-- what reading some lines of a bundle answers: what is so of them, or the first failing pair of the whole bundle
abbrev pub Reaches : {X : Type 0} → List (List ℕ) → (X → Type 0) → Result X LoadFault → Type 0
Reaches texts Is (Ok x) = Is x
Reaches texts Is (Err (Refused at)) = IsFirst (FailsForms texts) at.line at.rule
Reaches texts Is (Err Memory) = Unit {0}

-- so many lines are read, up to this header or the end
pub record IsReached (texts : List (List ℕ)) (done : ℕ) (at : At) : Type 0 where
  pub stands : StandsAt texts at.place at.header
  pub read : IsRead texts done at.place

-- a header is one of this part
abbrev pub is_of : Option Header → Header → Bool
is_of None h = false
is_of (Some g) h = header_place (header_of g) == header_place (header_of h)

-- A header behind so many lines, and the lines behind it up to the next header or the end.
pub record IsSpan (texts : List (List ℕ)) (h : parts.Header) (place next : ℕ) : Type 0 where
  pub header : HeaderAt texts (suc place) h
  pub behind : suc place ≤ next
  pub none : NoHeader texts (suc place) next
  pub stops : (next ≡ length texts) ⊎ ((g : parts.Header) × HeaderAt texts (suc next) g)

-- the part stands at this place, and these are its lines up to the next place
pub record IsThere (lines : List Line) (texts : List (List ℕ)) (h : Header) (old new : At) (part : List Line) : Type 0 where
  pub span : IsSpan texts (header_of h) old.place new.place
  pub lines_of : part ≡ slice_range lines (suc old.place) new.place

-- the part doesn't stand at this place
pub record IsAbsent (texts : List (List ℕ)) (h : Header) (old new : At) (part : List Line) : Type 0 where
  pub other : HeaderAt texts (suc old.place) (header_of h) → ⊥
  pub no_lines : part ≡ []
  pub same : new ≡ old

-- what cutting a part off leaves
pub record Cuts (lines : List Line) (texts : List (List ℕ)) (h : Header) (old new : At) (part : List Line) : Type 0 where
  pub stands : StandsAt texts new.place new.header
  pub found : IsThere lines texts h old new part ⊎ IsAbsent texts h old new part

-- numbers that rise, from this one on and below that one
abbrev pub Ascends : ℕ → List ℕ → ℕ → Type 0
Ascends from [] upto = from ≤ upto
Ascends from (number ∷ more) upto = (from ≤ number) × Ascends (number + 1) more upto

-- no line up to this number is this header
abbrev pub NoneUpTo : List (List ℕ) → parts.Header → ℕ → Type 0
NoneUpTo texts h upto = (number : ℕ) → number ≤ upto → HeaderAt texts number h → ⊥

-- The place of a part is passed: its lines are read, or it is missing so far. The numbers are those of what was read.
pub record Passes (texts : List (List ℕ)) (h : parts.Header) (old new : ℕ) (stands : ℕ → List (List ℕ) → Type 0) (none : Type 0) (numbers : List ℕ) : Type 0 where
  pub read : IsRead texts (suc (header_place h)) new
  pub forward : old ≤ new
  pub others : (number : ℕ) (g : parts.Header) → old < number → number ≤ new → HeaderAt texts number g → g ≡ h
  pub has : (NoneUpTo texts h new × none) ⊎ ((first : ℕ) × (inside : List (List ℕ)) × IsPart texts h first inside × stands first inside)
  pub rises : Ascends (suc old) numbers (suc new)
