-- What formatting a bundle answers.
use Rattle.std.specs.Prelude.{ℕ, ◌<◌, ◌≤◌, ◌⊎◌, ◌↔◌, List, length, Option, Some, None}
use Rattle.rl_defs.specs.declared.bundle.Bundle.{Bundle}
use Rattle.rl_defs.specs.declared.load.LoadRows.{LoadRows}
use Rattle.rl_defs.specs.Lines.{lines_of}
use Rattle.rl_defs.specs.Refusals.{Nowhere, IsFirst}
use Rattle.rl_defs.specs.BundleParts.{FailsForms, IsBundle}
use Rattle.rl_defs.specs.Acceptance.{First, Accepted}
use Rattle.bundle_format.specs.Canonical.{canonical_text}
use Rattle.bundle_format.specs.Woven.{AreWoven}
use Rattle.bundle_format.specs.declared.format.FormatFault.{FormatFault}
use Rattle.bundle_format.specs.declared.format.FormatFault.TheVariants.{Refused, TooWide, Memory}

-- a text stands for this bundle, and neither rule 1 nor rule 2 refuses it
pub record Stands (bytes : List ℕ) (b : Bundle) : Type 0 where
  pub bundle : IsBundle (lines_of bytes) b
  pub keeps : Nowhere (FailsForms (lines_of bytes))

-- The text is the bundle, line by line in its canonical spelling, with its comments.
abbrev pub IsSpelled : List ℕ → Bundle → List ℕ → Type 0
IsSpelled bytes b text = AreWoven (lines_of (canonical_text b)) (lines_of bytes) text

-- what spelling it gives: this text, or none where the canonical text of the parts is longer than a bundle may be
abbrev pub Spells : List ℕ → Bundle → Option (List ℕ) → Type 0
Spells bytes b None = 1048576 < length (canonical_text b)
Spells bytes b (Some text) = IsSpelled bytes b text

-- Two texts fare the same: each refusal of one is a refusal of the other, at the same line by the same rule, and each is accepted where
-- the other is, with the same load.
pub record FareTheSame (bytes text : List ℕ) : Type 0 where
  pub refused : (line rule : ℕ) → First bytes line rule ↔ First text line rule
  pub accepted : (L : LoadRows) → Accepted bytes L ↔ Accepted text L

-- A bundle was formatted: neither rule 1 nor rule 2 refuses it, and the text is what it spells, no longer than a bundle may be.
pub record IsFormatted (bytes text : List ℕ) : Type 0 where
  pub bundle : Bundle
  pub stands : Stands bytes bundle
  pub spelled : IsSpelled bytes bundle text
  pub few : length text ≤ 1048576
  pub same : FareTheSame bytes text

-- As it would be written, the bundle isn't what it was: it is longer than a bundle may be, or it doesn't stand for the same lines.
pub record IsTooWide (bytes : List ℕ) : Type 0 where
  pub bundle : Bundle
  pub stands : Stands bytes bundle
  pub wide : (1048576 < length (canonical_text bundle)) ⊎ ((text : List ℕ) × IsSpelled bytes bundle text × ((1048576 < length text) ⊎ (Stands text bundle → ⊥)))

-- A bundle that rule 1 or 2 refuses is refused as it is when it is checked.
pub record IsRefusedAt (bytes : List ℕ) (line rule : ℕ) : Type 0 where
  pub forms : IsFirst (FailsForms (lines_of bytes)) line rule
  pub checked : First bytes line rule

-- why a bundle isn't formatted; want of memory is free
abbrev pub HasCause : List ℕ → FormatFault → Type 0
HasCause bytes (Refused at) = IsRefusedAt bytes at.line at.rule
HasCause bytes TooWide = IsTooWide bytes
HasCause bytes Memory = Unit {0}
