-- What is written is read again.
use Rattle.std.specs.Prelude.{◌≡◌, ℕ, ◌≤◌, true, false, Some, List, [], ◌∷◌, length}
use Rattle.rl_defs.specs.declared.code.DomainLine.{DomainLine}
use Rattle.rl_defs.specs.Domains.{Lines}
use Rattle.rl_defs.specs.Lines.{lines_of}
use Rattle.rl_defs.specs.Refusals.{Nowhere}
use Rattle.rl_defs.specs.Parts.{StandFor, block_behind, forms_of}
use Rattle.rl_defs.specs.DomainForms.{spell_line}
use Rattle.rl_defs.specs.DomainParts.{Outside, domain_part, begins_domain, FailsDomains, AreDomains}
use Rattle.domain_code.specs.DomainCanonical.{depth_of, depth_behind}
use Rattle.rl_text.specs.Writable.{AreWritable, written_inside, renumbered}

-- a line as it is written behind so many open blocks, without its line feed
abbrev pub written : ℕ → DomainLine → List ℕ
written open_blocks form = written_inside (depth_of open_blocks form) (spell_line form)

-- each line's names are names, its numbers fit 64 bits, and it is no longer than a line may be
abbrev pub CanBeRead : ℕ → Lines → Type 0
CanBeRead open_blocks [] = Unit {0}
CanBeRead open_blocks (l ∷ ls) = (AreWritable (spell_line l.form) × (length (written open_blocks l.form) ≤ 2048)) × CanBeRead (depth_behind open_blocks l.form) ls

-- A text that was written for lines stands for the same lines, but for their numbers.
abbrev pub IsReadAgain : Lines → List ℕ → Type 0
IsReadAgain lines text = CanBeRead 0 lines → (first : ℕ) → StandFor domain_part first (lines_of text) (renumbered first lines)

-- none of these lines begins a domain
abbrev pub GoOn : Lines → Type 0
GoOn [] = Unit {0}
GoOn (l ∷ ls) = (begins_domain l.form ≡ false) × GoOn ls

-- the first line begins a domain, and no other does
abbrev pub BeginOnce : Lines → Type 0
BeginOnce [] = ⊥
BeginOnce (l ∷ ls) = (begins_domain l.form ≡ true) × GoOn ls

-- The lines are one domain, in an order in which they may stand.
pub record IsOneDomain (lines : Lines) : Type 0 where
  pub once : BeginOnce lines
  pub order : block_behind domain_part (forms_of lines) ≡ Some Outside

-- A text that was written for a domain is a domain part that no rule refuses, and has just this domain, but for its lines' numbers.
abbrev pub IsDomainAgain : Lines → List ℕ → Type 0
IsDomainAgain lines text =
    CanBeRead 0 lines → IsOneDomain lines → (first : ℕ) → Nowhere (FailsDomains first (lines_of text)) × AreDomains first (lines_of text) (record { lines = renumbered first lines } ∷ [])
