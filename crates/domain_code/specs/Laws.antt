-- The domains of a domain part.
use Rattle.std.specs.Prelude.{◌≡◌, ℕ, ◌≤◌, List, length, All}
use Rattle.rl_defs.specs.declared.code.DomainText.{DomainText}
use Rattle.rl_defs.specs.Refusals.{Nowhere}
use Rattle.rl_defs.specs.DomainParts.{FailsDomains, AreDomains}
use Rattle.rl_defs.specs.DomainParts.{IsOneDomain, LinesRise}

-- texts have one list of domains at most
abbrev pub OneCut : Type 0
OneCut = (first : ℕ) (texts : List (List ℕ)) (a b : List DomainText) → AreDomains first texts a → AreDomains first texts b → a ≡ b

-- The lines are those of one domain, in an order in which they may stand; they are numbered upwards, and no more than so many.
pub record StandsAlone (most : ℕ) (d : DomainText) : Type 0 where
  pub ordered : IsOneDomain d.lines
  pub rises : LinesRise d.lines
  pub short : length d.lines ≤ most

-- so does each domain of texts that no rule refuses, with no more lines than there are texts
abbrev pub EachStandsAlone : Type 0
EachStandsAlone = (first : ℕ) (texts : List (List ℕ)) (domains : List DomainText) → Nowhere (FailsDomains first texts) → AreDomains first texts domains → All (StandsAlone (length texts)) domains
