-- Reading a domain part line by line.
use Rattle.std.specs.Prelude.{◌≡◌, ℕ, ◌⊎◌, Bool, false, ◌&&◌, ◌==◌, not, nat_eq, nat_lt, min, codes, List, [], ◌∷◌, ◌++◌, length, drop, Some, Result, Ok, Err}
use Rattle.std.specs.List.{starts_with}
use Rattle.rl_defs.specs.declared.LoadFault.{LoadFault}
use Rattle.rl_defs.specs.declared.LoadFault.TheVariants.{Refused, Memory}
use Rattle.rl_defs.specs.declared.bundle.Numbered.{Numbered}
use Rattle.rl_defs.specs.declared.code.DomainLine.{DomainLine}
use Rattle.rl_defs.specs.declared.code.DomainText.{DomainText}
use Rattle.rl_defs.specs.Domains.{Lines}
use Rattle.rl_defs.specs.Tokens.{IsSkipped}
use Rattle.rl_defs.specs.Parts.{numbered}
use Rattle.rl_defs.specs.DomainForms.{IsDomainLine}
use Rattle.rl_defs.specs.DomainParts as parts
use Rattle.rl_defs.specs.DomainParts.{next_block, domain_part, rest_of_domain, domains_of}
use Rattle.rl_text.specs.declared.line.Line.{Line}
use Rattle.rl_text.specs.Forms.{IsRefused}
use Rattle.rl_text.specs.PartSteps.{Barred}
use Rattle.domain_code.specs.declared.part.Block.{Block}
use Rattle.domain_code.specs.declared.part.Block.TheVariants.{Outside, Declares, BehindFunction, InFunction, BehindEnd}

abbrev pub block_of : Block → parts.DomainBlock
block_of Outside = parts.Outside
block_of (Declares words slots native) = parts.Declares words slots native
block_of BehindFunction = parts.BehindFunction
block_of InFunction = parts.InFunction
block_of BehindEnd = parts.BehindEnd

-- the first byte is above the blank, and no `domain` comes first
abbrev pub stands_inside : List ℕ → Bool
stands_inside [] = false
stands_inside (first ∷ more) = nat_lt 32 first && not ((first == 100) && starts_with nat_eq (first ∷ more) (codes "domain"))

-- a line with such bytes begins no domain
abbrev pub goes_on : List ℕ → Line → Bool
goes_on bytes line = stands_inside (drop (min line.start (length bytes)) bytes)

-- domains, and those of the lines behind them: the first of these lines, up to the next that begins a domain, belong to the last
abbrev pub joined : List DomainText → Lines → List DomainText
joined [] rest = domains_of rest
joined (d ∷ []) rest = record { lines = d.lines ++ rest_of_domain rest } ∷ domains_of rest
joined (d ∷ e ∷ more) rest = d ∷ joined (e ∷ more) rest

-- one line more was put behind the domains so far
abbrev pub Joins : List DomainText → Numbered DomainLine → List DomainText → Type 0
Joins old line new = (rest : Lines) → joined new rest ≡ joined old (line ∷ rest)

-- a line without tokens changes nothing
pub record Skips (text : List ℕ) (block next : Block) (old new : List DomainText) : Type 0 where
  pub skipped : IsSkipped text
  pub same_block : next ≡ block
  pub same_domains : new ≡ old

-- a line with tokens that may stand there
pub record Stands (number : ℕ) (text : List ℕ) (block next : Block) (old new : List DomainText) : Type 0 where
  pub form : DomainLine
  pub is : IsDomainLine form text
  pub allowed : next_block (block_of block) form ≡ Some (block_of next)
  pub put : Joins old (numbered number form) new

-- what became of a line behind the lines so far
abbrev pub TakesLine : ℕ → List ℕ → Block → List DomainText → List DomainText → Result Block LoadFault → Type 0
TakesLine number text block old new (Ok next) = Skips text block next old new ⊎ Stands number text block next old new
TakesLine number text block old new (Err (Refused at)) = (at.line ≡ number) × (((at.rule ≡ 1) × IsRefused IsDomainLine text) ⊎ ((at.rule ≡ 2) × Barred domain_part text (block_of block)))
TakesLine number text block old new (Err Memory) = Unit {0}
