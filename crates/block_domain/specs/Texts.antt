-- What the driver's texts are read as, from whatever line of a bundle on.
use Rattle.std.specs.Prelude.{◌≡◌, ℕ, List, [], ◌∷◌}
use Rattle.rl_defs.specs.declared.bundle.Numbered.{Numbered}
use Rattle.rl_defs.specs.declared.code.DomainText.{DomainText}
use Rattle.rl_defs.specs.declared.idl.IdlLine.{IdlLine}
use Rattle.rl_defs.specs.DomainParts.{AreDomains, FailsDomains}
use Rattle.rl_defs.specs.IdlParts.{FailsIdl, interface_part}
use Rattle.rl_defs.specs.Lines.{lines_of}
use Rattle.rl_defs.specs.Parts.{StandFor, forms_of}
use Rattle.rl_defs.specs.Refusals.{Nowhere}
use Rattle.block_domain.specs.Driver.{driver_forms, interface_forms}

-- a domain part that neither rule 1 nor rule 2 refuses, with one domain, whose lines are the
-- driver's
pub record IsDriverAt (first : ℕ) (text : List ℕ) : Type 0 where
  pub keeps : Nowhere (FailsDomains first (lines_of text))
  pub domain : DomainText
  pub forms : forms_of domain.lines ≡ driver_forms
  pub only : AreDomains first (lines_of text) (domain ∷ [])

abbrev pub IsDriver : List ℕ → Type 0
IsDriver text = (first : ℕ) → IsDriverAt first text

-- an interface part that neither rule 1 nor rule 2 refuses, whose lines are those of the driver's
-- interface
pub record IsInterfaceAt (first : ℕ) (text : List ℕ) : Type 0 where
  pub keeps : Nowhere (FailsIdl first (lines_of text))
  pub lines : List (Numbered IdlLine)
  pub forms : forms_of lines ≡ interface_forms
  pub stand : StandFor interface_part first (lines_of text) lines

abbrev pub IsInterface : List ℕ → Type 0
IsInterface text = (first : ℕ) → IsInterfaceAt first text
