-- What is known of a bundle whose lines were read: their order.
use Rattle.std.specs.Prelude.{◌≡◌, ℕ, ◌<◌, ◌≤◌, List, ◌++◌, map, length, Some, slice_get, All}
use Rattle.std.specs.List.{flat_map}
use Rattle.rl_defs.specs.declared.bundle.Numbered.{Numbered}
use Rattle.rl_defs.specs.declared.bundle.Bundle.{Bundle}
use Rattle.rl_defs.specs.declared.bundle.Plan.{Plan}
use Rattle.rl_defs.specs.declared.bundle.Clients.{Clients}
use Rattle.rl_defs.specs.declared.idl.Idl.{Idl}
use Rattle.rl_defs.specs.declared.code.DomainText.{DomainText}
use Rattle.rl_defs.specs.Parts.{block_behind, forms_of}
use Rattle.rl_defs.specs.IdlParts.{interface_part}
use Rattle.rl_defs.specs.DomainValue.{Domain}
use Rattle.rl_defs.specs.DomainParts.{IsOneDomain}
use Rattle.rl_defs.specs.BundleParts.{client_part}

-- the numbers of lines
abbrev pub numbers_of : {Form : Type 0} → List (Numbered Form) → List ℕ
numbers_of lines = map (λ l. l.line) lines

-- the numbers of a bundle's lines, part by part
abbrev pub line_numbers : Bundle → List ℕ
line_numbers b = numbers_of b.idl.lines ++ (flat_map (λ d. numbers_of d.lines) b.domains ++ (numbers_of b.plan.lines ++ numbers_of b.clients.lines))

abbrev pub Rise : List ℕ → Type 0
Rise numbers = (j k x y : ℕ) → j < k → slice_get numbers j ≡ Some x → slice_get numbers k ≡ Some y → x < y

abbrev pub IsDomainText : DomainText → Type 0
IsDomainText d = IsOneDomain d.lines

-- A bundle as it is read: its lines are numbered upwards through all parts, are no more than a bundle's bytes can be, and stand in each
-- part in an order in which they may stand.
pub record IsOrdered (b : Bundle) : Type 0 where
  pub few : length (line_numbers b) ≤ 1048576
  pub rises : Rise (line_numbers b)
  pub interfaces : block_behind interface_part (forms_of b.idl.lines) ≡ Some interface_part.outside
  pub domains : All IsDomainText b.domains
  pub clients : block_behind client_part (forms_of b.clients.lines) ≡ Some client_part.outside

-- the lines of a domain that was checked
abbrev pub text_of : Domain → DomainText
text_of d = record { lines = d.lines }

-- the bundle of these parts, of which the domains were checked
abbrev pub bundle_of : Idl → List Domain → Plan → Clients → Bundle
bundle_of idl domains plan clients = record { idl = idl; domains = map text_of domains; plan = plan; clients = clients }
