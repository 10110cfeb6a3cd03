-- The canonical text of a bundle's parts.
use Rattle.std.specs.Prelude.{ℕ, List, ◌++◌}
use Rattle.std.specs.List.{flat_map}
use Rattle.rl_defs.specs.declared.bundle.Bundle.{Bundle}
use Rattle.rl_defs.specs.declared.code.DomainText.{DomainText}
use Rattle.idl_syntax.specs.IdlCanonical.{write_part}
use Rattle.domain_code.specs.DomainCanonical.{write_domain}
use Rattle.bundle_syntax.specs.PlanCanonical.{write_plan}
use Rattle.bundle_syntax.specs.ClientCanonical.{write_clients}

abbrev pub canonical_domains : List DomainText → List ℕ
canonical_domains domains = flat_map (λ d. write_domain d.lines) domains

-- interfaces, domains, plan and clients, one behind the other and without their headers
abbrev pub canonical_text : Bundle → List ℕ
canonical_text b = write_part b.idl.lines ++ (canonical_domains b.domains ++ (write_plan b.plan.lines ++ write_clients b.clients.lines))
