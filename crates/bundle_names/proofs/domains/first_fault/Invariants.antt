use Rattle.bundle_names.proofs.DomainsScan.{DomainsTo}
use Rattle.bundle_names.proofs.domains.first_fault.Given as goal

abbrev pub invariant-domains : goal.invariant-domains
invariant-domains l = DomainsTo l.known l.domains l.domain-index l.declared.domains
