use Rattle.bundle_names.proofs.DomainScan.{DomainTo}
use Rattle.bundle_names.proofs.domains.check_domain.Given as goal

abbrev pub invariant-lines : goal.invariant-lines
invariant-lines l = DomainTo l.known l.fn.declared.domains l.lines l.line-index l.declared
