use Rattle.plan_checker.specs.Limits.{NoneBeforeDomain}
use Rattle.plan_checker.proofs.limits.check_domains.Given as goal

abbrev pub invariant-domains : goal.invariant-domains
invariant-domains l = NoneBeforeDomain l.domains l.domain-index
