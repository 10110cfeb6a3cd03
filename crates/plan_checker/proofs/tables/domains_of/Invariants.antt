use Rattle.plan_checker.proofs.Keeping.{DomainsTo}
use Rattle.plan_checker.proofs.tables.domains_of.Given as goal

abbrev pub invariant-domains : goal.invariant-domains
invariant-domains l = DomainsTo l.fn.loaded l.domains l.number l.all.names l.all.numbers l.all.facts
