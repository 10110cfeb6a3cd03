use Rattle.plan_checker.proofs.Steps.{ImportsTo}
use Rattle.plan_checker.proofs.facts.imports_of.Given as goal

abbrev pub invariant-lines : goal.invariant-lines
invariant-lines l = ImportsTo l.lines l.line-index l.imports.places l.imports.names l.imports.traits
