use Rattle.std.proofs.Common.{◌≡◌, ◌++◌, false, drop, get_or}
use Rattle.bundle_names.specs.PlanNames.{imports_from}
use Rattle.bundle_names.proofs.known.imports_by_domain.Given as goal

abbrev pub invariant-domains : goal.invariant-domains
invariant-domains l = l.all ++ imports_from (λ number. get_or l.marks number false) l.number (drop l.number l.domains) ≡ imports_from (λ number. get_or l.marks number false) 0 l.domains
