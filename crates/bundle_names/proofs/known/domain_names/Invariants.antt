use Rattle.std.proofs.Common.{◌≡◌, ◌++◌}
use Rattle.std.specs.List.{flat_map}
use Rattle.rl_defs.specs.BundleNames.{given_by, names_of, domain_given}
use Rattle.bundle_names.proofs.Listing.{domains_from}
use Rattle.bundle_names.proofs.known.domain_names.Given as goal

abbrev pub invariant-domains : goal.invariant-domains
invariant-domains l = l.names ++ domains_from l.domains l.domain-index ≡ names_of (given_by domain_given (flat_map (λ d. d.lines) l.domains))
