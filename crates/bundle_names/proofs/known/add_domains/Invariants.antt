use Rattle.std.proofs.Common.{◌≡◌, ◌++◌}
use Rattle.rl_defs.specs.BundleNames.{given_by, names_of, domain_given}
use Rattle.bundle_names.proofs.Listing.{names_from}
use Rattle.bundle_names.proofs.known.add_domains.Given as goal

abbrev pub invariant-lines : goal.invariant-lines
invariant-lines l = l.names ++ names_from domain_given l.lines l.line-index ≡ l.fn.names ++ names_of (given_by domain_given l.lines)
