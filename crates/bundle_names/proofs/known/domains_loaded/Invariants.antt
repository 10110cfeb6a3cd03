use Rattle.std.proofs.Common.{◌≡◌, ◌++◌}
use Rattle.rl_defs.specs.BundleNames.{given_by, names_of, domains_loaded}
use Rattle.bundle_names.proofs.Listing.{names_from}
use Rattle.bundle_names.proofs.known.domains_loaded.Given as goal

abbrev pub invariant-lines : goal.invariant-lines
invariant-lines l = l.names ++ names_from domains_loaded l.lines l.line-index ≡ names_of (given_by domains_loaded l.lines)
