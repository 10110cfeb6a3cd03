use Rattle.std.proofs.Common.{◌≡◌, ◌++◌}
use Rattle.rl_defs.specs.BundleNames.{given_by, names_of, load_given}
use Rattle.bundle_names.proofs.Listing.{names_from}
use Rattle.bundle_names.proofs.known.load_names.Given as goal

abbrev pub invariant-lines : goal.invariant-lines
invariant-lines l = l.names ++ names_from load_given l.lines l.line-index ≡ names_of (given_by load_given l.lines)
