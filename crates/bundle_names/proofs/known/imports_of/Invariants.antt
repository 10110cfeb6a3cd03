use Rattle.std.proofs.Common.{◌≡◌, ◌++◌}
use Rattle.rl_defs.specs.BundleNames.{given_by, names_of, import_given}
use Rattle.bundle_names.proofs.Listing.{names_from}
use Rattle.bundle_names.proofs.known.imports_of.Given as goal

abbrev pub invariant-lines : goal.invariant-lines
invariant-lines l = l.names ++ names_from import_given l.lines l.line-index ≡ names_of (given_by import_given l.lines)
