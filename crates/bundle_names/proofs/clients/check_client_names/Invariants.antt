use Rattle.std.proofs.Common.{drop}
use Rattle.bundle_names.specs.ClientNames.{FailsClientNames, script_after, names_again}
use Rattle.bundle_names.proofs.Walking.{Left}
use Rattle.bundle_names.proofs.ClientLaws.{nothing_used}
use Rattle.bundle_names.proofs.clients.check_client_names.Given as goal

abbrev pub invariant-lines : goal.invariant-lines
invariant-lines l = Left (FailsClientNames l.bundle) script_after names_again (nothing_used l.bundle) l.scripts (drop l.line-index l.bundle.clients.lines)
