use Rattle.std.proofs.Common.{◌≡◌, ◌++◌, replicate, None}
use Rattle.client_threads.proofs.names.add_unbound.Given as goal

abbrev pub invariant-names : goal.invariant-names
invariant-names l = l.names.items ≡ l.initial.names.items ++ replicate (l.counter) None
