use Rattle.std.proofs.Common.{◌≡◌, drop}
use Rattle.client_threads.specs.GivenUp.{given_up_names}
use Rattle.client_threads.proofs.names.give_up.Given as goal

abbrev pub invariant-each : goal.invariant-each
invariant-each l = given_up_names (drop l.arg-index l.args) l.held ≡ given_up_names l.args l.initial.held
