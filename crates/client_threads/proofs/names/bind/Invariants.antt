use Rattle.std.proofs.Common.{◌≡◌, drop, length}
use Rattle.machine_defs.specs.Frames.{bind}
use Rattle.client_threads.proofs.names.bind.Given as goal

abbrev pub invariant-results : goal.invariant-results
invariant-results l = bind (drop (length l.yielded) l.names) (drop (length l.yielded) l.results) l.held ≡ bind l.names l.results l.initial.held
