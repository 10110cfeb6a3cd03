use Rattle.std.proofs.Common.{◌≡◌, ◌++◌, drop, map}
use Rattle.machine_defs.specs.State.{first_thread}
use Rattle.client_threads.proofs.threads.Threads.new.Given as goal

abbrev pub invariant-clients : goal.invariant-clients
invariant-clients l = l.rows.items ++ map first_thread (drop l.client-index l.load.clients) ≡ map first_thread l.load.clients
