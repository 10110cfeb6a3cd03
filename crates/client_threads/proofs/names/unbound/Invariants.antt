use Rattle.std.proofs.Common.{◌≡◌, ◌++◌, drop, replicate, None, length}
use Rattle.std.specs.List.{flat_map}
use Rattle.rl_defs.specs.Rows.{bound_by}
use Rattle.client_threads.proofs.names.unbound.Given as goal

abbrev pub invariant-commands : goal.invariant-commands
invariant-commands l =
    l.names.items ++ replicate (length (flat_map bound_by (drop l.command-index l.commands))) None
    ≡ replicate (length (flat_map bound_by l.commands)) None
