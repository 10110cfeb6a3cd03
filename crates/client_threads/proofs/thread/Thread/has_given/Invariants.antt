use Rattle.std.proofs.Common.{◌≡◌, drop, is_some}
use Rattle.std.specs.List.{list_all, flat_map}
use Rattle.machine_defs.specs.Wants.{name_held, used_by_arg}
use Rattle.client_threads.proofs.thread.Thread.has_given.Given as goal

abbrev pub invariant-each : goal.invariant-each
invariant-each l =
    list_all (λ k. is_some (name_held l.self.names k)) (flat_map used_by_arg (drop l.arg-index l.args))
    ≡ list_all (λ k. is_some (name_held l.self.names k)) (flat_map used_by_arg l.args)
