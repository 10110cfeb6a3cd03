use Rattle.std.proofs.Common.{◌≡◌, ◌++◌, drop, map, length}
use Rattle.machine_defs.specs.Wants.{arg_of}
use Rattle.client_threads.proofs.thread.Thread.args.Given as goal

abbrev pub invariant-each : goal.invariant-each
invariant-each l = record {
  held : l.all ++ map (arg_of l.self.names) (drop l.arg-index l.args) ≡ map (arg_of l.self.names) l.args;
  count : length l.all ≡ l.arg-index;
}
