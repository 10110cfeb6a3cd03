use Rattle.std.proofs.Common.{◌≡◌, ◌≤◌, take, length}
use Rattle.machine_defs.specs.Arguments.{lent_of}
use Rattle.machine_steps.proofs.frames.lent_objects.Given as goal

abbrev pub invariant-args-2 : goal.invariant-args-2
invariant-args-2 l = record {
  so_far : l.lent ≡ lent_of (take l.arg-index l.args);
  few : length l.lent ≤ l.arg-index;
}
