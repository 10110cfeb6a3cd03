use Rattle.std.proofs.Common.{◌≡◌, ◌++◌, drop}
use Rattle.script_checker.proofs.owned.leave_all.Given as goal

abbrev pub invariant-each : goal.invariant-each
invariant-each l = record {
  names_same : l.bindings.names ≡ l.initial.bindings.names;
  bound_same : l.bindings.bound ≡ l.initial.bindings.bound;
  more : l.bindings.gone ++ drop l.name-index l.names ≡ l.initial.bindings.gone ++ l.names;
}
