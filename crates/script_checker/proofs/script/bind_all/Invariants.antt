use Rattle.std.proofs.Common.{◌≡◌, ◌++◌, drop}
use Rattle.rl_defs.specs.ScriptRules.{paired}
use Rattle.script_checker.proofs.script.bind_all.Given as goal

abbrev pub invariant-each : goal.invariant-each
invariant-each l = record {
  names_more : l.bindings.names ++ drop l.k l.names ≡ l.initial.bindings.names ++ l.names;
  bound_more : l.bindings.bound ++ paired (drop l.k l.names) (drop l.k l.kinds) ≡ l.initial.bindings.bound ++ paired l.names l.kinds;
  gone_same : l.bindings.gone ≡ l.initial.bindings.gone;
}
