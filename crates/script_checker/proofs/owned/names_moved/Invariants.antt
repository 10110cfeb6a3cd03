use Rattle.std.proofs.Common.{◌≡◌, ◌++◌, drop}
use Rattle.std.specs.List.{flat_map}
use Rattle.rl_defs.specs.ScriptRules.{moved_by}
use Rattle.script_checker.proofs.owned.names_moved.Given as goal

abbrev pub invariant-each : goal.invariant-each
invariant-each l = l.names ++ flat_map (moved_by l.bindings.bound) (drop l.arg-index l.args) ≡ flat_map (moved_by l.bindings.bound) l.args
