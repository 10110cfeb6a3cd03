use Rattle.std.proofs.Common.{◌≡◌, drop}
use Rattle.rl_defs.specs.ScriptRules.{are_distinct}
use Rattle.script_checker.proofs.owned.are_distinct.Given as goal

abbrev pub invariant-each : goal.invariant-each
invariant-each l = are_distinct (drop l.k l.names) ≡ are_distinct l.names
