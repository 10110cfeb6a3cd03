use Rattle.std.proofs.Common.{◌≡◌, drop}
use Rattle.rl_defs.specs.ScriptRules.{is_among}
use Rattle.script_checker.proofs.owned.is_among_from.Given as goal

abbrev pub invariant-each : goal.invariant-each
invariant-each l = is_among l.name (drop l.k l.names) ≡ is_among l.name (drop l.from l.names)
