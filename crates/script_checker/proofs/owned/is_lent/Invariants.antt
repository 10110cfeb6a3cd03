use Rattle.std.proofs.Common.{◌≡◌, drop}
use Rattle.std.specs.List.{flat_map}
use Rattle.rl_defs.specs.ScriptRules.{is_among, lent_by}
use Rattle.script_checker.proofs.owned.is_lent.Given as goal

abbrev pub invariant-each : goal.invariant-each
invariant-each l = is_among l.name (flat_map lent_by (drop l.arg-index l.args)) ≡ is_among l.name (flat_map lent_by l.args)
