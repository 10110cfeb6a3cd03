use Rattle.std.proofs.Common.{◌≡◌, drop}
use Rattle.std.specs.List.{list_any, flat_map}
use Rattle.rl_defs.specs.ScriptRules.{is_among, lent_by}
use Rattle.script_checker.proofs.owned.are_lent.Given as goal

abbrev pub invariant-each : goal.invariant-each
invariant-each l = list_any (λ name. is_among name (flat_map lent_by l.args)) (drop l.name-index l.names) ≡ list_any (λ name. is_among name (flat_map lent_by l.args)) l.names
