use Rattle.std.proofs.Common.{◌≡◌, drop}
use Rattle.std.specs.List.{list_any, flat_map}
use Rattle.rl_defs.specs.NameRules.{name_passed}
use Rattle.rl_defs.specs.ScriptRules.{is_among}
use Rattle.script_checker.proofs.owned.args_are_gone.Given as goal

abbrev pub invariant-each : goal.invariant-each
invariant-each l = list_any (λ other. is_among other l.bindings.gone) (flat_map name_passed (drop l.arg-index l.args)) ≡ list_any (λ other. is_among other l.bindings.gone) (flat_map name_passed l.args)
