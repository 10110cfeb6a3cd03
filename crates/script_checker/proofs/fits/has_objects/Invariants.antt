use Rattle.std.proofs.Common.{◌≡◌, drop}
use Rattle.std.specs.List.{list_any}
use Rattle.rl_defs.specs.ScriptRules.{is_own}
use Rattle.script_checker.proofs.fits.has_objects.Given as goal

abbrev pub invariant-each : goal.invariant-each
invariant-each l = list_any is_own (drop l.kind-index l.results) ≡ list_any is_own l.results
