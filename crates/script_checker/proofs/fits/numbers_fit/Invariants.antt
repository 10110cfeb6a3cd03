use Rattle.std.proofs.Common.{◌≡◌, drop}
use Rattle.rl_defs.specs.ScriptRules.{numbers_fit}
use Rattle.script_checker.proofs.fits.numbers_fit.Given as goal

abbrev pub invariant-each : goal.invariant-each
invariant-each l = numbers_fit (drop l.k l.cells) (drop l.k l.numbers) ≡ numbers_fit l.cells l.numbers
