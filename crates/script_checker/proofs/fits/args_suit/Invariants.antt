use Rattle.std.proofs.Common.{◌≡◌, drop}
use Rattle.rl_defs.specs.ScriptRules.{args_suit}
use Rattle.script_checker.proofs.fits.args_suit.Given as goal

abbrev pub invariant-each : goal.invariant-each
invariant-each l = args_suit l.scope.tables l.scope.bundle l.bindings.bound (drop l.k l.params) (drop l.k l.args) ≡ args_suit l.scope.tables l.scope.bundle l.bindings.bound l.params l.args
