use Rattle.std.proofs.Common.{◌≡◌, ◌++◌, drop, map}
use Rattle.rl_defs.specs.LoadOf.{arg_of}
use Rattle.script_checker.proofs.commands.args_of.Given as goal

abbrev pub invariant-each : goal.invariant-each
invariant-each l = l.all ++ map (arg_of l.scope.bundle l.bindings.names) (drop l.arg-index l.args) ≡ map (arg_of l.scope.bundle l.bindings.names) l.args
