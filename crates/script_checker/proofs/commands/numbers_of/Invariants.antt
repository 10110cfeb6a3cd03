use Rattle.std.proofs.Common.{◌≡◌, ◌++◌, drop, map}
use Rattle.rl_defs.specs.LoadOf.{name_number}
use Rattle.script_checker.proofs.commands.numbers_of.Given as goal

abbrev pub invariant-each : goal.invariant-each
invariant-each l = l.all ++ map (name_number l.bindings.names) (drop l.name-index l.names) ≡ map (name_number l.bindings.names) l.names
