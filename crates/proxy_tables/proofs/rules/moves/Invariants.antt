use Rattle.std.proofs.Common.{take}
use Rattle.rl_defs.specs.Interfaces.{param_types}
use Rattle.proxy_tables.specs.Rules.{Moves}
use Rattle.proxy_tables.proofs.rules.moves.Given as goal

abbrev pub invariant-params : goal.invariant-params
invariant-params l = Moves l.part.lines.now (param_types (take l.param-index l.params)) l.found
