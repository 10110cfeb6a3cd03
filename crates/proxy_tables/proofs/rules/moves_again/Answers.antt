use Rattle.rl_defs.specs.Interfaces.{param_types}
use Rattle.proxy_tables.proofs.Moving.{moved_again}
use Rattle.proxy_tables.proofs.rules.moves_again.Goals as goal

pub returns-then-marked : goal.returns-then-marked
returns-then-marked c = moved_again c.args.part.now.lines.now (param_types c.args.params.now) c.args.marked c.moves.result c.if-marked.true c.moves.ensures
