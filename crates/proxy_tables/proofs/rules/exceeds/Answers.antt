use Rattle.std.proofs.Common.{sym, ◌∙◌}
use Rattle.rl_defs.specs.Interfaces.{param_types}
use Rattle.proxy_tables.proofs.Moving.{exceeding}
use Rattle.proxy_tables.proofs.rules.exceeds.Goals as goal

pub returns : goal.returns
returns c = exceeding c.args.part.now.lines.now (param_types c.args.params.now) c.args.results.now c.in_ok-flat_params.flat_params c.in_ok-flat_results.flat_results c.is_many-2.result c.in_ok-flat_params.ensures c.in_ok-flat_results.ensures (sym c.is_many.ensures ∙ c.if-is_many.false) c.is_many-2.ensures
