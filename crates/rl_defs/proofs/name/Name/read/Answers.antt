use Rattle.std.proofs.Common.{sym, ◌∙◌}
use Rattle.rl_defs.specs.Words.{is_word, is_reserved}
use Rattle.rl_defs.proofs.Names.{taken}
use Rattle.rl_defs.proofs.name.Name.read.Goals as goal

pub returns-then-is_reserved-clause-exact : goal.returns-then-is_reserved-clause-exact
returns-then-is_reserved-clause-exact c = taken (is_word c.args.bytes.now) (is_reserved c.args.bytes.now) (sym c.is_reserved.ensures ∙ c.if-is_reserved.true)
