use Rattle.std.proofs.Common.{arith}
use Rattle.rl_defs.specs.BundleForms.{spell_arg}
use Rattle.rl_text.proofs.MoreLaws.{more_all}
use Rattle.bundle_syntax.proofs.clients.write.put_more_args.Goals as goal

pub returns : goal.returns
returns c = more_all spell_arg c.args.args.now c.arguments.arg-index _ c.arguments.out (omega arith) c.arguments.invariant
