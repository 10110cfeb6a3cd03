use Rattle.std.proofs.Common.{arith}
use Rattle.rl_defs.specs.BundleForms.{spell_name}
use Rattle.rl_text.proofs.MoreLaws.{more_all}
use Rattle.bundle_syntax.proofs.list.put_more_names.Goals as goal

pub returns : goal.returns
returns c = more_all spell_name c.args.names.now c.names.name-index _ c.names.out (omega arith) c.names.invariant
