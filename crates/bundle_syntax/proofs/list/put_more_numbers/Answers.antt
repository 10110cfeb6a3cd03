use Rattle.std.proofs.Common.{arith}
use Rattle.rl_defs.specs.BundleForms.{spell_number}
use Rattle.rl_text.proofs.MoreLaws.{more_all}
use Rattle.bundle_syntax.proofs.list.put_more_numbers.Goals as goal

pub returns : goal.returns
returns c = more_all spell_number c.args.numbers.now c.numbers.number-index _ c.numbers.out (omega arith) c.numbers.invariant
