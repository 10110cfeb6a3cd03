use Rattle.std.proofs.Common.{arith}
use Rattle.rl_defs.specs.DomainForms.{spell_head}
use Rattle.rl_text.proofs.MoreLaws.{more_all}
use Rattle.domain_code.proofs.write.put_more_heads.Goals as goal

pub returns : goal.returns
returns c = more_all spell_head c.args.heads.now c.heads.head-index _ c.heads.out (omega arith) c.heads.invariant
