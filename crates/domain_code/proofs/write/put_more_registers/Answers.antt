use Rattle.std.proofs.Common.{arith}
use Rattle.rl_defs.specs.DomainForms.{spell_one}
use Rattle.rl_text.proofs.MoreLaws.{more_all}
use Rattle.domain_code.proofs.write.put_more_registers.Goals as goal

pub returns : goal.returns
returns c = more_all spell_one c.args.registers.now c.registers.register-index _ c.registers.out (omega arith) c.registers.invariant
