use Rattle.std.proofs.Common.{◌≡◌, ◌++◌, drop}
use Rattle.rl_defs.specs.IdlForms.{spell_more}
use Rattle.rl_defs.specs.DomainForms.{spell_head}
use Rattle.domain_code.proofs.write.put_more_heads.Given as goal

abbrev pub invariant-heads : goal.invariant-heads
invariant-heads l = l.initial.out ++ spell_more spell_head l.heads ≡ l.out ++ spell_more spell_head (drop l.head-index l.heads)
