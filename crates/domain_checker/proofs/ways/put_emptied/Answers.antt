use Rattle.std.proofs.Common.{◌∙◌, sym, refl}
use Rattle.domain_checker.proofs.Emptying.{puts_more, puts_same}
use Rattle.domain_checker.proofs.ways.put_emptied.Goals as goal
use Rattle.domain_checker.proofs.ways.put_emptied.Goals.{then-is_emptied+in_ok-push, else-is_emptied}

pub registers-preserved : goal.registers-preserved
registers-preserved c =
    elim c.if-is_emptied.branch [
      | then-is_emptied+in_ok-push w ↦ rw w.pool-is (puts_more c.args.kinds.now c.args.set c.registers.number c.args.pool.now.items c.registers.pool.items w.push.new.self.items _ c.registers.invariant refl (sym c.is_emptied.ensures ∙ w.if-is_emptied.true) w.in_ok-push.ensures.items)
      | else-is_emptied w ↦ rw w.pool-is (puts_same c.args.kinds.now c.args.set c.registers.number c.args.pool.now.items c.registers.pool.items c.registers.invariant (sym c.is_emptied.ensures ∙ w.if-is_emptied.false))
    ]
