use Rattle.std.proofs.Common.{◌≡◌}
use Rattle.machine_defs.specs.Instructions.{settle}
use Rattle.rl_defs.specs.CodeRules.{KeepsRules}
use Rattle.code_machine.proofs.Going.{Ready}
use Rattle.code_machine.proofs.settle.settle_in.Given as goal

abbrev pub invariant-lines : goal.invariant-lines
invariant-lines g l = record {
  keeps : KeepsRules l.domain;
  ready : Ready l.domain (g.V.View.sight l.view) (record { at = l.place; regs = l.registers });
  same : settle l.domain (g.V.View.sight l.view) l.live l.fn.fuel (record { at = l.fn.line; regs = l.fn.registers }) ≡ settle l.domain (g.V.View.sight l.view) l.live l.left (record { at = l.place; regs = l.registers });
}

abbrev pub decreases-lines : goal.decreases-lines
decreases-lines g l = l.left
