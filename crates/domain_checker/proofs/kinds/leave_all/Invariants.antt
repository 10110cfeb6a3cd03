use Rattle.std.proofs.Common.{◌≡◌, drop}
use Rattle.rl_defs.specs.CodeKinds.{leave_all}
use Rattle.domain_checker.proofs.kinds.leave_all.Given as goal

abbrev pub invariant-registers : goal.invariant-registers
invariant-registers l = leave_all (drop l.register-index l.registers) l.kinds ≡ leave_all l.registers l.initial.kinds
