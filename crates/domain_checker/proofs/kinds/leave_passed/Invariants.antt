use Rattle.std.proofs.Common.{◌≡◌, drop}
use Rattle.rl_defs.specs.CodeKinds.{leave_all, passed}
use Rattle.domain_checker.proofs.kinds.leave_passed.Given as goal

abbrev pub invariant-each : goal.invariant-each
invariant-each l = leave_all (passed (drop l.arg-index l.args)) l.kinds ≡ leave_all (passed l.args) l.initial.kinds
