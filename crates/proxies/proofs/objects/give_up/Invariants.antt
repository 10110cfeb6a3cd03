use Rattle.std.proofs.Common.{take}
use Rattle.machine_defs.specs.Arguments.{moved_of}
use Rattle.proxies.proofs.GivingUp.{GivenUp}
use Rattle.proxies.proofs.objects.give_up.Given as goal

abbrev pub invariant-args-2 : goal.invariant-args-2
invariant-args-2 l = GivenUp l.initial.heap (moved_of (take l.arg-index l.args)) l.heap
