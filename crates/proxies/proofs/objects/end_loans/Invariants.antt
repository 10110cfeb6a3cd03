use Rattle.std.proofs.Common.{take}
use Rattle.proxies.proofs.Returning.{Returned}
use Rattle.proxies.proofs.objects.end_loans.Given as goal

abbrev pub invariant-lent : goal.invariant-lent
invariant-lent l = Returned l.initial.heap l.instances (take l.object-index l.lent) l.heap
