use Rattle.std.proofs.Common.{take}
use Rattle.proxies.proofs.Handing.{Handed}
use Rattle.proxies.proofs.objects.hand_over.Given as goal

abbrev pub invariant-args-2 : goal.invariant-args-2
invariant-args-2 l = Handed l.initial.heap (take l.arg-index l.args) l.to l.heap
