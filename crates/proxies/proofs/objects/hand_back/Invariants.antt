use Rattle.std.proofs.Common.{take}
use Rattle.machine_defs.specs.Arguments.{objects_in}
use Rattle.proxies.proofs.HandingBack.{HandedBack}
use Rattle.proxies.proofs.objects.hand_back.Given as goal

abbrev pub invariant-results : goal.invariant-results
invariant-results l = HandedBack l.initial.heap (objects_in (take l.result-index l.results)) l.to l.ended l.heap
