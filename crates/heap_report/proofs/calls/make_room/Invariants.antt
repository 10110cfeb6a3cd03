use Rattle.std.proofs.Common.{◌≡◌, ◌+◌, ◌-◌, ℕ, length}
use Rattle.heap_report.specs.KeptCalls.{calls_of}
use Rattle.heap_report.proofs.calls.make_room.Given as goal

abbrev pub invariant-more : goal.invariant-more
invariant-more l = (t : ℕ) → calls_of l.threads.items t ≡ calls_of l.initial.threads.items t

abbrev pub decreases-more : goal.decreases-more
decreases-more l = (l.thread + 1) - length l.threads.items
