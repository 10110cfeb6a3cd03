use Rattle.std.proofs.Common.{◌≡◌, [], replicate}
use Rattle.trampolines.proofs.stacks.Stacks.new.Given as goal

abbrev pub invariant-clients : goal.invariant-clients
invariant-clients g l = l.stacks.items ≡ replicate l.counter []
