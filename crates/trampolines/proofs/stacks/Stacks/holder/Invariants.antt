use Rattle.std.proofs.Common.{◌≡◌, ◌+◌, ◌≤◌, drop}
use Rattle.trampolines.specs.Words.{others_in}
use Rattle.trampolines.proofs.Holding.{NobodyBefore}
use Rattle.trampolines.proofs.stacks.Stacks.holder.Given as goal

abbrev pub invariant-stacks : goal.invariant-stacks
invariant-stacks g l = record {
  number : l.client ≡ l.stack-index;
  passed : others_in l.i l.but (l.client + 1) (drop l.stack-index l.stack-items) ≡ others_in l.i l.but 1 l.stack-items;
  nobody : NobodyBefore l.i l.but l.stack-items (l.client + 1);
}
