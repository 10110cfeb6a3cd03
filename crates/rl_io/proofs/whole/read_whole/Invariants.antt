use Rattle.std.proofs.Common.{◌≤◌, ◌+◌, ◌-◌, vec_len, take}
use Rattle.std.specs.Io.KnownBytes.{Consumes}
use Rattle.rl_io.proofs.whole.read_whole.Given as goal

-- what came stands at the front
abbrev pub invariant-takes : goal.invariant-takes
invariant-takes g l = record {
  bytes : Consumes (g.S.Source.left l.fn.source) (g.S.Source.left l.source) (take l.filled l.bytes.items);
  within : l.filled ≤ vec_len l.bytes;
  later : g.S.Source.faults l.fn.source ≤ g.S.Source.faults l.source;
}

abbrev pub decreases-takes : goal.decreases-takes
decreases-takes g l = l.limit + 1 - l.filled
