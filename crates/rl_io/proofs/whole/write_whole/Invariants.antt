use Rattle.std.proofs.Common.{◌≤◌, ◌-◌, length, take}
use Rattle.std.specs.Io.KnownBytes.{Appends}
use Rattle.rl_io.proofs.whole.write_whole.Given as goal

-- a front of the bytes is out
abbrev pub invariant-pieces : goal.invariant-pieces
invariant-pieces g l = record {
  bytes : Appends (g.K.Sink.given l.fn.sink) (g.K.Sink.given l.sink) (take l.at l.bytes);
  within : l.at ≤ length l.bytes;
  later : g.K.Sink.faults l.fn.sink ≤ g.K.Sink.faults l.sink;
}

abbrev pub decreases-pieces : goal.decreases-pieces
decreases-pieces g l = length l.bytes - l.at
