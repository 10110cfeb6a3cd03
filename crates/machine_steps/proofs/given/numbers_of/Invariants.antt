use Rattle.std.proofs.Common.{◌≡◌, ◌++◌, drop}
use Rattle.machine_steps.proofs.given.numbers_of.Given as goal

abbrev pub invariant-bytes : goal.invariant-bytes
invariant-bytes l = l.numbers ++ drop l.byte-index l.bytes ≡ l.bytes
