use Rattle.std.proofs.Common.{◌≡◌, ◌++◌, drop}
use Rattle.script_checker.proofs.commands.copy_bytes.Given as goal

abbrev pub invariant-each : goal.invariant-each
invariant-each l = l.copy ++ drop l.byte-index l.bytes ≡ l.bytes
