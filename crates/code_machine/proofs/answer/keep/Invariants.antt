use Rattle.std.proofs.Common.{◌≡◌, drop, None}
use Rattle.std.specs.Prelude.{replicate}
use Rattle.code_machine.proofs.Keeping.{put_back}
use Rattle.code_machine.proofs.answer.keep.Given as goal

abbrev pub invariant-each : goal.invariant-each
invariant-each l = put_back (drop l.item-index l.items) l.before l.registers ≡ put_back l.items l.before (replicate 32 None)
