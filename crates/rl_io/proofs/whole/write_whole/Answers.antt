use Rattle.std.proofs.Common.{rules}
use Rattle.std.proofs.Math.Seq.{take-add}
use Rattle.std.proofs.lemmas.List.{take_rest}
use Rattle.rl_io.proofs.Known.{Appends-append}
use Rattle.rl_io.proofs.whole.write_whole.Goals as goal

pub pieces-preserved : goal.pieces-preserved
pieces-preserved g c = record {
  bytes = rw take-add (Appends-append _ _ _ _ _ c.pieces.invariant.bytes (rw take_rest at c.in_ok-at.ensures.bytes));
  within = search rules;
  later = search rules;
}
