-- The blocks so far are used.
use Rattle.std.specs.Prelude.{ℕ, ◌<◌}
use Rattle.fs_layout.specs.Forms.{IsUsed}
use Rattle.fs_layout.proofs.bitmap.Bitmap.read.Given as goal

abbrev pub invariant-marked : goal.invariant-marked
invariant-marked l = (j : ℕ) → j < l.b → IsUsed l.block j
