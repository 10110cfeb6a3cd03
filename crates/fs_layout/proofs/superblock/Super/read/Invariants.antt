-- The words so far are 0.
use Rattle.std.specs.Prelude.{◌≡◌, ℕ, ◌<◌, ◌≤◌}
use Rattle.fs_layout.specs.Forms.{word_at}
use Rattle.fs_layout.proofs.superblock.Super.read.Given as goal

abbrev pub invariant-zeros : goal.invariant-zeros
invariant-zeros l = (k : ℕ) → 2 ≤ k → k < l.k → word_at l.block k ≡ 0
