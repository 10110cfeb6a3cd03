-- The words so far.
use Rattle.std.specs.Prelude.{◌≡◌, ℕ, ◌+◌, ◌<◌, length, slice_index}
use Rattle.fs_layout.specs.Forms.{word_at}
use Rattle.fs_layout.proofs.inode.Inode.read.Given as goal

abbrev pub invariant-zeros : goal.invariant-zeros
invariant-zeros l = (j : ℕ) → j < l.k → word_at l.block (l.start + 10 + j) ≡ 0

abbrev pub invariant-numbers : goal.invariant-numbers
invariant-numbers l = (length l.blocks ≡ 8) × ((j : ℕ) → j < l.k → slice_index l.blocks j ≡ word_at l.block (l.start + 2 + j))
