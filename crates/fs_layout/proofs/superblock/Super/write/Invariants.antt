-- The words so far.
use Rattle.std.specs.Prelude.{◌≡◌, ℕ, ◌<◌, ◌≤◌, length}
use Rattle.fs_layout.specs.Forms.{word_at}
use Rattle.fs_layout.proofs.superblock.Super.write.Given as goal

abbrev pub invariant-zeros : goal.invariant-zeros
invariant-zeros l = (length l.block ≡ 64) × (word_at l.block 0 ≡ 1379333377) × (word_at l.block 1 ≡ l.self.blocks) × ((k : ℕ) → 2 ≤ k → k < l.k → word_at l.block k ≡ 0)
