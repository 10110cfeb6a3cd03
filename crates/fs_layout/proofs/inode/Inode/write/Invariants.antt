-- The words so far.
use Rattle.std.specs.Prelude.{◌≡◌, ℕ, ◌+◌, ◌<◌, length, slice_index}
use Rattle.fs_layout.specs.Forms.{word_at, used_word, KeepsOthers}
use Rattle.fs_layout.proofs.inode.Inode.write.Given as goal

abbrev pub invariant-numbers : goal.invariant-numbers
invariant-numbers l = (length l.block ≡ 64) × (word_at l.block l.start ≡ used_word l.self.used) × (word_at l.block (l.start + 1) ≡ l.self.len) × ((j : ℕ) → j < l.k → word_at l.block (l.start + 2 + j) ≡ slice_index l.self.blocks j) × KeepsOthers l.start (l.start + 16) l.fn.block l.block

abbrev pub invariant-zeros : goal.invariant-zeros
invariant-zeros l = (length l.block ≡ 64) × (word_at l.block l.start ≡ used_word l.self.used) × (word_at l.block (l.start + 1) ≡ l.self.len) × ((j : ℕ) → j < 8 → word_at l.block (l.start + 2 + j) ≡ slice_index l.self.blocks j) × ((j : ℕ) → j < l.k → word_at l.block (l.start + 10 + j) ≡ 0) × KeepsOthers l.start (l.start + 16) l.fn.block l.block
