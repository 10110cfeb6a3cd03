-- When a block that a disk gave breaks the layout of the file system.
use Rattle.std.specs.Prelude.{◌≡◌, ◌≢◌, ◌⊎◌, ℕ, ◌+◌, ◌*◌, ◌<◌, ◌≤◌, List}
use Rattle.fs_layout.specs.Forms.{word_at, HasUnmarked, IsNoInode, IsNoEntry}

-- A number of an inode that names no block of data: neither 0 nor from 22 on and below the size.
pub record NamesNoData (size number : ℕ) : Type 0 where
  pub some : number ≢ 0
  pub no_data : (number < 22) ⊎ (size ≤ number)

-- A block breaks the layout where the words at one of its places aren't of its form, or where an
-- inode in it names a block that is no data, by the last size that the disk answered. Block 0 never
-- breaks it, nor does a block of data.
pub data BreaksLayout (size block : ℕ) (cells : List ℕ) : Type 0 where
  NoBitmap :
      block ≡ 1
      → HasUnmarked cells
      → BreaksLayout size block cells
  NoInode :
      2 ≤ block → block ≤ 17 → (at : ℕ) → at < 4
      → IsNoInode cells at
      → BreaksLayout size block cells
  NoData :
      2 ≤ block → block ≤ 17 → (at k : ℕ) → at < 4 → k < 8
      → NamesNoData size (word_at cells (16 * at + 2 + k))
      → BreaksLayout size block cells
  NoEntry :
      18 ≤ block → block ≤ 21 → (at : ℕ) → at < 16
      → IsNoEntry cells at
      → BreaksLayout size block cells
