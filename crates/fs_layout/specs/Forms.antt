-- The forms of the file system's blocks: what words stand for a value, and which stand for none.
use Rattle.std.specs.Prelude.{◌≡◌, ◌≢◌, ◌⊎◌, ℕ, ◌+◌, ◌*◌, ◌/◌, ◌%◌, ◌<◌, ◌≤◌, Bool, true, false, List, length, Option, Some, None, slice_index, IsBitSet}
use Rattle.fs_layout.specs.declared.dir_entry.DirEntry.{DirEntry}
use Rattle.fs_layout.specs.declared.inode.Inode.{Inode}
use Rattle.fs_layout.specs.declared.superblock.Super.{Super}

-- the word at a place of a block
abbrev pub word_at : List ℕ → ℕ → ℕ
word_at b k = slice_index b k

-- the words of a block but those from one place up to another are as before
pub record KeepsOthers (from to : ℕ) (old new : List ℕ) : Type 0 where
  pub count : length new ≡ length old
  pub before : (k : ℕ) → k < from → word_at new k ≡ word_at old k
  pub behind : (k : ℕ) → to ≤ k → word_at new k ≡ word_at old k

-- Block 0 says how many blocks the disk has, behind the mark 0x5236F501.
pub record IsSuper (b : List ℕ) (s : Super) : Type 0 where
  pub mark : word_at b 0 ≡ 1379333377
  pub blocks : word_at b 1 ≡ s.blocks
  pub zeros : (k : ℕ) → 2 ≤ k → k < 64 → word_at b k ≡ 0

-- It says nothing without the mark, or where another word isn't 0.
abbrev pub IsNoSuper : List ℕ → Type 0
IsNoSuper b = (word_at b 0 ≢ 1379333377) ⊎ ((k : ℕ) × (2 ≤ k) × (k < 64) × (word_at b k ≢ 0))

-- a block is used by its bit in the bitmap
abbrev pub IsUsed : List ℕ → ℕ → Type 0
IsUsed words block = IsBitSet (word_at words (block / 64)) (block % 64)

-- the blocks before the data are used
abbrev pub AreMarked : List ℕ → Type 0
AreMarked words = (block : ℕ) → block < 22 → IsUsed words block

-- one of them isn't
abbrev pub HasUnmarked : List ℕ → Type 0
HasUnmarked words = (block : ℕ) × (block < 22) × ¬ IsUsed words block

-- the word for whether an inode is used
abbrev pub used_word : Bool → ℕ
used_word true = 1
used_word false = 0

-- 16 words of a block are an inode: whether it is used, its length, its 8 block numbers, 6 zeros
pub record IsInode (b : List ℕ) (at : ℕ) (i : Inode) : Type 0 where
  pub used : word_at b (16 * at) ≡ used_word i.used
  pub len : word_at b (16 * at + 1) ≡ i.len
  pub few : i.len ≤ 4096
  pub eight : length i.blocks ≡ 8
  pub blocks : (k : ℕ) → k < 8 → word_at b (16 * at + 2 + k) ≡ slice_index i.blocks k
  pub zeros : (k : ℕ) → k < 6 → word_at b (16 * at + 10 + k) ≡ 0

-- they are none where the first is above 1, the length above 4,096, or one of the last 6 isn't 0
abbrev pub IsNoInode : List ℕ → ℕ → Type 0
IsNoInode b at =
    (1 < word_at b (16 * at))
    ⊎ (4096 < word_at b (16 * at + 1))
    ⊎ ((k : ℕ) × (k < 6) × (word_at b (16 * at + 10 + k) ≢ 0))

-- the first word of an entry: its inode's number plus 1, or 0
abbrev pub lead_of : Option ℕ → ℕ
lead_of None = 0
lead_of (Some ino) = ino + 1

-- 4 words of a block are an entry of the directory
pub record IsEntry (b : List ℕ) (at : ℕ) (e : DirEntry) : Type 0 where
  pub lead : word_at b (4 * at) ≡ lead_of e.ino
  pub few : lead_of e.ino ≤ 64
  pub three : length e.name ≡ 3
  pub first : word_at b (4 * at + 1) ≡ slice_index e.name 0
  pub second : word_at b (4 * at + 2) ≡ slice_index e.name 1
  pub third : word_at b (4 * at + 3) ≡ slice_index e.name 2

-- they are none where the first is above 64
abbrev pub IsNoEntry : List ℕ → ℕ → Type 0
IsNoEntry b at = 64 < word_at b (4 * at)
