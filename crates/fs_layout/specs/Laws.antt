-- The laws of the forms: each value has its words, and the words their value.
use Rattle.std.specs.Prelude.{◌≡◌, ℕ, ◌+◌, ◌*◌, ◌<◌, ◌≤◌, List}
use Rattle.fs_layout.specs.declared.dir_entry.DirEntry.{DirEntry}
use Rattle.fs_layout.specs.declared.inode.Inode.{Inode}
use Rattle.fs_layout.specs.declared.superblock.Super.{Super}
use Rattle.fs_layout.specs.Forms.{word_at, IsSuper, IsNoSuper, IsInode, IsNoInode, IsEntry, IsNoEntry, AreMarked, HasUnmarked}

-- two blocks have the same words from one place up to another
abbrev pub SameWords : ℕ → ℕ → List ℕ → List ℕ → Type 0
SameWords from to b c = (k : ℕ) → from ≤ k → k < to → word_at b k ≡ word_at c k

-- What block 0 says is one value, which has one block; a block that says something isn't refused.
pub record SuperIsReadAgain : Type 0 where
  pub one_value : (b : List ℕ) (s t : Super) → IsSuper b s → IsSuper b t → s ≡ t
  pub one_block : (b c : List ℕ) (s : Super) → IsSuper b s → IsSuper c s → SameWords 0 64 b c
  pub not_refused : (b : List ℕ) (s : Super) → IsSuper b s → ¬ IsNoSuper b

-- the same of the inode at a place
pub record InodeIsReadAgain : Type 0 where
  pub one_value : (b : List ℕ) (at : ℕ) (i j : Inode) → IsInode b at i → IsInode b at j → i ≡ j
  pub one_block :
      (b c : List ℕ) (at : ℕ) (i : Inode) → IsInode b at i → IsInode c at i
      → SameWords (16 * at) (16 * at + 16) b c
  pub not_refused : (b : List ℕ) (at : ℕ) (i : Inode) → IsInode b at i → ¬ IsNoInode b at

-- the same of the entry at a place
pub record EntryIsReadAgain : Type 0 where
  pub one_value : (b : List ℕ) (at : ℕ) (e f : DirEntry) → IsEntry b at e → IsEntry b at f → e ≡ f
  pub one_block :
      (b c : List ℕ) (at : ℕ) (e : DirEntry) → IsEntry b at e → IsEntry c at e
      → SameWords (4 * at) (4 * at + 4) b c
  pub not_refused : (b : List ℕ) (at : ℕ) (e : DirEntry) → IsEntry b at e → ¬ IsNoEntry b at

-- a bitmap that may be written isn't refused
abbrev pub BitmapIsReadAgain : Type 0
BitmapIsReadAgain = (words : List ℕ) → AreMarked words → ¬ HasUnmarked words
