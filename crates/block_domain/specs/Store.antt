-- What a history tells of the cells of objects and of the blocks of the device. Each reading is of
-- the turns before a place, the newest first.
use Rattle.std.specs.Prelude.{ℕ, ◌-◌, ◌==◌, ◌++◌, List, [], length, replicate, if◌then◌else◌}
use Rattle.machine_defs.specs.declared.entry.Entry.{Entry}
use Rattle.machine_defs.specs.declared.entry.Entry.TheVariants as entry
use Rattle.rl_defs.specs.declared.load.LoadRows.{LoadRows}
use Rattle.rl_defs.specs.CodeNames.{cells_of}
use Rattle.machine_defs.specs.Objects.{overwritten}
use Rattle.machine_defs.specs.Steps.{Turn}
use Rattle.machine_defs.specs.History.{told}

-- the cells of each object and of each block, by their numbers
pub record Store : Type 0 where
  pub objects : ℕ → List ℕ
  pub blocks : ℕ → List ℕ

-- at the start no object has a cell, and each block is 64 zeros
abbrev pub empty_store : Store
empty_store = record { objects = λ o. []; blocks = λ b. replicate 64 0 }

-- the same but at one number
abbrev pub changed : ℕ → List ℕ → (ℕ → List ℕ) → ℕ → List ℕ
changed n cells old m = if m == n then cells else old m

-- A `new` gives an object its first cells, and zeros behind them; a `set` writes cells of it from a
-- place on; a `devget` gives it the cells of a block; and a `devput` gives a block the cells that
-- an object has then.
abbrev pub store_after : LoadRows → Entry → Store → Store
store_after L (entry.New t w o ty values) s = record s { objects = changed o (values ++ replicate (length (cells_of L.tables ty) - length values) 0) s.objects }
store_after L (entry.Set t o at values) s = record s { objects = changed o (overwritten at values (s.objects o)) s.objects }
store_after L (entry.DevGet t o b) s = record s { objects = changed o (s.blocks b) s.objects }
store_after L (entry.DevPut t b o) s = record s { blocks = changed b (s.objects o) s.blocks }
store_after L _ s = s

abbrev pub store_at : LoadRows → List Turn → Store
store_at L us = told (store_after L) empty_store us

-- the cells of an object; a cell for an `RRef` is 0
abbrev pub cells_at : LoadRows → List Turn → ℕ → List ℕ
cells_at L us o = (store_at L us).objects o

-- what a block holds: the cells that the object of the last `devput` to it had at that `devput`, or
-- zeros where there is none
abbrev pub block_at : LoadRows → List Turn → ℕ → List ℕ
block_at L us b = (store_at L us).blocks b
