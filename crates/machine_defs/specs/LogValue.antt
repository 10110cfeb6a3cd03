-- What contracts see of a log.
use Rattle.std.specs.Prelude.{ℕ, List}
use Rattle.machine_defs.specs.declared.entry.Entry.{Entry}

-- its entries, and how many puts can't fail
pub record LogValue : Type 0 where
  pub entries : List Entry
  pub spare : ℕ
