-- What register work sees of the machine.
use Rattle.std.specs.Prelude.{ℕ, Option}
use Rattle.rl_defs.specs.Registers.{Typing}

-- Of which struct each object is, and of which trait each target; the number cells of objects, the
-- words, the slots, what hangs in a cell, how many blocks the device has, and the target that is
-- bound to an import.
pub record Sight : Type 0 where
  pub types : Typing
  pub cell : ℕ → ℕ → Option ℕ
  pub word : ℕ → Option ℕ
  pub slot : ℕ → Option ℕ
  pub hung : ℕ → ℕ → Option ℕ
  pub blocks : ℕ
  pub bound : ℕ → ℕ
