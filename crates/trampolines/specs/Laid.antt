-- What contracts see of all stacks.
use Rattle.std.specs.Prelude.{ℕ, List}
use Rattle.machine_defs.specs.declared.frame.Frame.{Frame}

-- for each client the frames above its own, the lowest first; and of how many instances frames are
-- counted
pub record Laid (N : Type 0) : Type 0 where
  pub frames : List (List (Frame N))
  pub instances : ℕ
