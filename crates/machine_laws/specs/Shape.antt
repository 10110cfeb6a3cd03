-- How a state of a run is laid out: its lists are as long as those of the load, and objects stand
-- by rising number.
use Rattle.std.specs.Prelude.{◌≡◌, ℕ, ◌<◌, List, [], ◌∷◌, length}
use Rattle.rl_defs.specs.declared.load.LoadRows.{LoadRows}
use Rattle.machine_defs.specs.State.{State, Object}

-- each object has a greater number than the one before it, the first one a greater than n; all are
-- below the next number
abbrev pub Rises : ℕ → ℕ → List Object → Type 0
Rises n next [] = Unit {0}
Rises n next (x ∷ xs) = (n < x.number) × (x.number < next) × Rises x.number next xs

pub record Laid (L : LoadRows) (s : State) : Type 0 where
  pub stacks : length s.stacks ≡ length L.clients
  pub threads : length s.threads ≡ length L.clients
  pub shadows : length s.shadows ≡ length L.shadows
  pub objects : Rises 0 s.next_object s.objects
  pub started : 0 < s.next_object
