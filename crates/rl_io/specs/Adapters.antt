-- The adapters over readers and writers of std, as contracts see them.
use Rattle.std.specs.Prelude.{◌≡◌, ℕ, MatchResult, Result}
use Rattle.rl_io.specs.Causes.{next_count}

-- a reader or a writer, and how often it has failed
pub record Counted (T : Type 0) : Type 0 where
  pub inner : T
  pub faults : ℕ

-- the count rises by one exactly at a fault
abbrev pub CountsFaults : {T E : Type 0} → ℕ → ℕ → Result T E → Type 0
CountsFaults before now result = MatchResult result (λ _. now ≡ before) (λ _. now ≡ next_count before)
