-- What holds of a whole bundle.
use Rattle.std.specs.Prelude.{◌≡◌, ℕ, List}
use Rattle.rl_defs.specs.declared.bundle.Bundle.{Bundle}
use Rattle.rl_defs.specs.Refusals.{Nowhere}
use Rattle.rl_defs.specs.BundleParts.{FailsForms, IsBundle}

-- lines in which no rule fails stand for one bundle at most
abbrev pub OneBundle : Type 0
OneBundle = (texts : List (List ℕ)) (a b : Bundle) → IsBundle texts a → IsBundle texts b → Nowhere (FailsForms texts) → a ≡ b
