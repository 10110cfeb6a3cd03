-- What a table of names keeps.
use Rattle.std.specs.Prelude.{◌≡◌, ℕ, ◌^◌, ◌<◌, List, length, nat_eq}
use Rattle.std.specs.Cmp.Lexicographic.{pointwise}
use Rattle.indexmap.specs.IndexMap.{IndexMap, get}
use Rattle.rl_defs.specs.Interfaces.{place_of}

-- The table gives each name's first place among the names, and has no other names.
pub record IsPlaced {S : Type 0} (names : List (List ℕ)) (places : IndexMap (List ℕ) ℕ S) : Type 0 where
  pub few : length names < 2 ^ 32
  pub place : (q : List ℕ) → get (pointwise nat_eq) places q ≡ place_of q names
