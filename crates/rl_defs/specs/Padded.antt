-- Bytes at the front of an array, with zeros behind them.
use Rattle.std.specs.Prelude.{◌≡◌, ℕ, ◌-◌, ◌≤◌, IsTrue, List, ◌++◌, length, take, replicate}
use Rattle.rl_defs.specs.Words.{is_name}

-- the bytes, and zeros up to 24
abbrev pub padded : List ℕ → List ℕ
padded xs = xs ++ replicate (24 - length xs) 0

-- the array has n bytes, and zeros behind them
pub record Padded (bytes : List ℕ) (n : ℕ) : Type 0 where
  pub fits : n ≤ 24
  pub zeros : padded (take n bytes) ≡ bytes
  pub len : length bytes ≡ 24

-- the first n bytes of the array are a name
pub record KeepsName (bytes : List ℕ) (n : ℕ) : Type 0 where
  pub padded : Padded bytes n
  pub name : IsTrue (is_name (take n bytes))
