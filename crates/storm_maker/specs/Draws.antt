-- The numbers that a storm draws.
use Rattle.std.specs.Prelude.{ℕ, zero, suc, ◌+◌, ◌*◌, ◌/◌, ◌%◌, ◌^◌}

-- the number that follows x: a linear congruence
abbrev pub next : ℕ → ℕ
next x = (6364136223846793005 * x + 1442695040888963407) % 2 ^ 64

-- the number that is the given count of steps after x
unfoldable pub after : ℕ → ℕ → ℕ
after x zero = x
after x (suc count) = next (after x count)

-- what is drawn at a number: its high bits
abbrev pub drawn : ℕ → ℕ
drawn x = x / 2 ^ 33
