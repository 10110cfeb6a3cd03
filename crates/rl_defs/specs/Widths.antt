-- Numbers within their widths.
use Rattle.std.specs.Prelude.{ℕ, ◌^◌, ◌&&◌, [], ◌∷◌, nat_lt, Bool, false, true, List}
use Rattle.rl_defs.specs.declared.tables.Width.TheVariants as width
use Rattle.rl_defs.specs.declared.tables.Kind.TheVariants as kind
use Rattle.rl_defs.specs.declared.tables.Width.{Width}
use Rattle.rl_defs.specs.declared.tables.Kind.{Kind}

-- how many bits a number of a width has
abbrev pub bits : Width → ℕ
bits width.Bool = 1
bits width.W8 = 8
bits width.W16 = 16
bits width.W32 = 32
bits width.W64 = 64

-- the values that a number of this width has
abbrev pub fits_width : Width → ℕ → Bool
fits_width width.Bool n = nat_lt n 2
fits_width width.W8 n = nat_lt n (2 ^ 8)
fits_width width.W16 n = nat_lt n (2 ^ 16)
fits_width width.W32 n = nat_lt n (2 ^ 32)
fits_width width.W64 n = nat_lt n (2 ^ 64)

-- numbers suit cells: each is one of a number cell, and within its width
abbrev pub number_suits : Kind → ℕ → Bool
number_suits (kind.Num w) n = fits_width w n
number_suits _ n = false

abbrev pub numbers_suit : List Kind → List ℕ → Bool
numbers_suit kinds [] = true
numbers_suit [] (n ∷ ns) = false
numbers_suit (k ∷ kinds) (n ∷ ns) = number_suits k n && numbers_suit kinds ns
