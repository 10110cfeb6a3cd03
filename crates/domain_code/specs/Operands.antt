-- What stands behind the word of a line.
use Rattle.std.specs.Prelude.{◌≡◌, ℕ, ◌+◌, ◌-◌, ◌*◌, Bool, true, false, ◌&&◌, ◌==◌, nat_le, nat_lt, List, [], ◌∷◌, Option, None, Some, if◌then◌else◌, refl}
use Rattle.std.specs.Char.{is_ascii_digit}
use Rattle.std.proofs.Common.{ltb-true}
use Rattle.rl_defs.specs.declared.code.Register.{Register}
use Rattle.rl_defs.specs.declared.lexeme.Mark.TheVariants as m
use Rattle.rl_defs.specs.Tokens.{Token}
use Rattle.rl_text.specs.Reading.{Reader, ◌>>=◌, name_at, number_at, mark_at}

-- the number in the word of a register: one digit, or two of which the first is 1 to 3
abbrev pub register_number : List ℕ → Option ℕ
register_number (c ∷ ones ∷ []) = if (c == 114) && is_ascii_digit ones then Some (ones - 48) else None
register_number (c ∷ tens ∷ ones ∷ []) = if (c == 114) && ((nat_le 49 tens && nat_le tens 51) && is_ascii_digit ones) then Some ((tens - 48) * 10 + (ones - 48)) else None
register_number _ = None

-- the register of a number, where it is below 32
abbrev pub below_32 : (n : ℕ) (b : Bool) → nat_lt n 32 ≡ b → Option Register
below_32 n true e = Some (record { number = n; below = ltb-true n 32 e })
below_32 n false e = None

abbrev pub numbered_register : Option ℕ → Option Register
numbered_register None = None
numbered_register (Some n) = below_32 n (nat_lt n 32) refl

-- the register of a word
unfoldable pub register_of : List ℕ → Option Register
register_of word = numbered_register (register_number word)

abbrev pub named_register : List ℕ → List Token → Option (Register × List Token)
named_register word rest = do
  r ← register_of word
  Some (r, rest)

unfoldable pub register_at : Reader Register
register_at ts = do
  name ← name_at ts
  named_register name.0 name.1

-- behind a comma
unfoldable pub next_register_at : Reader Register
next_register_at ts = do
  a ← mark_at m.Comma ts
  register_at a

unfoldable pub next_name_at : Reader (List ℕ)
next_name_at ts = do
  a ← mark_at m.Comma ts
  name_at a

unfoldable pub next_number_at : Reader ℕ
next_number_at ts = do
  a ← mark_at m.Comma ts
  number_at a
