-- Lists of parts, with a comma before each of them, or between them.
use Rattle.std.specs.Prelude.{ℕ, zero, suc, List, [], ◌∷◌, Option, None, Some, length, if◌then◌else◌}
use Rattle.rl_defs.specs.declared.lexeme.Mark.TheVariants as m
use Rattle.rl_defs.specs.Tokens.{Token}
use Rattle.rl_text.specs.Reading.{Reader, ◌>>=◌, either, mark_at, none_left}

-- a part and those behind it
abbrev pub put_front : {A : Type 0} → A → Option (List A × List Token) → Option (List A × List Token)
put_front a None = None
put_front a (Some more) = Some (a ∷ more.0, more.1)

-- parts with a comma before each, at most so many
unfoldable pub many_at : {A : Type 0} → Reader A → ℕ → Reader (List A)
many_at item zero ts = Some ([], ts)
many_at item (suc n) ts = either (mark_at m.Comma ts) (λ behind. item behind >>= λ a. put_front a.0 (many_at item n a.1)) (Some ([], ts))

-- all parts with a comma before each
abbrev pub all_at : {A : Type 0} → Reader A → Reader (List A)
all_at item ts = many_at item (length ts) ts

-- one part or more, with commas between them
unfoldable pub list_at : {A : Type 0} → Reader A → Reader (List A)
list_at item ts = do
  first ← item ts
  more ← all_at item first.1
  Some (first.0 ∷ more.0, more.1)

-- any number of parts, up to the end of the line
unfoldable pub some_at : {A : Type 0} → Reader A → Reader (List A)
some_at item ts = if none_left ts then Some ([], ts) else list_at item ts
