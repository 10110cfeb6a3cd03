-- Tokens that can be written, and the line that they are written as.
use Rattle.std.specs.Prelude.{ℕ, ◌+◌, ◌*◌, ◌<◌, ◌^◌, IsTrue, List, [], ◌∷◌, ◌++◌, replicate}
use Rattle.std.specs.List.{list_all}
use Rattle.rl_defs.specs.declared.bundle.Numbered.{Numbered}
use Rattle.rl_text.specs.Canonical.{render}
use Rattle.rl_defs.specs.Words.{is_name}
use Rattle.rl_defs.specs.Tokens.{Token, Name, Reserved, Number, Text, Sign, is_text_byte}
use Rattle.rl_defs.specs.Parts.{numbered}

-- a name is one, a number fits 64 bits, a text has bytes of a text
abbrev pub IsWritable : Token → Type 0
IsWritable (Name word) = IsTrue (is_name word)
IsWritable (Reserved key) = Unit {0}
IsWritable (Number n) = n < 2 ^ 64
IsWritable (Text inner) = IsTrue (list_all is_text_byte inner)
IsWritable (Sign mark) = Unit {0}

abbrev pub AreWritable : List Token → Type 0
AreWritable [] = Unit {0}
AreWritable (token ∷ more) = IsWritable token × AreWritable more

-- a line as it is written inside so many blocks, without its line feed
abbrev pub written_inside : ℕ → List Token → List ℕ
written_inside depth tokens = replicate (4 * depth) 32 ++ render tokens

-- lines, numbered anew from this number on
abbrev pub renumbered : {Form : Type 0} → ℕ → List (Numbered Form) → List (Numbered Form)
renumbered number [] = []
renumbered number (line ∷ lines) = numbered number line.form ∷ renumbered (number + 1) lines
