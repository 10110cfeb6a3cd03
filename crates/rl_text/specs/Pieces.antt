-- Tokens that are to be written.
use Rattle.rl_defs.specs.Tokens as t
use Rattle.rl_defs.specs.Tokens.{Token}
use Rattle.rl_text.specs.declared.render.Piece.{Piece}
use Rattle.rl_text.specs.declared.render.Piece.TheVariants.{Word, Key, Number, Text, Mark}

-- the token that a piece of a line stands for
abbrev pub piece_token : Piece → Token
piece_token (Word name) = t.Name name
piece_token (Key key) = t.Reserved key
piece_token (Number n) = t.Number n
piece_token (Text inner) = t.Text inner.now
piece_token (Mark mark) = t.Sign mark
