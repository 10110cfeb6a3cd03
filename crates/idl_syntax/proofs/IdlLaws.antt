-- The lines of the interface part, as readings of their tokens.
use Rattle.std.proofs.Common.{◌≡◌, ℕ, List, [], Option, None, Some, refl, subst}
use Rattle.rl_defs.specs.declared.idl.IdlLine.{IdlLine}
use Rattle.rl_defs.specs.Tokens.{Token, HasTokens}
use Rattle.rl_defs.specs.IdlForms.{spell_line, IsIdlLine}
use Rattle.rl_defs.specs.IdlParts as parts
use Rattle.rl_defs.specs.IdlParts.{interface_part}
use Rattle.rl_text.specs.Reading.{name_at, key_at, mark_at}
use Rattle.rl_text.specs.Forms.{IsReading}
use Rattle.rl_text.proofs.PartRules.{AreForms, forms_read}
use Rattle.idl_syntax.specs.declared.part.Block.{Block}
use Rattle.idl_syntax.specs.declared.part.Block.TheVariants as b
use Rattle.idl_syntax.specs.Parts.{block_of}
use Rattle.idl_syntax.specs.Lines.{line_at, form_at, open_at, field_at}
use Rattle.idl_syntax.proofs.LineTakes.{line_takes}
use Rattle.idl_syntax.proofs.LineAgain.{line_again}

abbrev pub read : List ℕ → List Token → Option IdlLine
read text ts = line_at ts

is_line : (text : List ℕ) (ts : List Token) (form : IdlLine) → HasTokens ts text → line_at ts ≡ Some form → IsIdlLine form text
is_line text ts form h e =
    let x = line_takes ts form e in
    record { choice = x.0; tokens = subst (λ (t : List Token). HasTokens t text) x.1 h; whole = x.2 }

nothing : line_at [] ≡ None
unfolding line_at form_at open_at field_at name_at key_at mark_at
nothing = refl

pub reading : IsReading IsIdlLine read
reading = record {
  takes = is_line;
  finds = λ text form f. record { tokens = spell_line f.choice form; has = f.tokens; found = line_again f.choice form f.whole };
  nothing = λ text. nothing;
}

pub interface_forms : AreForms interface_part
interface_forms = forms_read interface_part read reading
