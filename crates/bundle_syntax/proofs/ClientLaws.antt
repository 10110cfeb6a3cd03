-- The lines of the clients, as readings of their tokens.
use Rattle.std.proofs.Common.{◌≡◌, ℕ, List, [], Option, None, refl, subst}
use Rattle.rl_defs.specs.declared.bundle.ClientLine.{ClientLine}
use Rattle.rl_defs.specs.Tokens.{Token, HasTokens}
use Rattle.rl_defs.specs.BundleForms.{spell_client, IsClientLine}
use Rattle.rl_defs.specs.BundleParts.{client_part}
use Rattle.rl_text.specs.Reading.{name_at, mark_at}
use Rattle.rl_text.specs.Forms.{IsReading}
use Rattle.rl_text.proofs.PartRules.{AreForms, forms_read}
use Rattle.bundle_syntax.specs.ClientLines.{line_at, form_at, word_line_at}
use Rattle.bundle_syntax.proofs.ClientTakes.{line_takes}
use Rattle.bundle_syntax.proofs.ClientAgain.{line_again}

abbrev pub read : List ℕ → List Token → Option ClientLine
read text ts = line_at ts

nothing : line_at [] ≡ None
unfolding line_at form_at word_line_at name_at mark_at
nothing = refl

pub reading : IsReading IsClientLine read
reading = record {
  takes = λ text ts form h e. subst (λ (t : List Token). HasTokens t text) (line_takes ts form e) h;
  finds = λ text form f. record { tokens = spell_client form; has = f; found = line_again form };
  nothing = λ text. nothing;
}

pub client_forms : AreForms client_part
client_forms = forms_read client_part read reading
