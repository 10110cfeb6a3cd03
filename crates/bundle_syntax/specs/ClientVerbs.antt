-- The words that lines of the clients begin with, but for `call`.
use Rattle.std.specs.Prelude.{ℕ, ◌==◌, List, ◌∷◌, Option, None, Some, if◌then◌else◌, codes}
use Rattle.std.specs.Cmp.Lexicographic.{pointwise}
use Rattle.rl_text.specs.Reading.{◌>>=◌}
use Rattle.bundle_syntax.specs.declared.clients.form.Verb.{Verb}
use Rattle.bundle_syntax.specs.declared.clients.form.Verb.TheVariants as verb

-- the bytes of a word
abbrev pub verb_text : Verb → List ℕ
verb_text verb.Client = codes "client"
verb_text verb.Let = codes "let"
verb_text verb.Text = codes "text"
verb_text verb.Show = codes "show"
verb_text verb.Drop = codes "drop"
verb_text verb.Kill = codes "kill"

-- the one word that bytes can be, by the first of them
abbrev pub likely_verb : List ℕ → Option Verb
likely_verb (c ∷ rest) =
    if c == 108 then Some verb.Let else (if c == 116 then Some verb.Text else
    (if c == 99 then Some verb.Client else (if c == 115 then Some verb.Show else
    (if c == 100 then Some verb.Drop else (if c == 107 then Some verb.Kill else None)))))
likely_verb _ = None

-- the word of these bytes
unfoldable pub verb_of : List ℕ → Option Verb
verb_of word = do
  v ← likely_verb word
  if pointwise ◌==◌ (verb_text v) word then Some v else None
