-- The words that lines of the plan begin with.
use Rattle.std.specs.Prelude.{ℕ, ◌==◌, List, ◌∷◌, Option, None, Some, if◌then◌else◌, codes}
use Rattle.std.specs.Cmp.Lexicographic.{pointwise}
use Rattle.rl_text.specs.Reading.{◌>>=◌}
use Rattle.bundle_syntax.specs.declared.plan.form.Verb.{Verb}
use Rattle.bundle_syntax.specs.declared.plan.form.Verb.TheVariants as verb

-- the bytes of a word
abbrev pub verb_text : Verb → List ℕ
verb_text verb.Load = codes "load"
verb_text verb.Bind = codes "bind"
verb_text verb.Shadow = codes "shadow"
verb_text verb.Device = codes "device"
verb_text verb.Serial = codes "serial"
verb_text verb.Fuel = codes "fuel"
verb_text verb.Order = codes "order"

-- the one word that bytes can be, by the first two of them
abbrev pub likely_verb : List ℕ → Option Verb
likely_verb (c ∷ d ∷ rest) =
    if c == 108 then Some verb.Load else (if c == 98 then Some verb.Bind else
    (if c == 115 then (if d == 104 then Some verb.Shadow else Some verb.Serial) else
    (if c == 100 then Some verb.Device else (if c == 102 then Some verb.Fuel else
    (if c == 111 then Some verb.Order else None)))))
likely_verb _ = None

-- the word of these bytes
unfoldable pub verb_of : List ℕ → Option Verb
verb_of word = do
  v ← likely_verb word
  if pointwise ◌==◌ (verb_text v) word then Some v else None
