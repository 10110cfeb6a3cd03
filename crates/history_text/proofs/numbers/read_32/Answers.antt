use Rattle.std.proofs.Common.{◌≡◌, ℕ, Option, sym, ap, ◌∙◌}
use Rattle.history_text.specs.Reading.{◌>>=◌, narrow}
use Rattle.history_text.proofs.DigitLaws.{narrowed}
use Rattle.history_text.proofs.numbers.read_32.Goals as goal

pub returns-in-Some : goal.returns-in-Some
returns-in-Some c = c.narrow.ensures ∙ sym (narrowed c.args.word.now ∙ ap (λ (o : Option ℕ). o >>= narrow) (sym c.in-Some.ensures))

pub returns-in-None : goal.returns-in-None
returns-in-None c = sym (narrowed c.args.word.now ∙ ap (λ (o : Option ℕ). o >>= narrow) (sym c.in-None.ensures))
