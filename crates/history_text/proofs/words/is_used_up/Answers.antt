use Rattle.std.proofs.Common.{ℕ, List, Option, Bor, ◌≡◌, sym, ap, ◌∙◌, eqb, length}
use Rattle.std.specs.Option.{option_copied}
use Rattle.history_text.specs.Reading.{words_left}
use Rattle.history_text.proofs.WordLaws.{some_left}
use Rattle.history_text.proofs.words.is_used_up.Goals as goal

pub returns-in-Some : goal.returns-in-Some
returns-in-Some c = some_left c.in-Some.field-0.now ∙ ap (λ (o : Option (Bor (List ℕ))). eqb (length (words_left (option_copied o))) 0) (sym c.in-Some.is)
