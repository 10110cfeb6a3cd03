use Rattle.std.proofs.Common.{ℕ, List, Option, Bor, ◌≡◌, sym, ap, ◌∙◌}
use Rattle.std.specs.Option.{option_copied}
use Rattle.history_text.specs.Reading.{words_of, words_left, first, rest}
use Rattle.history_text.proofs.WordLaws.{cut_first, cut_none}
use Rattle.history_text.proofs.words.next_of.Goals as goal

pub returns-in-Some-cut-clause-word : goal.returns-in-Some-cut-clause-word
returns-in-Some-cut-clause-word c =
    let s = c.in-Some-cut.ensures.some in
    s.0 ∙ ((cut_first c.in-Some.text.now s.2).0 ∙ ap (λ (o : Option (Bor (List ℕ))). first (words_left (option_copied o))) (sym c.in-Some.is))

pub returns-in-Some-cut-clause-others : goal.returns-in-Some-cut-clause-others
returns-in-Some-cut-clause-others c =
    let s = c.in-Some-cut.ensures.some in
    ap words_of s.1 ∙ ((cut_first c.in-Some.text.now s.2).1 ∙ ap (λ (o : Option (Bor (List ℕ))). rest (words_left (option_copied o))) (sym c.in-Some.is))

pub returns-in-None-clause-word : goal.returns-in-None-clause-word
returns-in-None-clause-word c = (cut_none c.in-Some.text.now c.in-None.ensures.none).0 ∙ ap (λ (o : Option (Bor (List ℕ))). first (words_left (option_copied o))) (sym c.in-Some.is)

pub returns-in-None-clause-others : goal.returns-in-None-clause-others
returns-in-None-clause-others c = (cut_none c.in-Some.text.now c.in-None.ensures.none).1 ∙ ap (λ (o : Option (Bor (List ℕ))). rest (words_left (option_copied o))) (sym c.in-Some.is)
