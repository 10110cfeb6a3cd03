use Rattle.std.proofs.Common.{◌≡◌, ℕ, List, [], ◌∷◌, sym, ap, ◌∙◌}
use Rattle.std.specs.Prelude.{string_bytes}
use Rattle.heads_command.proofs.SpelledNumbers.{two_words, same_word}
use Rattle.heads_command.proofs.words.heads_of.Goals as goal

pub returns-then-eq-clause-words : goal.returns-then-eq-clause-words
returns-then-eq-clause-words c = record {
  number = string_bytes c.number-item.result;
  are = two_words string_bytes c.args.words.now c.command-item.result c.number-item.result _ _ c.in-len2.len_at_least c.in-len2.len_below c.command-item.is c.number-item.is
      ∙ ap (λ (w : List ℕ). w ∷ string_bytes c.number-item.result ∷ []) (sym c.as_bytes-in-len2.ensures.value ∙ same_word _ _ c.if-eq.ensures ∙ c.as_slice.ensures);
  of = rw (← c.as_bytes.ensures.value) c.in_ok-n-in-len2.ensures;
}
