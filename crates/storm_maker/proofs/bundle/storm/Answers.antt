use Rattle.std.proofs.Common.{◌≡◌, ℕ, ◌≤◌, List, [], ◌++◌, length, sym, ap, ◌∙◌, subst}
use Rattle.std.specs.Prelude.{min}
use Rattle.std.proofs.lemmas.Grind.{flat_map-append}
use Rattle.storm_maker.specs.Fixed.{line_text, lines_text, fixed_lines}
use Rattle.storm_maker.specs.StormText.{clients_lines, storm_text}
use Rattle.storm_maker.proofs.Lengths.{storm_short}
use Rattle.storm_maker.proofs.bundle.storm.Goals as goal

-- the text before the clients, and theirs behind it
whole : (n m : ℕ) (none fixed all : List ℕ) → none ≡ [] → fixed ≡ none ++ lines_text fixed_lines
    → all ≡ fixed ++ lines_text (clients_lines n m) → m ≡ min n 16 → all ≡ storm_text n
whole n m none fixed all empty first then few =
    then
    ∙ ap (λ (o : List ℕ). o ++ lines_text (clients_lines n m)) (first ∙ ap (λ (o : List ℕ). o ++ lines_text fixed_lines) empty)
    ∙ ap (λ (k : ℕ). lines_text fixed_lines ++ lines_text (clients_lines n k)) few
    ∙ sym (flat_map-append line_text fixed_lines (clients_lines n (min n 16)))

pub returns-clause-text : goal.returns-clause-text
returns-clause-text c =
    whole c.args.n c.min.result c.new-out.result.items c.put_fixed.new.out.items c.put_clients.new.out.items
    c.new-out.ensures.items c.in_ok-put_fixed.ensures c.in_ok-put_clients.ensures c.min.ensures

pub returns-clause-short : goal.returns-clause-short
returns-clause-short c =
    subst (λ (t : List ℕ). length t ≤ 1048576) (sym (returns-clause-text c)) (storm_short c.args.n)
