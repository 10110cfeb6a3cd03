use Rattle.std.proofs.Common.{◌≡◌, ◌++◌, Some, length}
use Rattle.history_text.specs.Reading.{◌>>=◌, all_in}
use Rattle.history_text.proofs.items.read_items.Given as goal

-- the items so far and those that the other words are, are all
abbrev pub invariant-words : goal.invariant-words
invariant-words g l = (all_in (g.T.Item.reading l.spellings) l.words >>= λ more. Some (l.items.items ++ more)) ≡ all_in (g.T.Item.reading l.spellings) l.fn.words

abbrev pub decreases-words : goal.decreases-words
decreases-words g l = length l.words
