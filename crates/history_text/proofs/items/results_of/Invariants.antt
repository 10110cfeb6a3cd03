use Rattle.std.proofs.Common.{◌≡◌, take}
use Rattle.history_text.proofs.items.results_of.Given as goal

abbrev pub invariant-items : goal.invariant-items
invariant-items l = l.results ≡ take l.item-index l.items
