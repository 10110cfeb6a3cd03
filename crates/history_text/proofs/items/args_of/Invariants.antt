use Rattle.std.proofs.Common.{◌≡◌, take}
use Rattle.history_text.proofs.items.args_of.Given as goal

abbrev pub invariant-items : goal.invariant-items
invariant-items l = l.args ≡ take l.item-index l.items
