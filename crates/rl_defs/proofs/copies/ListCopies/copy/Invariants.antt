use Rattle.std.proofs.Common.{◌≡◌, take}
use Rattle.rl_defs.proofs.copies.ListCopies.copy.Given as goal

abbrev pub invariant-items : goal.invariant-items
invariant-items g l = l.list ≡ take l.item-index l.item-items
