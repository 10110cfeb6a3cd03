use Rattle.std.proofs.Common.{length}
use Rattle.rl_text.proofs.ManyLaws.{Progress}
use Rattle.rl_text.proofs.list.behind_commas.Given as goal

abbrev pub invariant-items : goal.invariant-items
invariant-items g l = Progress g.I.Item.item_at l.initial.left l.all.items l.left

abbrev pub decreases-items : goal.decreases-items
decreases-items g l = length l.left
