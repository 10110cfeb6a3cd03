use Rattle.bundle_format.proofs.Ends.{all_within}
use Rattle.bundle_format.proofs.format.spell.Goals as goal

pub new-queue-requires : goal.new-queue-requires
new-queue-requires c = rw (c.deref-2.ensures.value, c.deref-3.ensures.value) (all_within _ 1 _ (rw c.deref.ensures.value at c.in_ok-all.ensures.numbered))
