use Rattle.std.proofs.Common.{sym, ◌∙◌, refl}
use Rattle.rref_heap.proofs.Leavers.{room_for, listed_one, listed_none}
use Rattle.rref_heap.proofs.store.Store.list_one.Goals as goal

pub push-requires : goal.push-requires
push-requires c = room_for c.args.self.now c.args.o c.requires (sym c.stays.ensures ∙ c.if-stays.true)

pub returns-then-stays : goal.returns-then-stays
returns-then-stays c = listed_one c.args.self.now _ c.args.o c.requires (sym c.stays.ensures ∙ c.if-stays.true) c.set_leaving.ensures refl refl c.push.ensures.numbers c.push.ensures.spare

pub returns-else-stays : goal.returns-else-stays
returns-else-stays c = listed_none c.args.self.now c.args.o c.requires (sym c.stays.ensures ∙ c.if-stays.false)
