use Rattle.std.proofs.Common.{◌∷◌, [], refl}
use Rattle.heap_report.proofs.Told.{acts_at, threads_after, turn_read}
use Rattle.heap_report.proofs.Rooms.{room_after}
use Rattle.heap_report.proofs.reading.Reading.turn.Goals as goal

pub returns-clause-reads : goal.returns-clause-reads
returns-clause-reads c = λ us reads.
    let from = acts_at c.deref.result.now c.args.self.now.threads.items c.thread_of.result _ us c.actor-from.result c.actor-from.ensures c.deref.ensures.value c.thread_of.ensures reads.threads in
    let kept = threads_after c.args.self.now.threads.items c.tell.new.threads.items us c.args.entry.now c.in_ok-tell.ensures reads.threads in
    let to = acts_at c.deref-2.result.now c.tell.new.threads.items c.thread_of-2.result _ (record { entry = c.args.entry.now; frees = [] } ∷ us) c.actor-to.result c.actor-to.ensures c.deref-2.ensures.value c.thread_of-2.ensures kept in
    turn_read c.args.self.now _ us c.args.entry.now c.actor-from.result c.actor-to.result reads c.in_ok-tell.ensures from to c.in_ok-tell-2.ensures.told c.in_ok-tell-2.ensures.counted c.in_ok-tell-2.ensures.made c.count_entry.ensures.grows refl

pub returns-clause-room : goal.returns-clause-room
returns-clause-room c = λ n room. room_after c.args.self.now _ n _ c.args.entry.now c.requires.room room c.in_ok-tell-2.ensures.made c.count_entry.ensures.grows c.count_entry.ensures.most
