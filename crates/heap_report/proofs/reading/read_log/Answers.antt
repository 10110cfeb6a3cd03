use Rattle.std.proofs.Common.{◌∙◌, subst, arith}
use Rattle.machine_defs.specs.Steps.{Turn}
use Rattle.machine_defs.specs.History.{turns_of}
use Rattle.std.proofs.Common.{List, take}
use Rattle.heap_report.specs.Readings.{Reads}
use Rattle.heap_report.proofs.Rooms.{room_more, turns_more}
use Rattle.heap_report.proofs.reading.read_log.Goals as goal

pub read-requires-clause-counted : goal.read-requires-clause-counted
read-requires-clause-counted c = c.each.invariant.reads.counted

pub read-requires-clause-room : goal.read-requires-clause-room
read-requires-clause-room c = room_more c.each.reading c.each.entry-index _ c.each.invariant.room (omega (arith, c.each-test.true, c.requires))

pub each-preserved : goal.each-preserved
each-preserved c = record {
  reads = subst (λ (us : List Turn). Reads c.read.new.self us) (turns_more c.args.log.now c.each.entry-index c.entry-item.result c.each-test.true c.entry-item.is) (c.in_ok-read.ensures.reads (turns_of (take c.each.entry-index c.args.log.now)) c.each.invariant.reads);
  room = c.in_ok-read.ensures.room c.each.entry-index c.each.invariant.room;
  clients = c.in_ok-read.ensures.owners.clients ∙ c.each.invariant.clients;
  instances = c.in_ok-read.ensures.owners.instances ∙ c.each.invariant.instances;
}
