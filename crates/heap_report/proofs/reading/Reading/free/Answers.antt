use Rattle.std.proofs.Common.{refl, subst}
use Rattle.machine_defs.specs.declared.values.Owner.{Owner}
use Rattle.machine_defs.specs.Report.{same_owner}
use Rattle.heap_report.specs.KeptAccounts.{AccountsGrow, share}
use Rattle.heap_report.specs.Counting.{one_freed}
use Rattle.heap_report.proofs.Told.{free_read}
use Rattle.heap_report.proofs.Rooms.{room_freed}
use Rattle.heap_report.proofs.reading.Reading.free.Goals as goal

pub returns-clause-reads : goal.returns-clause-reads
returns-clause-reads c = λ us reads.
    free_read c.args.self.now _ us c.args.object c.if-not-self.false reads (λ t. refl) c.in_ok-remove.ensures.told c.in_ok-remove.ensures.counted c.in_ok-remove.ensures.made
    (subst (λ (x : Owner). AccountsGrow c.args.self.now.accounts c.count_freed.new.accounts (λ w. share (same_owner x w) one_freed)) c.owner.ensures c.count_freed.ensures) refl

pub returns-clause-room : goal.returns-clause-room
returns-clause-room c = λ n room. room_freed c.args.self.now _ n c.owner.result room c.in_ok-remove.ensures.made c.count_freed.ensures
