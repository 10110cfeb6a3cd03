use Rattle.std.proofs.Common.{◌≡◌, take, length}
use Rattle.machine_defs.specs.History.{turns_of}
use Rattle.heap_report.specs.Readings.{Reads, AccountsHaveRoom}
use Rattle.heap_report.proofs.reading.read_log.Given as goal

abbrev pub invariant-each : goal.invariant-each
invariant-each l = record {
  reads : Reads l.reading (turns_of (take l.entry-index l.log));
  room : AccountsHaveRoom l.reading l.entry-index;
  clients : length l.reading.accounts.clients.items ≡ l.clients;
  instances : length l.reading.accounts.instances.items ≡ l.instances;
}
