use Rattle.std.proofs.Common.{◌-◌, ◌^◌, take}
use Rattle.heap_report.specs.KeptAccounts.{AccountsGrow, AtMost, most, plus, nothing}
use Rattle.heap_report.specs.Counting.{freed_of}
use Rattle.heap_report.proofs.counting.count_dropped.Given as goal

abbrev pub invariant-each : goal.invariant-each
invariant-each l = record {
  grows : AccountsGrow l.initial.accounts l.accounts (freed_of l.objects.rows.items (take l.object-index l.object-items));
  room : AtMost l.accounts (plus (most (2 ^ 31 - 2)) (record nothing { freed = l.object-index }));
}
