use Rattle.proxy_tables.proofs.Scanning.{ScanTo}
use Rattle.proxy_tables.proofs.scan.check_methods.Given as goal

abbrev pub invariant-lines : goal.invariant-lines
invariant-lines l = ScanTo l.idl l.line-index l.marked
