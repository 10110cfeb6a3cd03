use Rattle.bundle_names.proofs.InterfaceScan.{ScanTo}
use Rattle.bundle_names.proofs.interfaces.first_fault.Given as goal

abbrev pub invariant-lines : goal.invariant-lines
invariant-lines l = ScanTo l.lines l.line-index l.given
