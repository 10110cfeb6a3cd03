use Rattle.bundle_names.proofs.MethodTables.{MethodsTo}
use Rattle.bundle_names.proofs.interface_names.methods_at_front.Given as goal

abbrev pub invariant-lines : goal.invariant-lines
invariant-lines l = MethodsTo l.lines l.line-index l.names
