use Rattle.bundle_names.proofs.MethodTables.{TablesTo}
use Rattle.bundle_names.proofs.interface_names.method_tables.Given as goal

abbrev pub invariant-lines : goal.invariant-lines
invariant-lines l = TablesTo l.lines l.place l.tables
