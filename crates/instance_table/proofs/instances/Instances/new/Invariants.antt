use Rattle.std.proofs.Common.{◌≡◌, ◌≤◌, ◌+◌, ◌++◌, drop, length}
use Rattle.machine_defs.specs.State.{first_instances}
use Rattle.instance_table.proofs.instances.Instances.new.Given as goal

abbrev pub invariant-loads : goal.invariant-loads
invariant-loads l = record {
  opened : l.opened.items ++ first_instances l.rows (l.number + 1) (drop l.row-index l.rows.loads) ≡ first_instances l.rows 1 l.rows.loads;
  number : l.number ≡ l.row-index;
}
