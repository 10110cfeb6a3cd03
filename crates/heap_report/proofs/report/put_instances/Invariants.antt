use Rattle.std.proofs.Common.{◌≡◌, ◌++◌, take}
use Rattle.machine_defs.specs.declared.values.Owner.TheVariants as owner
use Rattle.heap_report.specs.Lines.{account_lines}
use Rattle.heap_report.proofs.report.put_instances.Given as goal

abbrev pub invariant-each : goal.invariant-each
invariant-each l = record {
  number : l.number ≡ l.account-index;
  out : l.out.items ≡ l.fn.out.items ++ account_lines owner.Instance 1 (take l.account-index l.accounts);
}
