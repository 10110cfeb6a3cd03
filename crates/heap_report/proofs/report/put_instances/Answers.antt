use Rattle.std.proofs.Common.{arith}
use Rattle.machine_defs.specs.declared.values.Owner.TheVariants as owner
use Rattle.heap_report.proofs.Lines.{account_more, failed}
use Rattle.heap_report.proofs.report.put_instances.Goals as goal

pub returns-in_err-put_account : goal.returns-in_err-put_account
returns-in_err-put_account c = failed c.from_residual.result c.args.out.now.items c.each.out.items c.put_account.new.out.items _ _ c.from_residual.ensures.0 c.each.invariant.out c.in_err-put_account.ensures

pub each-preserved : goal.each-preserved
each-preserved c = record {
  number = omega arith;
  out = account_more owner.Instance c.args.accounts.now c.each.account-index c.each.number c.args.out.now.items c.each.out.items c.put_account.new.out.items c.each-test.true c.each.invariant.number c.each.invariant.out c.in_ok-put_account.ensures;
}
