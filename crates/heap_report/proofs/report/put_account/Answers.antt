use Rattle.std.proofs.Common.{sym, ◌∙◌}
use Rattle.heap_report.specs.KeptAccounts.{told}
use Rattle.heap_report.proofs.Lines.{some_line, both, puts_after}
use Rattle.heap_report.proofs.report.put_account.Goals as goal

pub returns : goal.returns
returns c =
    let two = both c.args.out.now.items c.put_owner.new.out.items c.put_counts.new.out.items _ _ c.in_ok-put_owner.ensures c.in_ok-put_counts.ensures in
    puts_after c.put.result c.args.out.now.items c.put_counts.new.out.items c.put.new.out.items _ _ _ two c.put.ensures (some_line c.args.owner (told c.args.account) (sym c.is_empty.ensures ∙ c.if-is_empty.false))
