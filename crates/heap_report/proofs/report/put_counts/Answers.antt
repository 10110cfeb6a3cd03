use Rattle.heap_report.specs.KeptAccounts.{told}
use Rattle.heap_report.proofs.Lines.{account_words, both, puts_after}
use Rattle.heap_report.proofs.report.put_counts.Goals as goal

pub returns : goal.returns
returns c =
    let a = c.args.account in
    let two = both c.args.out.now.items c.put_count.new.out.items c.put_count-2.new.out.items _ _ c.in_ok-put_count.ensures c.in_ok-put_count-2.ensures in
    let three = both c.args.out.now.items c.put_count-2.new.out.items c.put_count-3.new.out.items _ _ two c.in_ok-put_count-3.ensures in
    puts_after c.put_count-4.result c.args.out.now.items c.put_count-3.new.out.items c.put_count-4.new.out.items _ _ _ three c.put_count-4.ensures (account_words (told a))
