use Rattle.std.proofs.Common.{◌-◌, ◌^◌, arith}
use Rattle.machine_defs.specs.Report.{same_owner}
use Rattle.heap_report.specs.KeptAccounts.{most, plus, nothing, share}
use Rattle.heap_report.specs.Counting.{one_freed}
use Rattle.heap_report.proofs.Growing.{grown, grown_twice, at_most_more, share_within, freed_more}
use Rattle.heap_report.proofs.counting.count_dropped.Goals as goal

pub each-preserved : goal.each-preserved
each-preserved c =
    let owner = c.owner.result in
    record {
      grows = grown_twice c.args.accounts.now c.each.accounts c.count_freed.new.accounts _ _ _ c.each.invariant.grows c.count_freed.ensures (λ w. freed_more c.args.objects.now.rows.items c.as_slice-object-items.result.now c.each.object-index 0 owner w c.each-test.true c.owner.ensures);
      room = at_most_more c.count_freed.new.accounts _ _ (grown c.each.accounts c.count_freed.new.accounts (λ w. share (same_owner owner w) one_freed) one_freed (plus (most (2 ^ 31 - 2)) (record nothing { freed = c.each.object-index })) c.count_freed.ensures (λ w. share_within (same_owner owner w) one_freed) c.each.invariant.room)
          (record { made = omega arith; received = omega arith; passed = omega arith; freed = omega arith });
    }
