use Rattle.std.proofs.Common.{◌+◌, ◌-◌, ◌*◌, ◌^◌, ◌≤◌, false, length, ap, arith}
use Rattle.std.specs.Option.{option_map_or}
use Rattle.machine_defs.specs.Report.{same_owner, maker_at}
use Rattle.heap_report.specs.KeptAccounts.{most, nothing}
use Rattle.heap_report.specs.KeptObjects.{with_hung}
use Rattle.heap_report.specs.Counting.{made_by, passed_on, passing}
use Rattle.heap_report.proofs.Growing.{grown, at_most_more, one_within, passed_within, added_within}
use Rattle.heap_report.proofs.counting.count_entry.Goals as goal

pub count_dropped-requires-clause-room : goal.count_dropped-requires-clause-room
count_dropped-requires-clause-room c =
    let n = c.with_hung.result in
    let few : n ≤ 2 ^ 33 = omega (arith, c.with_hung.ensures.within, c.requires.few) in
    let first = grown c.args.accounts.now c.count_made.new.accounts (made_by c.args.entry.now) (record nothing { made = 1 }) (most (2 ^ 30 - 1)) c.count_made.ensures (λ w. record { made = one_within (option_map_or (same_owner w) (maker_at c.args.entry.now) false); received = omega arith; passed = omega arith; freed = omega arith }) c.requires.room in
    let second = grown c.count_made.new.accounts c.count_passing.new.accounts (passed_on c.args.from c.args.to n) (record nothing { received = n; passed = n }) _ c.count_passing.ensures (λ w. passed_within c.args.from c.args.to n w) first in
    at_most_more c.count_passing.new.accounts _ _ second (record { made = omega arith; received = omega arith; passed = omega arith; freed = omega arith })

pub returns-clause-most : goal.returns-clause-most
returns-clause-most c =
    let few : passing c.args.objects.now.rows.items c.args.objects.now.made c.args.entry.now ≤ 8 * (c.args.objects.now.made + 1) = omega (arith, c.with_hung.ensures.within, c.with_hung.ensures.value, ap (λ os. length (with_hung c.args.objects.now.rows.items c.args.objects.now.made os)) c.passing_at.ensures.value) in
    λ w. added_within c.args.objects.now.rows.items c.args.objects.now.made c.args.entry.now c.args.from c.args.to w few (omega (arith, c.dropped.ensures.few, ap length c.dropped.ensures.value))
