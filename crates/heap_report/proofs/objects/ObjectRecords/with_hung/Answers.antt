use Rattle.std.proofs.Common.{◌≤◌, ◌+◌, length, get_or, arith, ap, ◌∙◌}
use Rattle.std.proofs.Math.Nat.{mul-le-mul_left}
use Rattle.heap_report.specs.declared.objects.ObjectRecord.{ObjectRecord}
use Rattle.heap_report.proofs.Counted.{few_below, hung_more}
use Rattle.heap_report.proofs.objects.ObjectRecords.with_hung.Goals as goal

pub overflow_add-count : goal.overflow_add-count
overflow_add-count c =
    let few = few_below c.args.self.now.rows.items c.args.self.now.made (get_or c.as_slice-object-items.result.now c.each.object-index 0) c.requires.counted in
    omega (arith, few, ap (λ (r : ObjectRecord). r.below) c.at.ensures, c.requires.few)

pub overflow_add-count-in-each : goal.overflow_add-count-in-each
overflow_add-count-in-each c =
    let few = few_below c.args.self.now.rows.items c.args.self.now.made (get_or c.as_slice-object-items.result.now c.each.object-index 0) c.requires.counted in
    let short : c.each.object-index ≤ 8 = omega (arith, c.each-test.true, c.requires.short, ap length c.as_slice-object-items.ensures.value) in
    let most = mul-le-mul_left (c.args.self.now.made + 1) short in
    omega (arith, few, ap (λ (r : ObjectRecord). r.below) c.at.ensures, c.requires.few, most, c.each.invariant.within)

pub each-preserved : goal.each-preserved
each-preserved c =
    let o = get_or c.as_slice-object-items.result.now c.each.object-index 0 in
    let few = few_below c.args.self.now.rows.items c.args.self.now.made o c.requires.counted in
    let below = ap (λ (r : ObjectRecord). r.below) c.at.ensures ∙ c.requires.counted o in
    record {
      so_far = omega (arith, c.each.invariant.so_far, below, hung_more c.args.self.now.rows.items c.args.self.now.made c.as_slice-object-items.result.now c.each.object-index 0 c.each-test.true);
      within = omega (arith, few, ap (λ (r : ObjectRecord). r.below) c.at.ensures, c.each.invariant.within);
    }
