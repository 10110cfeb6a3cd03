use Rattle.std.proofs.Common.{◌≤◌, ℕ, Option, arith, sym, ap, ◌∙◌, subst}
use Rattle.heap_report.specs.declared.objects.ObjectRecord.{ObjectRecord}
use Rattle.heap_report.specs.KeptObjects.{record_at, counts}
use Rattle.heap_report.proofs.Counted.{known, known_row, counted_here}
use Rattle.heap_report.proofs.objects.ObjectRecords.take_below.Goals as goal

pub index_mut-requires : goal.index_mut-requires
index_mut-requires c =
    let p = c.in-Some.parent in
    let one = counted_here c.args.self.now.made c.args.object p (sym c.is_made.ensures ∙ c.if-is_made.true) in
    let taken = subst (λ (h : Option ℕ). counts c.args.self.now.made c.args.object p h ≤ (record_at c.args.self.now.rows.items p).below) c.in-Some.is (c.requires p) in
    let there = known c.args.self.now.rows.items p (omega (arith, one, taken)) in
    omega (arith, there)

pub overflow_sub-index_mut : goal.overflow_sub-index_mut
overflow_sub-index_mut c =
    let p = c.in-Some.parent in
    let one = counted_here c.args.self.now.made c.args.object p (sym c.is_made.ensures ∙ c.if-is_made.true) in
    let taken = subst (λ (h : Option ℕ). counts c.args.self.now.made c.args.object p h ≤ (record_at c.args.self.now.rows.items p).below) c.in-Some.is (c.requires p) in
    let there = known c.args.self.now.rows.items p (omega (arith, one, taken)) in
    let is = known_row c.args.self.now.rows.items p c.index_mut.result.now there c.index_mut.ensures.value in
    omega (arith, one, taken, ap (λ (r : ObjectRecord). r.below) is)
