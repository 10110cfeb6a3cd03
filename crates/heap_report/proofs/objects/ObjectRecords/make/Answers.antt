use Rattle.std.proofs.Common.{◌≡◌, ◌+◌, ℕ, length, arith, sym, ap, ◌∙◌, subst}
use Rattle.heap_report.specs.declared.objects.ObjectRecord.{ObjectRecord}
use Rattle.heap_report.specs.KeptObjects.{record_at, holder, hung_in}
use Rattle.heap_report.proofs.Counted.{few_below, make_counted}
use Rattle.heap_report.proofs.objects.ObjectRecords.make.Goals as goal

pub add_below-requires : goal.add_below-requires
add_below-requires c = λ o. omega (arith, few_below c.args.self.now.rows.items c.args.self.now.made o c.requires.counted)

pub returns-clause-counted : goal.returns-clause-counted
returns-clause-counted c = λ o.
    let old = c.args.self.now.rows.items in
    let made = c.args.self.now.made in
    let rows = c.add_below.new.self.rows.items in
    let is : c.holder.result ≡ holder (record_at old (made + 1)).parent (record_at old (made + 1)).gone = c.holder.ensures ∙ ap (λ (r : ObjectRecord). holder r.parent r.gone) c.at-row.ensures in
    let counted = make_counted old rows made o c.holder.result (λ u. c.add_below.ensures.told u) is (c.in_ok-add_below.ensures.below o) c.requires.counted in
    subst (λ (m : ℕ). (record_at rows o).below ≡ length (hung_in rows m o)) (sym c.add_below.ensures.made) counted
