use Rattle.std.proofs.Common.{◌≡◌, ◌<◌, length, arith, ap, ◌∙◌}
use Rattle.heap_report.specs.declared.objects.ObjectRecord.{ObjectRecord}
use Rattle.heap_report.specs.KeptObjects.{record_at, told, holder}
use Rattle.heap_report.proofs.Counted.{may_take, few_below, known_row, same_counts, change_counted}
use Rattle.heap_report.proofs.objects.ObjectRecords.change.Goals as goal

pub take_below-requires : goal.take_below-requires
take_below-requires c = λ o. may_take c.args.self.now.rows.items c.make_room.new.self.rows.items c.args.self.now.made c.make_room.new.self.made c.args.object o c.holder.result c.at-before.result c.make_room.ensures.made c.make_room.ensures.same c.holder.ensures c.at-before.ensures c.requires.counted

pub add_below-requires : goal.add_below-requires
add_below-requires c = λ o. omega (arith, few_below c.args.self.now.rows.items c.args.self.now.made o c.requires.counted, c.take_below.ensures.below o, ap (λ (r : ObjectRecord). r.below) (c.make_room.ensures.same o))

pub returns-clause-counted : goal.returns-clause-counted
returns-clause-counted c = λ o.
    let old = c.args.self.now.rows.items in
    let made = c.args.self.now.made in
    let rows = c.add_below.new.self.rows.items in
    let row = c.index_mut-row.result.now in
    let v = c.args.object in
    let within : v < length rows = omega (arith, c.in_ok-make_room.ensures.room, c.take_below.ensures.room, c.add_below.ensures.room) in
    let before : c.holder.result ≡ holder (record_at old v).parent (record_at old v).gone = c.holder.ensures ∙ ap (λ (r : ObjectRecord). holder r.parent r.gone) (c.at-before.ensures ∙ c.make_room.ensures.same v) in
    let taken = same_counts made c.make_room.new.self.made v o _ _ c.make_room.ensures.made before in
    let added = same_counts made c.take_below.new.self.made v o _ _ (c.take_below.ensures.made ∙ c.make_room.ensures.made) c.holder-2.ensures in
    change_counted old rows made c.add_below.new.self.made v o (record { receiver = row.receiver; parent = c.args.parent; gone = c.args.gone; below = row.below }) within
    (c.add_below.ensures.made ∙ (c.take_below.ensures.made ∙ c.make_room.ensures.made))
    (λ u. c.add_below.ensures.told u ∙ (c.take_below.ensures.told u ∙ ap told (c.make_room.ensures.same u)))
    (ap (λ (r : ObjectRecord). r.below) (known_row rows v row within c.index_mut-row.ensures.value))
    (omega (arith, c.in_ok-add_below.ensures.below o, c.take_below.ensures.below o, ap (λ (r : ObjectRecord). r.below) (c.make_room.ensures.same o), taken, added))
    c.requires.counted
