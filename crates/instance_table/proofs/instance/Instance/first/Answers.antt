use Rattle.instance_table.proofs.Firsts.{filled, first_is}
use Rattle.instance_table.proofs.instance.Instance.first.Goals as goal

pub returns : goal.returns
returns c = first_is c.args.rows.now c.args.load c.args.row.now _ _ _ _ _ c.domain_lines-lines.ensures.value c.count_of_words.ensures c.count_of_slots.ensures
    (filled _ _ _ _ _ c.new-words.ensures.items c.new-words.ensures.len c.in_ok-resize.ensures.items)
    (filled _ _ _ _ _ c.new-slots.ensures.items c.new-slots.ensures.len c.in_ok-resize-2.ensures.items)
