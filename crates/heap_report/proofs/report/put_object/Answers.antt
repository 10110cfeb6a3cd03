use Rattle.std.proofs.Common.{◌++◌, ℕ, List, [], ap, ◌∙◌}
use Rattle.std.specs.Fmt.{decimal}
use Rattle.machine_defs.specs.declared.values.Owner.{Owner}
use Rattle.machine_defs.specs.Texts.{line, word, object_text, owner_text, struct_name}
use Rattle.heap_report.proofs.Lines.{object_words, both, puts_after}
use Rattle.heap_report.proofs.report.put_object.Goals as goal

pub returns : goal.returns
returns c =
    let out = c.args.out.now.items in
    let o = object_text c.args.row.number in
    let l = decimal c.args.row.loans in
    let two = both out c.put_object_number.new.out.items c.put_word.new.out.items _ _ c.in_ok-put_object_number.ensures c.in_ok-put_word.ensures in
    let three = both out c.put_word.new.out.items c.put_owner_word.new.out.items _ _ two c.in_ok-put_owner_word.ensures in
    let four = both out c.put_owner_word.new.out.items c.put_number_word.new.out.items _ _ three c.in_ok-put_number_word.ensures in
    puts_after c.put.result out c.put_number_word.new.out.items c.put.new.out.items _ _ _ four c.put.ensures
    (object_words o c.struct_name.result.now (owner_text c.owner.result) l
    ∙ (ap (λ (x : List ℕ). line (o ++ word x (word (owner_text c.owner.result) (word l [])))) c.struct_name.ensures
    ∙ ap (λ (x : Owner). line (o ++ word (struct_name c.args.load.now c.args.row.ty) (word (owner_text x) (word l [])))) c.owner.ensures))
