use Rattle.std.proofs.Common.{◌≡◌, ℕ, ◌++◌, List, subst}
use Rattle.std.specs.Prelude.{OnOk, codes}
use Rattle.std.specs.Fmt.{decimal}
use Rattle.refusal_notes.proofs.Shown.{three_parts}
use Rattle.refusal_notes.proofs.note.put_section.Goals as goal

pub returns : goal.returns
returns c =
    let number = subst (λ (n : ℕ). c.put_number.new.out.items ≡ c.put.new.out.items ++ decimal n) c.from.ensures c.in_ok-put_number.ensures in
    let all = three_parts c.args.out.now.items (codes "see docs/RULES.md#rule-") (decimal c.args.rule) (codes "\n") c.put.new.out.items c.put_number.new.out.items c.in_ok-put.ensures number in
    subst (λ (o : List ℕ). OnOk c.put-2.result (c.put-2.new.out.items ≡ o)) all c.put-2.ensures
