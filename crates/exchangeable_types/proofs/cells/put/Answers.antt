use Rattle.std.proofs.Common.{◌<◌, ◌≤◌, ◌+◌, ◌*◌, length, subst, arith}
use Rattle.exchangeable_types.specs.declared.cells.Cells.{Cells}
use Rattle.exchangeable_types.specs.Capped.{IsCapped}
use Rattle.exchangeable_types.proofs.Capping.{over_more, few_more}
use Rattle.exchangeable_types.proofs.cells.put.Goals as goal

pub returns-in_ok-extended-in-Few : goal.returns-in_ok-extended-in-Few
returns-in_ok-extended-in-Few c = λ before n h e.
    let kept = subst (λ (x : Cells). IsCapped c.args.limit before x) c.in-Few.is h in
    let room : length c.in-Few.list + length c.args.kinds.now * c.args.times ≤ c.args.limit = omega (arith, c.len.ensures) in
    few_more c.args.limit c.args.times n c.in-Few.list before c.args.kinds.now c.in_ok-extended-in-Few.field-0 c.requires.low e kept.0 room c.in_ok-extended-in-Few.ensures

pub returns-then-len-kinds : goal.returns-then-len-kinds
returns-then-len-kinds c = λ before n h e.
    let kept = subst (λ (x : Cells). IsCapped c.args.limit before x) c.in-Few.is h in
    let over : c.args.limit < length c.in-Few.list + length c.args.kinds.now * c.args.times = omega (arith, c.len.ensures) in
    over_more c.args.limit c.args.times n c.in-Few.list before c.args.kinds.now e kept.0 over
