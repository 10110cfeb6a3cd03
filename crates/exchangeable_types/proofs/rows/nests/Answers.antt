use Rattle.std.proofs.Common.{Bool, subst}
use Rattle.exchangeable_types.specs.Rows.{IsNested}
use Rattle.exchangeable_types.specs.Nesting.{MayNest, IsNestAnswer}
use Rattle.exchangeable_types.proofs.RowLaws.{ok_maps}
use Rattle.exchangeable_types.proofs.Nests.{passed_cells, read_cells}
use Rattle.exchangeable_types.proofs.rows.nests.Goals as goal

pub returns-then-not-branch : goal.returns-then-not-branch
returns-then-not-branch c = passed_cells c.args.part.now.lines.now c.may_nest.new.seen.items c.may_nest.new.passed.items c.args.number c.args.kinds.now (subst (λ (b : Bool). MayNest c.args.part.now.lines.now c.may_nest.new.seen.items c.may_nest.new.passed.items c.args.number b) c.if-not-branch.true c.in_ok-may_nest.ensures) c.requires.flat

pub returns : goal.returns
returns c = ok_maps c.is_nested.result (IsNested c.args.part.now.lines.now c.args.kinds.now c.is_nested.new.seen.items) (IsNestAnswer c.args.part.now.lines.now c.args.kinds.now c.is_nested.new.seen.items _) c.is_nested.ensures (λ found h. read_cells c.args.part.now.lines.now c.is_nested.new.seen.items _ c.args.kinds.now found c.in_ok-passed.ensures.passing h)
