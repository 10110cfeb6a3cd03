use Rattle.std.proofs.Common.{◌∷◌, [], sym}
use Rattle.exchangeable_types.specs.Rows.{IsNested}
use Rattle.exchangeable_types.specs.Nesting.{IsNesting}
use Rattle.exchangeable_types.proofs.RowLaws.{ok_maps}
use Rattle.exchangeable_types.proofs.Nests.{nesting_kind, nesting_none}
use Rattle.exchangeable_types.proofs.nesting.is_nesting.Goals as goal

pub returns-in-Some : goal.returns-in-Some
returns-in-Some c = ok_maps c.is_nested_kind.result (IsNested c.args.part.now.lines.now (c.in-Some.kind ∷ []) c.is_nested_kind.new.seen.items) (IsNesting c.args.part.now.lines.now c.args.ty.now c.is_nested_kind.new.seen.items) c.is_nested_kind.ensures (λ found h. nesting_kind c.args.part.now.lines.now c.args.ty.now c.in-Some.kind c.is_nested_kind.new.seen.items found (sym c.in-Some.ensures) h)

pub returns-in-None : goal.returns-in-None
returns-in-None c = nesting_none c.args.part.now.lines.now c.args.ty.now c.args.seen.now.items (sym c.in-None.ensures) c.requires
