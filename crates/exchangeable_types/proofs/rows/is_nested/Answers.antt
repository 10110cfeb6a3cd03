use Rattle.std.proofs.Common.{Bool, ◌∷◌, [], get_or, arith, subst}
use Rattle.std.proofs.lemmas.Option.{slice_get-get_or}
use Rattle.rl_defs.specs.declared.tables.Kind.TheVariants as kind
use Rattle.rl_defs.specs.declared.tables.Width.TheVariants as width
use Rattle.exchangeable_types.specs.Rows.{IsNested}
use Rattle.exchangeable_types.proofs.RowLaws.{none_first, none_more, none_at_all, nested_found}
use Rattle.exchangeable_types.proofs.rows.is_nested.Goals as goal

pub kinds-init : goal.kinds-init
kinds-init c = record { searching = c.requires; none = none_first c.args.part.now.lines.now c.args.kinds.now }

pub kinds-preserved : goal.kinds-preserved
kinds-preserved c =
    let answer = subst (λ (b : Bool). IsNested c.args.part.now.lines.now (get_or c.args.kinds.now c.kinds.kind-index (kind.Num width.Bool) ∷ []) c.is_nested_kind.new.seen.items b) c.if-branch.false c.in_ok-is_nested_kind.ensures in
    record {
      searching = answer.0;
      none = none_more c.args.part.now.lines.now c.args.kinds.now c.kinds.kind-index (get_or c.args.kinds.now c.kinds.kind-index (kind.Num width.Bool)) c.kinds.invariant.none (slice_get-get_or c.args.kinds.now c.kinds.kind-index (kind.Num width.Bool) c.kinds-test.true) answer.1;
    }

pub returns-then-branch : goal.returns-then-branch
returns-then-branch c =
    let answer = subst (λ (b : Bool). IsNested c.args.part.now.lines.now (get_or c.args.kinds.now c.kinds.kind-index (kind.Num width.Bool) ∷ []) c.is_nested_kind.new.seen.items b) c.if-branch.true c.in_ok-is_nested_kind.ensures in
    nested_found c.args.part.now.lines.now c.args.kinds.now c.kinds.kind-index (get_or c.args.kinds.now c.kinds.kind-index (kind.Num width.Bool)) (slice_get-get_or c.args.kinds.now c.kinds.kind-index (kind.Num width.Bool) c.kinds-test.true) answer

pub returns : goal.returns
returns c = (c.kinds.invariant.searching, none_at_all c.args.part.now.lines.now c.args.kinds.now c.kinds.kind-index (omega arith) c.kinds.invariant.none)
