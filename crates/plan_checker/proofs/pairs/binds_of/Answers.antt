use Rattle.std.proofs.Common.{◌≡◌, Some, length, refl, arith, slice_get}
use Rattle.std.proofs.lemmas.Option.{slice_get_read}
use Rattle.indexmap.specs.IndexMap.{get}
use Rattle.plan_checker.specs.Tables.{same_pair}
use Rattle.plan_checker.proofs.Pairing.{binds_more, binds_none, binds_bound, binds_named}
use Rattle.plan_checker.proofs.pairs.binds_of.Goals as goal
use Rattle.plan_checker.proofs.pairs.binds_of.Goals.{in-Bind+in_ok-bind, in_default}

pub lines-preserved : goal.lines-preserved
lines-preserved c =
    let here : slice_get c.args.lines.now c.lines.line-index ≡ Some c.line-item.result = slice_get_read c.args.lines.now (length c.args.lines.now) c.lines.line-index c.line-item.result refl c.lines-test.true c.line-item.is in
    elim c.match-line.branch [
      | in-Bind+in_ok-bind w ↦ rw w.binds-is (binds_more (λ q r. get same_pair c.lines.binds (q, r)) (λ q r. get same_pair w.bind.new.binds (q, r)) c.args.lines.now c.lines.line-index c.line-item.result w.in-Bind.load w.in-Bind.import w.in-Bind.target c.lines.invariant here w.in-Bind.is (λ q r. w.in_ok-bind.ensures.noted q r) w.in_ok-bind.ensures.named)
      | in_default w ↦ rw w.binds-is (binds_none (λ q r. get same_pair c.lines.binds (q, r)) c.args.lines.now c.lines.line-index c.line-item.result c.lines.invariant here (λ load import target e. w.in_default.not-Bind load import target e))
    ]

pub returns : goal.returns
returns c = record {
  bound = λ q r. binds_bound (λ q r. get same_pair c.lines.binds (q, r)) c.args.lines.now c.lines.line-index c.lines.invariant (omega arith) q r;
  named = binds_named (λ q r. get same_pair c.lines.binds (q, r)) c.args.lines.now c.lines.line-index c.lines.invariant (omega arith);
}
