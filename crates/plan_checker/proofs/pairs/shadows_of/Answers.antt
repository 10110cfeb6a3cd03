use Rattle.std.proofs.Common.{◌≡◌, Some, length, refl, ap, arith, slice_get}
use Rattle.std.proofs.lemmas.Option.{slice_get_read}
use Rattle.rl_defs.specs.BundleNames.{shadow_given, shadowed}
use Rattle.plan_checker.proofs.Forms.{no_shadow}
use Rattle.plan_checker.proofs.Pairing.{pairs_first, pairs_more, pairs_none, pairs_all}
use Rattle.plan_checker.proofs.pairs.shadows_of.Goals as goal
use Rattle.plan_checker.proofs.pairs.shadows_of.Goals.{in-Shadow+in_ok-put, in_default}

pub lines-init : goal.lines-init
lines-init c = pairs_first shadow_given shadowed c.args.lines.now c.no_pairs-pairs.result.names c.no_pairs-pairs.result.others c.no_pairs-pairs.ensures.names c.no_pairs-pairs.ensures.others

pub put-requires : goal.put-requires
put-requires c = omega (arith, c.lines.invariant.names_are.few, c.lines-test.true, c.requires)

pub lines-preserved : goal.lines-preserved
lines-preserved c =
    let here : slice_get c.args.lines.now c.lines.line-index ≡ Some c.line-item.result = slice_get_read c.args.lines.now (length c.args.lines.now) c.lines.line-index c.line-item.result refl c.lines-test.true c.line-item.is in
    elim c.match-line.branch [
      | in-Shadow+in_ok-put w ↦ rw w.pairs-is (pairs_more shadow_given shadowed c.args.lines.now c.lines.line-index c.line-item.result w.in-Shadow.name w.in-Shadow.load c.lines.pairs.names c.lines.pairs.others w.put.new.pairs.names w.put.new.pairs.others c.lines.invariant here (ap shadow_given w.in-Shadow.is) (ap shadowed w.in-Shadow.is) w.in_ok-put.ensures.names w.in_ok-put.ensures.others w.in_ok-put.ensures.named)
      | in_default w ↦ rw w.pairs-is (let none = no_shadow c.line-item.result.form (λ name load restarts e. w.in_default.not-Shadow name load restarts e) in pairs_none shadow_given shadowed c.args.lines.now c.lines.line-index c.line-item.result c.lines.pairs.names c.lines.pairs.others c.lines.invariant here none.name none.load)
    ]

pub returns : goal.returns
returns c = pairs_all shadow_given shadowed c.args.lines.now c.lines.line-index c.lines.pairs.names c.lines.pairs.others c.lines.invariant (omega arith) (omega arith) c.requires
