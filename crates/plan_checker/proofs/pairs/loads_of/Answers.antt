use Rattle.std.proofs.Common.{◌≡◌, Some, length, refl, ap, arith, slice_get}
use Rattle.std.proofs.lemmas.Option.{slice_get_read}
use Rattle.rl_defs.specs.BundleNames.{load_given, domains_loaded}
use Rattle.plan_checker.proofs.Forms.{no_load}
use Rattle.plan_checker.proofs.Pairing.{pairs_first, pairs_more, pairs_none, pairs_all}
use Rattle.plan_checker.proofs.pairs.loads_of.Goals as goal
use Rattle.plan_checker.proofs.pairs.loads_of.Goals.{in-Load+in_ok-put, in_default}

pub lines-init : goal.lines-init
lines-init c = pairs_first load_given domains_loaded c.args.lines.now c.no_pairs-pairs.result.names c.no_pairs-pairs.result.others c.no_pairs-pairs.ensures.names c.no_pairs-pairs.ensures.others

pub put-requires : goal.put-requires
put-requires c = omega (arith, c.lines.invariant.names_are.few, c.lines-test.true, c.requires)

pub lines-preserved : goal.lines-preserved
lines-preserved c =
    let here : slice_get c.args.lines.now c.lines.line-index ≡ Some c.line-item.result = slice_get_read c.args.lines.now (length c.args.lines.now) c.lines.line-index c.line-item.result refl c.lines-test.true c.line-item.is in
    elim c.match-line.branch [
      | in-Load+in_ok-put w ↦ rw w.pairs-is (pairs_more load_given domains_loaded c.args.lines.now c.lines.line-index c.line-item.result w.in-Load.name w.in-Load.domain c.lines.pairs.names c.lines.pairs.others w.put.new.pairs.names w.put.new.pairs.others c.lines.invariant here (ap load_given w.in-Load.is) (ap domains_loaded w.in-Load.is) w.in_ok-put.ensures.names w.in_ok-put.ensures.others w.in_ok-put.ensures.named)
      | in_default w ↦ rw w.pairs-is (let none = no_load c.line-item.result.form (λ name domain e. w.in_default.not-Load name domain e) in pairs_none load_given domains_loaded c.args.lines.now c.lines.line-index c.line-item.result c.lines.pairs.names c.lines.pairs.others c.lines.invariant here none.name none.domain)
    ]

pub returns : goal.returns
returns c = pairs_all load_given domains_loaded c.args.lines.now c.lines.line-index c.lines.pairs.names c.lines.pairs.others c.lines.invariant (omega arith) (omega arith) c.requires
