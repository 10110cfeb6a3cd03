use Rattle.std.proofs.Common.{◌≡◌, Some, length, refl, ap, arith, slice_get}
use Rattle.std.proofs.lemmas.Option.{slice_get_read}
use Rattle.rl_defs.specs.BundleNames.{domains_loaded}
use Rattle.plan_checker.proofs.Forms.{no_load}
use Rattle.plan_checker.proofs.Steps.{names_first, names_more, names_none, names_all}
use Rattle.plan_checker.proofs.pairs.loaded_of.Goals as goal
use Rattle.plan_checker.proofs.pairs.loaded_of.Goals.{in-Load+in_ok-add, in_default}

pub lines-init : goal.lines-init
lines-init c = names_first domains_loaded c.args.lines.now c.new-names.result c.new-names.ensures

pub add-requires : goal.add-requires
add-requires c = omega (arith, c.lines.invariant.few, c.lines-test.true, c.requires)

pub lines-preserved : goal.lines-preserved
lines-preserved c =
    let here : slice_get c.args.lines.now c.lines.line-index ≡ Some c.line-item.result = slice_get_read c.args.lines.now (length c.args.lines.now) c.lines.line-index c.line-item.result refl c.lines-test.true c.line-item.is in
    elim c.match-line.branch [
      | in-Load+in_ok-add w ↦ rw w.names-is (names_more domains_loaded c.args.lines.now c.lines.line-index c.line-item.result w.in-Load.domain c.lines.names w.add.new.self c.lines.invariant here (ap domains_loaded w.in-Load.is) w.in_ok-add.ensures.added)
      | in_default w ↦ rw w.names-is (names_none domains_loaded c.args.lines.now c.lines.line-index c.line-item.result c.lines.names c.lines.invariant here (no_load c.line-item.result.form (λ name domain e. w.in_default.not-Load name domain e)).domain)
    ]

pub returns : goal.returns
returns c = names_all domains_loaded c.args.lines.now c.lines.line-index c.lines.names c.lines.invariant (omega arith)
