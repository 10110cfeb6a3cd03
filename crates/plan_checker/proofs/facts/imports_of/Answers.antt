use Rattle.std.proofs.Common.{◌≡◌, Some, length, refl, arith, slice_get}
use Rattle.std.proofs.lemmas.Option.{slice_get_read}
use Rattle.plan_checker.specs.Facts.{import_names, import_traits}
use Rattle.plan_checker.proofs.Gathering.{gather_all}
use Rattle.plan_checker.proofs.Steps.{imports_first, imports_more, imports_none}
use Rattle.plan_checker.proofs.facts.imports_of.Goals as goal
use Rattle.plan_checker.proofs.facts.imports_of.Goals.{in-Import+in_ok-put, in_default}

pub lines-init : goal.lines-init
lines-init c = imports_first c.args.lines.now c.new.result c.new-2.result c.new-3.result c.new.ensures c.new-2.ensures c.new-3.ensures

pub put-requires : goal.put-requires
put-requires c = omega (arith, c.lines.invariant.few, c.lines-test.true, c.requires)

pub lines-preserved : goal.lines-preserved
lines-preserved c =
    let here : slice_get c.args.lines.now c.lines.line-index ≡ Some c.line-item.result = slice_get_read c.args.lines.now (length c.args.lines.now) c.lines.line-index c.line-item.result refl c.lines-test.true c.line-item.is in
    elim c.match-line.branch [
      | in-Import+in_ok-put w ↦ rw w.imports-is (imports_more c.args.lines.now c.lines.line-index c.line-item.result w.in-Import.name w.in-Import.has c.lines.imports.places c.lines.imports.names c.lines.imports.traits w.put.new.imports.places w.put.new.imports.names w.put.new.imports.traits c.lines.invariant here w.in-Import.is w.in_ok-put.ensures.places w.in_ok-put.ensures.names w.in_ok-put.ensures.traits)
      | in_default w ↦ rw w.imports-is (imports_none c.args.lines.now c.lines.line-index c.line-item.result c.lines.imports.places c.lines.imports.names c.lines.imports.traits c.lines.invariant here (λ name has e. w.in_default.not-Import name has e))
    ]

pub returns : goal.returns
returns c = record {
  places = gather_all import_names c.args.lines.now c.lines.line-index c.lines.imports.places c.lines.invariant.places_are (omega arith) refl;
  names = gather_all import_names c.args.lines.now c.lines.line-index c.lines.imports.names c.lines.invariant.names_are (omega arith) refl;
  traits = gather_all import_traits c.args.lines.now c.lines.line-index c.lines.imports.traits c.lines.invariant.traits_are (omega arith) refl;
}
