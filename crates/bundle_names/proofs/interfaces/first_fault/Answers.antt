use Rattle.std.proofs.Common.{◌≡◌, Some, length, refl, arith}
use Rattle.std.specs.Prelude.{slice_get}
use Rattle.std.proofs.lemmas.Option.{slice_get_read}
use Rattle.bundle_names.proofs.InterfaceScan.{has_room, scan_goes, scan_finds, scan_ends}
use Rattle.bundle_names.proofs.interfaces.first_fault.Goals as goal

pub returns-in-Some : goal.returns-in-Some
returns-in-Some c =
    let here : slice_get c.args.lines.now c.lines.line-index ≡ Some c.line-item.result = slice_get_read c.args.lines.now (length c.args.lines.now) c.lines.line-index c.line-item.result refl c.lines-test.true c.line-item.is in
    scan_finds c.args.lines.now c.lines.line-index c.line-item.result c.lines.given c.args.structs.now c.args.traits.now c.in_ok-rule.rule c.in-Some.rule c.refused.result c.requires.rises c.lines.invariant here c.requires.structs c.requires.traits c.in-Some.is c.in_ok-rule.ensures.rule c.refused.ensures

pub lines-preserved : goal.lines-preserved
lines-preserved c =
    let here : slice_get c.args.lines.now c.lines.line-index ≡ Some c.line-item.result = slice_get_read c.args.lines.now (length c.args.lines.now) c.lines.line-index c.line-item.result refl c.lines-test.true c.line-item.is in
    scan_goes c.args.lines.now c.lines.line-index c.line-item.result c.lines.given c.rule_of.new.self c.args.structs.now c.args.traits.now c.in_ok-rule.rule c.lines.invariant here c.requires.structs c.requires.traits c.in_default.is c.in_ok-rule.ensures.rule c.in_ok-rule.ensures.behind

pub returns : goal.returns
returns c = (scan_ends c.args.lines.now c.lines.line-index c.lines.given (omega arith) c.lines.invariant, tt)

pub rule_of-requires : goal.rule_of-requires
rule_of-requires c = has_room c.args.lines.now c.lines.line-index c.lines.given c.lines.invariant (omega (arith, c.lines-test.true, c.requires.few))
