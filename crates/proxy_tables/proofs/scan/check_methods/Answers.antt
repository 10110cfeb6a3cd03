use Rattle.std.proofs.Common.{◌≡◌, ℕ, Bool, Option, Some, None, ◌+◌, length, refl, sym, ap, subst, arith}
use Rattle.std.specs.Prelude.{slice_get}
use Rattle.std.proofs.lemmas.Option.{slice_get_read}
use Rattle.rl_defs.specs.Interfaces.{Lines}
use Rattle.proxy_tables.specs.Scan.{IsLowestAt}
use Rattle.proxy_tables.proofs.Scanning.{ScanTo, scan_goes, scan_finds, scan_ends, refused_answers}
use Rattle.proxy_tables.proofs.scan.check_methods.Goals as goal

pub returns-in-Some : goal.returns-in-Some
returns-in-Some c =
    let here = subst (λ (xs : Lines). slice_get xs c.lines.line-index ≡ Some c.line-item.result) c.as_slice-line-items.ensures (slice_get_read c.as_slice-line-items.result.now (length c.as_slice-line-items.result.now) c.lines.line-index c.line-item.result refl c.lines-test.true c.line-item.is) in
    let lowest = subst (λ (o : Option ℕ). IsLowestAt c.args.part.now.lines.now c.lines.marked c.line-item.result.form o) c.in-Some.is c.in_ok-rule.ensures in
    let there = subst (λ (xs : Lines). IsLowestAt xs c.lines.marked c.line-item.result.form (Some c.in-Some.rule)) c.requires.same lowest in
    refused_answers {X = Unit {0}} c.args.idl.now (λ _. Unit {0}) c.refused.result c.line-item.result.line c.in-Some.rule c.refused.ensures (scan_finds c.args.idl.now c.lines.line-index c.line-item.result c.lines.marked c.in-Some.rule c.requires.rises c.lines.invariant here there)

pub lines-preserved : goal.lines-preserved
lines-preserved c =
    let here = subst (λ (xs : Lines). slice_get xs c.lines.line-index ≡ Some c.line-item.result) c.as_slice-line-items.ensures (slice_get_read c.as_slice-line-items.result.now (length c.as_slice-line-items.result.now) c.lines.line-index c.line-item.result refl c.lines-test.true c.line-item.is) in
    let lowest = subst (λ (o : Option ℕ). IsLowestAt c.args.part.now.lines.now c.lines.marked c.line-item.result.form o) c.in_default.is c.in_ok-rule.ensures in
    let there = subst (λ (xs : Lines). IsLowestAt xs c.lines.marked c.line-item.result.form None) c.requires.same lowest in
    subst (λ (b : Bool). ScanTo c.args.idl.now (c.lines.line-index + 1) b) (sym c.is_mark-marked.ensures) (scan_goes c.args.idl.now c.lines.line-index c.line-item.result c.lines.marked c.requires.rises c.lines.invariant here there)

pub returns : goal.returns
returns c = (scan_ends c.args.idl.now c.lines.line-index c.lines.marked (omega (arith, ap length c.as_slice-line-items.ensures)) c.lines.invariant, tt)
