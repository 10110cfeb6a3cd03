use Rattle.std.proofs.Common.{length, arith, refl, sym, ◌∙◌}
use Rattle.std.proofs.lemmas.Option.{slice_get_read}
use Rattle.exchangeable_types.proofs.Checks.{good_more, good_all, bad_found}
use Rattle.exchangeable_types.proofs.check.first_bad.Goals as goal

pub returns-then-has_bad_type : goal.returns-then-has_bad_type
returns-then-has_bad_type c =
    let here = slice_get_read c.args.lines.now (length c.args.lines.now) c.lines.line-index c.line-item.result refl c.lines-test.true c.line-item.is in
    bad_found c.args.lines.now c.lines.line-index c.line-item.result c.requires c.lines.invariant here (sym c.has_bad_type.ensures ∙ c.if-has_bad_type.true)

pub lines-preserved : goal.lines-preserved
lines-preserved c =
    let here = slice_get_read c.args.lines.now (length c.args.lines.now) c.lines.line-index c.line-item.result refl c.lines-test.true c.line-item.is in
    good_more c.args.lines.now c.lines.line-index c.line-item.result c.lines.invariant here (sym c.has_bad_type.ensures ∙ c.if-has_bad_type.false)

pub returns : goal.returns
returns c = good_all c.args.lines.now c.lines.line-index (omega arith) c.lines.invariant
