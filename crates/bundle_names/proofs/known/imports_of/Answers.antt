use Rattle.std.proofs.Common.{◌≡◌, Some, length, refl, ◌∙◌, arith}
use Rattle.std.specs.Prelude.{slice_get}
use Rattle.std.proofs.lemmas.Option.{slice_get_read}
use Rattle.rl_defs.specs.BundleNames.{given_by, names_of, import_given}
use Rattle.bundle_names.proofs.Listing.{listed_more, listed_all, imports_given}
use Rattle.bundle_names.proofs.known.imports_of.Goals as goal

pub lines-preserved : goal.lines-preserved
lines-preserved c =
    let here : slice_get c.args.lines.now c.lines.line-index ≡ Some c.line-item.result = slice_get_read c.args.lines.now (length c.args.lines.now) c.lines.line-index c.line-item.result refl c.lines-test.true c.line-item.is in
    listed_more import_given c.args.lines.now c.lines.line-index c.line-item.result (names_of (given_by import_given c.args.lines.now)) c.lines.names c.put_import.new.names here c.lines.invariant c.in_ok-put_import.ensures

pub returns : goal.returns
returns c = listed_all import_given c.args.lines.now c.lines.line-index (names_of (given_by import_given c.args.lines.now)) c.lines.names (omega arith) c.lines.invariant ∙ imports_given c.args.lines.now
