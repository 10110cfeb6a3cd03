use Rattle.std.proofs.Common.{◌≡◌, Some, length, refl, arith}
use Rattle.std.specs.Prelude.{slice_get}
use Rattle.std.proofs.lemmas.Option.{slice_get_read}
use Rattle.rl_defs.specs.BundleNames.{given_by, names_of, client_given}
use Rattle.bundle_names.proofs.Listing.{listed_more, listed_all}
use Rattle.bundle_names.proofs.known.client_names.Goals as goal

pub lines-preserved : goal.lines-preserved
lines-preserved c =
    let here : slice_get c.args.lines.now c.lines.line-index ≡ Some c.line-item.result = slice_get_read c.args.lines.now (length c.args.lines.now) c.lines.line-index c.line-item.result refl c.lines-test.true c.line-item.is in
    listed_more client_given c.args.lines.now c.lines.line-index c.line-item.result (names_of (given_by client_given c.args.lines.now)) c.lines.names c.put_client.new.names here c.lines.invariant c.in_ok-put_client.ensures

pub returns : goal.returns
returns c = listed_all client_given c.args.lines.now c.lines.line-index (names_of (given_by client_given c.args.lines.now)) c.lines.names (omega arith) c.lines.invariant
