use Rattle.std.proofs.Common.{◌≡◌, length, ◌∙◌, arith}
use Rattle.std.specs.Vec.{vec_len}
use Rattle.exchangeable_types.proofs.Capping.{filled}
use Rattle.exchangeable_types.proofs.cells.filled.Goals as goal

pub returns : goal.returns
returns c =
    let len : vec_len c.into_vec-items.result ≡ length c.into_vec-items.result.items = omega (arith, c.into_vec-items.result.ok) in
    c.from_vec.ensures ∙ filled c.args.list c.into_vec-items.result.items c.resize.new.self.items c.args.kind c.args.times _ _ c.into_vec-items.ensures len (omega (arith, c.len.ensures)) c.in_ok-resize.ensures.items
