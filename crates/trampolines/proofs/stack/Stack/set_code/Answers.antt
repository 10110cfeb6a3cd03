use Rattle.std.proofs.Common.{◌≡◌, ◌∙◌, ◌<◌, ◌+◌, length, ap, sym, arith}
use Rattle.trampolines.proofs.Tops.{no_native, set_standing, last_place}
use Rattle.trampolines.proofs.stack.Stack.set_code.Goals as goal

pub unreachable-requires : goal.unreachable-requires
unreachable-requires g c =
    no_native c.args.self.now c.self.inside.frames.items _ c.index_mut.result.now _ _ c.requires c.self.view_is
    (last_place c.args.self.now c.self.inside.frames.items c.len-place.result c.requires c.self.view_is (omega arith)) c.index_mut.ensures.value c.in-Native.is

pub returns : goal.returns
returns g c =
    set_standing c.args.self.now c.self.inside.frames.items _ _ c.index_mut.result.now _ _ c.self.view_is
    (last_place c.args.self.now c.self.inside.frames.items c.len-place.result c.requires c.self.view_is (omega arith)) c.index_mut.ensures.value c.copy_from.ensures
