use Rattle.std.proofs.Common.{◌≡◌, ◌∙◌, ap, sym}
use Rattle.trampolines.proofs.Tops.{top_got_is}
use Rattle.trampolines.proofs.stack.Stack.top.Goals as goal

pub returns : goal.returns
returns g c = top_got_is _ _ _ (c.deref.ensures.value ∙ c.self.view_is) c.last.ensures.value
