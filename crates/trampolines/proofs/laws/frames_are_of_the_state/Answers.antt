use Rattle.std.proofs.Common.{◌≡◌, ◌∙◌, List, refl, ap, sym}
use Rattle.machine_defs.specs.State.{StackFrame}
use Rattle.trampolines.proofs.Agreeing.{same_height}
use Rattle.trampolines.proofs.laws.frames_are_of_the_state.Goals as goal

pub returns : goal.returns
returns g c = λ all same. same_height _ all _ _ _ same c.depth.ensures.value refl
