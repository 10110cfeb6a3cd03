use Rattle.std.proofs.Common.{◌∙◌, ap, sym, subst}
use Rattle.machine_defs.specs.Runs.{order_of}
use Rattle.machine_steps.specs.Kept.{Kept}
use Rattle.machine_steps.specs.Turns.{TurnAnswers}
use Rattle.domain_machine.proofs.Going.{turn_keeps_load}
use Rattle.domain_machine.proofs.world.World.turn.Goals as goal

-- the load stays, and so its order list
pub invariant_of-self : goal.invariant_of-self
invariant_of-self c = c.self.invariant ∙ ap order_of (sym (turn_keeps_load c.self.inside.machine c.turn.new.self c.args.t c.turn.result c.turn.ensures))

pub returns : goal.returns
returns c =
    let P : Kept → Type 0 = λ w. TurnAnswers w c.turn.new.self c.args.t c.turn.result in
    subst P c.self.view_is c.turn.ensures
