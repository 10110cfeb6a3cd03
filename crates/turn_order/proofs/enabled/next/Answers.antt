use Rattle.turn_order.proofs.Going.{next_ahead, next_round}
use Rattle.turn_order.proofs.enabled.next.Goals as goal

pub returns-in-Some : goal.returns-in-Some
returns-in-Some c = next_ahead c.args.order.now c.args.enabled.now c.args.from c.in-Some.place c.in-Some.ensures.found c.in-Some.ensures.first

pub returns-in-None : goal.returns-in-None
returns-in-None c = next_round c.args.order.now c.args.enabled.now c.args.from c.first_on-in-None.result c.requires.within c.in-None.ensures.first
    c.first_on-in-None.ensures.found c.first_on-in-None.ensures.first
