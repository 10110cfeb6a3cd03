use Rattle.turn_order.proofs.Going.{client_is}
use Rattle.turn_order.proofs.order.Order.client.Goals as goal

pub returns : goal.returns
returns c = client_is c.args.self.now c.self.inside.clients.items c.args.place c.args.step c.round.result c.index.result.now c.requires.place c.requires.step
    c.self.view_is c.round.ensures.value c.index.ensures
