use Rattle.worked_runs.proofs.OppositeOrders.{opposite_orders_is_worked}
use Rattle.worked_runs.proofs.opposite_orders.Goals as goal

pub returns : goal.returns
returns c = opposite_orders_is_worked
