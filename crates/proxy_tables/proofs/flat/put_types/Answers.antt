use Rattle.exchangeable_types.proofs.Capping.{no_cells}
use Rattle.proxy_tables.proofs.flat.put_types.Goals as goal

pub types-init : goal.types-init
types-init c = no_cells c.args.part.now.lines.now c.args.limit c.new.result c.new.ensures
