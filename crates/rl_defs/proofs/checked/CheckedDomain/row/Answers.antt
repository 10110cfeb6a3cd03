use Rattle.rl_defs.proofs.CheckedRows.{row_of}
use Rattle.rl_defs.proofs.checked.CheckedDomain.row.Goals as goal

pub returns : goal.returns
returns c = (row_of _ c.args.self.now c.self.inside.rows.items c.self.inside.emptied.items c.self.inside.entries.items c.self.view_is c.self.invariant c.args.place c.index.result.now c.requires c.index.ensures).names
