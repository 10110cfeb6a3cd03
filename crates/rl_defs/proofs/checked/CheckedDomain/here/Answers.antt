use Rattle.std.proofs.Common.{subst, sym}
use Rattle.rl_defs.specs.LineRows.{LeadsHere}
use Rattle.rl_defs.specs.Checked.{emptied_on}
use Rattle.rl_defs.proofs.CheckedRows.{row_of}
use Rattle.rl_defs.proofs.checked.CheckedDomain.here.Goals as goal

pub returns : goal.returns
returns c =
    let row = row_of _ c.args.self.now c.self.inside.rows.items c.self.inside.emptied.items c.self.inside.entries.items c.self.view_is c.self.invariant c.args.place c.index.result.now c.requires c.index.ensures in
    subst (λ pool. LeadsHere c.args.self.now c.args.place c.index.result.now.here.line (emptied_on pool c.index.result.now.here)) (sym c.deref.ensures.value) row.here
