use Rattle.std.proofs.Common.{subst, sym}
use Rattle.std.proofs.Common.{◌≡◌, ℕ, slice_get, Some}
use Rattle.rl_defs.specs.declared.code.Instr.{Instr}
use Rattle.rl_defs.specs.declared.code.DomainLine.TheVariants as line
use Rattle.rl_defs.specs.LineRows.{LeadsToLabel}
use Rattle.rl_defs.specs.Checked.{emptied_on}
use Rattle.rl_defs.proofs.CheckedRows.{row_of}
use Rattle.rl_defs.proofs.checked.CheckedDomain.jump.Goals as goal

pub returns : goal.returns
returns c =
    let row = row_of _ c.args.self.now c.self.inside.rows.items c.self.inside.emptied.items c.self.inside.entries.items c.self.view_is c.self.invariant c.args.place c.index.result.now c.requires c.index.ensures in
    subst (λ pool. (k : ℕ) (i : Instr) → slice_get c.args.self.now.lines c.args.place ≡ Some (record { line = k; form = line.Code i }) → LeadsToLabel c.args.self.now c.args.place i c.index.result.now.jump.line (emptied_on pool c.index.result.now.jump)) (sym c.deref.ensures.value) row.jump
