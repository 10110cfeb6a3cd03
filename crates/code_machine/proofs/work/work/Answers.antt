use Rattle.std.proofs.Common.{sym, subst}
use Rattle.machine_defs.specs.Instructions.{Outcome}
use Rattle.code_machine.specs.Went.{Comes}
use Rattle.code_machine.proofs.Going.{line_here, work_means}
use Rattle.code_machine.proofs.work.work.Goals as goal

pub returns : goal.returns
returns g c live =
    let here = line_here c.lines.result.now c.args.domain.now.lines c.args.place c.index-lines-place.result c.in-Code.instr c.lines.ensures.value c.requires.fits.stand.within c.index-lines-place.is c.in-Code.is in
    subst (λ (o : Outcome). Comes o c.args.registers.now c.meaning.new.registers c.meaning.result)
    (sym (work_means c.args.domain.now (g.V.View.sight c.args.view.now) live (record { at = c.args.place; regs = c.args.registers.now }) c.index-lines-place.result.line c.in-Code.instr c.lines.ensures.keeps c.requires.fits here))
    (c.meaning.ensures live)
