use Rattle.std.proofs.Common.{◌≡◌, true, sym, subst}
use Rattle.machine_defs.specs.Instructions.{Outcome, Would}
use Rattle.code_machine.specs.Act.{action_of}
use Rattle.code_machine.specs.Went.{stops}
use Rattle.code_machine.proofs.Going.{line_here, work_means}
use Rattle.code_machine.proofs.act.act_at.Goals as goal

pub instr_act-requires-clause-stops : goal.instr_act-requires-clause-stops
instr_act-requires-clause-stops g c =
    let here = line_here c.lines.result.now c.args.domain.now.lines c.args.place c.index-lines-place.result c.in-Code.instr c.lines.ensures.value c.requires.fits.stand.within c.index-lines-place.is c.in-Code.is in
    subst (λ (o : Outcome). stops o ≡ true)
    (work_means c.args.domain.now (g.V.View.sight c.args.view.now) c.args.live (record { at = c.args.place; regs = c.args.registers.now }) c.index-lines-place.result.line c.in-Code.instr c.lines.ensures.keeps c.requires.fits here)
    c.requires.stops

pub returns : goal.returns
returns g c =
    let here = line_here c.lines.result.now c.args.domain.now.lines c.args.place c.index-lines-place.result c.in-Code.instr c.lines.ensures.value c.requires.fits.stand.within c.index-lines-place.is c.in-Code.is in
    subst (λ (o : Outcome). o ≡ Would (action_of c.instr_act.result))
    (sym (work_means c.args.domain.now (g.V.View.sight c.args.view.now) c.args.live (record { at = c.args.place; regs = c.args.registers.now }) c.index-lines-place.result.line c.in-Code.instr c.lines.ensures.keeps c.requires.fits here))
    c.instr_act.ensures
