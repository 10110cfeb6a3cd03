use Rattle.std.proofs.Common.{subst, inl, sym, ◌∙◌, ap}
use Rattle.rl_defs.specs.CodeKinds.{kinds_at}
use Rattle.machine_defs.specs.CodeFits.{FitsAnswer}
use Rattle.code_machine.proofs.Going.{line_here}
use Rattle.code_runs.specs.Seen.{sight_of, types_of}
use Rattle.code_runs.specs.Answered.{suits_line}
use Rattle.code_runs.proofs.Answering.{one_instr}
use Rattle.code_runs.proofs.answers.answer_fits.Goals as goal

pub suits_instr-requires-clause-here : goal.suits_instr-requires-clause-here
suits_instr-requires-clause-here c = record {
  keeps = c.lines.ensures.keeps;
  number = c.index-lines-place.result.line;
  here = line_here c.lines.result.now c.args.domain.now.lines c.args.line c.index-lines-place.result c.in-Code.instr c.lines.ensures.value c.requires.stands.within c.index-lines-place.is c.in-Code.is;
}

pub returns-in-Code-clause-awaits : goal.returns-in-Code-clause-awaits
returns-in-Code-clause-awaits c so = record {
  types = types_of c.args.view.now;
  instr = c.in-Code.instr;
  at = record { number = c.index-lines-place.result.line; here = line_here c.lines.result.now c.args.domain.now.lines c.args.line c.index-lines-place.result c.in-Code.instr c.lines.ensures.value c.requires.stands.within c.index-lines-place.is c.in-Code.is };
  fits = inl c.requires.stands;
  answer = c.suits_instr.ensures.fits so;
}

pub returns-in-Code-clause-fits : goal.returns-in-Code-clause-fits
returns-in-Code-clause-fits c so i at =
    let here = line_here c.lines.result.now c.args.domain.now.lines c.args.line c.index-lines-place.result c.in-Code.instr c.lines.ensures.value c.requires.stands.within c.index-lines-place.is c.in-Code.is in
    subst (λ j. FitsAnswer (types_of c.args.view.now) c.args.domain.now (kinds_at c.args.domain.now c.args.line) j c.args.answer.now)
    (one_instr c.args.domain.now.lines c.args.line at.number c.index-lines-place.result.line i c.in-Code.instr at.here here) (c.suits_instr.ensures.fits so)

pub returns-in-Code-clause-exact : goal.returns-in-Code-clause-exact
returns-in-Code-clause-exact c =
    let here = line_here c.lines.result.now c.args.domain.now.lines c.args.line c.index-lines-place.result c.in-Code.instr c.lines.ensures.value c.requires.stands.within c.index-lines-place.is c.in-Code.is in
    c.suits_instr.ensures.exact ∙ sym (ap (λ l. suits_line (types_of c.args.view.now) c.args.domain.now (sight_of c.args.view.now) (record { at = c.args.line; regs = c.args.registers.now }) l c.args.answer.now) here)
