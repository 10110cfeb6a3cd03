use Rattle.std.proofs.Common.{◌≡◌, Some, sym, ◌∙◌, subst, arith}
use Rattle.rl_defs.specs.CodeNames.{label_of, place_of_label}
use Rattle.std.proofs.lemmas.Option.{slice_get_within}
use Rattle.code_machine.proofs.Answering.{code_form, same_instr, failed_place, failed_head, failed_goes, went_goes}
use Rattle.code_machine.proofs.answer.behind.Goals as goal

pub enter-requires : goal.enter-requires
enter-requires c =
    failed_head c.args.domain.now (record { at = c.args.line; regs = c.args.registers.now }) c.args.answer.now c.in-Failed.field-0 c.row.result.label c.lines.ensures.keeps c.requires c.in-Failed.is
    (c.row.ensures c.requires.at.number c.requires.instr c.requires.at.here).place

pub overflow_add-result : goal.overflow_add-result
overflow_add-result c =
    let within = slice_get_within c.args.domain.now.lines c.args.line _ c.requires.at.here in
    let short = c.lines.ensures.keeps.short in
    omega arith

pub unreachable-requires : goal.unreachable-requires
unreachable-requires c =
    c.in_default.not-Code c.requires.instr (code_form c.lines.result.now c.args.domain.now.lines c.args.line c.index-lines-place.result c.requires.at.number c.requires.instr c.lines.ensures.value c.requires.at.here)

pub returns-in-Failed : goal.returns-in-Failed
returns-in-Failed c i at =
    let p = failed_place c.args.domain.now (record { at = c.args.line; regs = c.args.registers.now }) c.args.answer.now c.in-Failed.field-0 c.lines.ensures.keeps c.requires c.in-Failed.is in
    let asked = same_instr c.lines.result.now c.args.domain.now.lines c.args.line c.index-lines-place.result c.requires.at.number c.requires.instr c.in-Code.instr c.lines.ensures.value c.requires.at.here c.in-Code.is in
    let here = same_instr c.lines.result.now c.args.domain.now.lines c.args.line c.index-lines-place.result at.number i c.in-Code.instr c.lines.ensures.value at.here c.in-Code.is in
    failed_goes c.args.domain.now c.args.line at.number p.0 i c.in-Code.instr c.args.answer.now c.in-Failed.field-0 c.args.registers.now c.answered.new.registers c.row.result.label _ at.here
    (subst (λ x. place_of_label c.args.domain.now c.args.line (label_of x) ≡ Some p.0) (sym asked ∙ here) p.1)
    ((c.row.ensures c.requires.at.number c.requires.instr c.requires.at.here).place p.0 p.1)
    c.in-Failed.is here c.answered.ensures c.enter.ensures

pub returns-in_default-answer : goal.returns-in_default-answer
returns-in_default-answer c i at =
    let here = same_instr c.lines.result.now c.args.domain.now.lines c.args.line c.index-lines-place.result at.number i c.in-Code.instr c.lines.ensures.value at.here c.in-Code.is in
    went_goes c.args.domain.now c.args.line i c.in-Code.instr c.args.answer.now c.args.registers.now c.answered.new.registers c.in_default-answer.not-Failed here c.answered.ensures
