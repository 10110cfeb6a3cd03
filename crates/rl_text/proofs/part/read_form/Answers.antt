use Rattle.std.proofs.Common.{◌∙◌, sym, rules}
use Rattle.rl_text.proofs.FormLaws.{fault_reads, refuses_line}
use Rattle.rl_text.proofs.part.read_form.Goals as goal

pub returns-in_err-lexemes : goal.returns-in_err-lexemes
returns-in_err-lexemes g c = let refused = fault_reads g.F.PartLine.grammar.is_line (λ text ts. g.F.PartLine.line_at ts) c.requires.reading _ _ _ c.in_err-lexemes.ensures in search rules

pub returns-in-Err-NoForm : goal.returns-in-Err-NoForm
returns-in-Err-NoForm g c =
    let e = rw (c.new-left.ensures, c.as_slice-all.ensures.value, c.text.ensures) at (rw c.in-Err-NoForm.field-0-is at c.in-Err-NoForm.ensures) in
    let some = rw c.as_slice-all.ensures.value at (sym c.is_empty.ensures ∙ c.if-is_empty.false) in
    refuses_line g.F.PartLine.grammar.is_line (λ text ts. g.F.PartLine.line_at ts) c.requires.reading _ _ c.lexemes.new.all.items _ c.refused.ensures some c.in_ok-lexemes.ensures.1 e
