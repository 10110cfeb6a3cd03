use Rattle.std.proofs.Common.{◌≡◌, ◌∙◌, sym, true, false, rules}
use Rattle.rl_text.proofs.FormLaws.{fault_reads, refuses_line}
use Rattle.domain_code.proofs.DomainLaws.{IsSpelled, read, reading, no_spelling, not_decimal}
use Rattle.domain_code.proofs.read.read_form.Goals as goal

pub returns-in_err-lexemes : goal.returns-in_err-lexemes
returns-in_err-lexemes c = let refused = no_spelling _ _ _ (fault_reads IsSpelled read reading _ _ _ c.in_err-lexemes.ensures) in search rules

pub returns-in-Err-NoForm : goal.returns-in-Err-NoForm
returns-in-Err-NoForm c =
    let e = rw (c.new-left.ensures, c.as_slice-all.ensures.value, c.text.ensures) at (rw c.in-Err-NoForm.field-0-is at c.in-Err-NoForm.ensures) in
    let some = rw c.as_slice-all.ensures.value at (sym c.is_empty.ensures ∙ c.if-is_empty.false) in
    no_spelling _ _ _ (refuses_line IsSpelled read reading _ _ c.lexemes.new.all.items _ c.refused-in-Err-NoForm.ensures some c.in_ok-lexemes.ensures.1 e)

pub returns-then-not-place_is_decimal : goal.returns-then-not-place_is_decimal
returns-then-not-place_is_decimal c =
    let e = rw (c.new-left.ensures, c.as_slice-all.ensures.value, c.text.ensures) at c.in-Ok.ensures in
    not_decimal _ _ c.in-Ok.form _ c.refused.ensures (reading.takes _ _ c.in-Ok.form c.in_ok-lexemes.ensures.1 e) (λ p. let t = sym c.if-not-place_is_decimal.true ∙ c.place_is_decimal.ensures.1 p in let never : ⊥ = false_true t in never)
  where
    false_true : false ≡ true → ⊥
    false_true t = cc

pub returns-else-not-place_is_decimal : goal.returns-else-not-place_is_decimal
returns-else-not-place_is_decimal c =
    let e = rw (c.new-left.ensures, c.as_slice-all.ensures.value, c.text.ensures) at c.in-Ok.ensures in
    record { tokens = reading.takes _ _ c.in-Ok.form c.in_ok-lexemes.ensures.1 e; decimal = c.place_is_decimal.ensures.0 c.if-not-place_is_decimal.false }
