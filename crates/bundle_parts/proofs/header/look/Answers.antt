use Rattle.std.proofs.Common.{◌∙◌, sym, rules}
use Rattle.bundle_parts.proofs.HeaderLaws.{fault_sees, sees_header, sees_other}
use Rattle.bundle_parts.proofs.header.look.Goals as goal

pub returns-in_err-lexemes : goal.returns-in_err-lexemes
returns-in_err-lexemes c = let fault = fault_sees _ _ _ c.in_err-lexemes.ensures in search rules

pub returns-in-Ok : goal.returns-in-Ok
returns-in-Ok c =
    let e = rw (c.new-left.ensures, c.as_slice-all.ensures.value, c.text.ensures) at c.in-Ok.ensures in
    sees_header _ c.lexemes.new.all.items c.in-Ok.header c.in_ok-lexemes.ensures.1 e

pub returns-in-Err-NoForm : goal.returns-in-Err-NoForm
returns-in-Err-NoForm c =
    let e = rw (c.new-left.ensures, c.as_slice-all.ensures.value, c.text.ensures) at (rw c.in-Err-NoForm.field-0-is at c.in-Err-NoForm.ensures) in
    let some = rw c.as_slice-all.ensures.value at (sym c.is_empty.ensures ∙ c.if-is_empty.false) in
    sees_other _ c.lexemes.new.all.items some c.in_ok-lexemes.ensures.1 e
