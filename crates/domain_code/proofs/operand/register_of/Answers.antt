use Rattle.std.proofs.Common.{refl, sym, ◌∙◌}
use Rattle.domain_code.proofs.Registers.{gives_register, too_high, no_number}
use Rattle.domain_code.proofs.operand.register_of.Goals as goal

pub returns-in_err-number : goal.returns-in_err-number
returns-in_err-number c = c.from_residual.ensures ∙ sym (no_number c.args.word.now (sym c.register_number.ensures ∙ c.in_err-number.was))

pub returns-then-number-lt-REGISTERS : goal.returns-then-number-lt-REGISTERS
returns-then-number-lt-REGISTERS c = sym (gives_register c.args.word.now _ c.in_ok-number.number (sym c.register_number.ensures ∙ c.in_ok-number.was) refl)

pub returns : goal.returns
returns c = sym (too_high c.args.word.now c.in_ok-number.number (sym c.register_number.ensures ∙ c.in_ok-number.was) c.if-number-lt-REGISTERS.false)
