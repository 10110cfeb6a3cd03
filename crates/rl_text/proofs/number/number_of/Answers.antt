use Rattle.std.proofs.Common.{ℕ, ◌≤◌, ◌<◌, length, sym, ◌∙◌, arith}
use Rattle.std.proofs.lemmas.Bool.{eqb-true}
use Rattle.rl_text.proofs.NumberLaws.{number_empty, number_stray, number_big, number_all, digits_more, value_more, not_empty}
use Rattle.rl_text.proofs.number.number_of.Goals as goal

not_below : (a b : ℕ) → (a < b → ⊥) → b ≤ a
not_below a b h = omega arith

pub returns-then-is_empty : goal.returns-then-is_empty
returns-then-is_empty c = sym (number_empty _ _ (eqb-true _ _ (sym c.is_empty.ensures ∙ c.if-is_empty.true)))

pub returns-in_err-digit : goal.returns-in_err-digit
returns-in_err-digit c =
    let lt : c.digits.byte-index < length c.args.digits.now = omega arith in
    rw c.from_residual.ensures (sym (number_stray c.args.radix c.args.digits.now c.digits.byte-index lt (not_below _ _ c.in_err-digit.ensures)))

pub returns-in_err-value : goal.returns-in_err-value
returns-in_err-value c =
    let lt : c.digits.byte-index < length c.args.digits.now = omega arith in
    rw c.from_residual-in_err-value.ensures (sym (number_big c.args.radix c.args.digits.now c.digits.byte-index c.digits.value c.in_ok-digit.digit lt (omega arith) c.digits.invariant.value c.in_ok-digit.ensures.1 c.in_err-value.ensures))

pub digits-preserved : goal.digits-preserved
digits-preserved c =
    let lt : c.digits.byte-index < length c.args.digits.now = omega arith in
    record {
      all = digits_more c.args.radix c.args.digits.now c.digits.byte-index lt c.digits.invariant.all c.in_ok-digit.ensures.0;
      value = value_more c.args.radix c.args.digits.now c.digits.byte-index c.digits.value c.in_ok-digit.digit c.in_ok-value.value lt c.digits.invariant.value c.in_ok-digit.ensures.1 c.in_ok-value.ensures.0;
      fits = c.in_ok-value.ensures.1;
    }

pub returns : goal.returns
returns c = sym (number_all c.args.radix c.args.digits.now c.digits.byte-index c.digits.value (not_empty _ (sym c.is_empty.ensures ∙ c.if-is_empty.false)) (omega arith) c.digits.invariant.all c.digits.invariant.value c.digits.invariant.fits)
