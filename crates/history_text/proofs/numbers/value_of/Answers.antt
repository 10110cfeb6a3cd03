use Rattle.std.proofs.Common.{◌+◌, ◌<◌, length, arith}
use Rattle.std.proofs.lemmas.Str.{digit_value_digit}
use Rattle.std.proofs.lemmas.Str.Parse.{digit_at, digits_value-take-le}
use Rattle.std.proofs.lemmas.Int.Digits.{digits_value_more}
use Rattle.history_text.proofs.numbers.value_of.Goals as goal

pub append_digit-requires : goal.append_digit-requires
append_digit-requires c = digit_at c.args.digits.now c.digits.digit-index c.requires (omega arith)

pub returns-in_err-value : goal.returns-in_err-value
returns-in_err-value c =
    let lt : c.digits.digit-index < length c.args.digits.now = omega arith in
    let range = digit_at c.args.digits.now c.digits.digit-index c.requires lt in
    let big = rw c.in_err-value.was at c.append_digit.ensures in
    rw c.from_residual.ensures (omega (arith, big, digits_value_more 10 c.args.digits.now c.digits.digit-index lt, digit_value_digit _ range, digits_value-take-le 10 c.args.digits.now (c.digits.digit-index + 1) (omega arith)))

pub digits-preserved : goal.digits-preserved
digits-preserved c =
    let lt : c.digits.digit-index < length c.args.digits.now = omega arith in
    let range = digit_at c.args.digits.now c.digits.digit-index c.requires lt in
    (omega (arith, c.in_ok-value.ensures, digits_value_more 10 c.args.digits.now c.digits.digit-index lt, digit_value_digit _ range), c.in_ok-value.ensures.1)
