use Rattle.std.proofs.Common.{◌<◌, length, arith, ap}
use Rattle.std.proofs.lemmas.Bool.Decides.{nat_tests}
use Rattle.std.proofs.lemmas.Fmt.{decimal_nonempty}
use Rattle.history_text.proofs.Numerals.{not_canonical, number_cases}
use Rattle.history_text.proofs.numbers.number_of.Goals as goal

pub returns-then-is_empty : goal.returns-then-is_empty
returns-then-is_empty c = λ n lt e. grind (arith, nat_tests, decimal_nonempty n lt, ap length e, c.is_empty.ensures, c.if-is_empty.true)

pub returns-then-digits-gt1 : goal.returns-then-digits-gt1
returns-then-digits-gt1 c = λ n lt e. not_canonical c.args.digits.now n lt c.if-digits-eq48.true c.if-digits-gt1.true e

pub returns : goal.returns
returns c =
    let some : 0 < length c.args.digits.now = grind (arith, nat_tests, c.is_empty.ensures, c.if-is_empty.false) in
    number_cases c.value_of.result c.args.digits.now c.requires some (λ zero. grind (arith, c.else-digits-eq48.either, zero, some)) c.value_of.ensures
