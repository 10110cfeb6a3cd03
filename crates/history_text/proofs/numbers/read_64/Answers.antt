use Rattle.std.proofs.Common.{sym, ◌∙◌}
use Rattle.history_text.proofs.DigitLaws.{other_word, digits_from_pass, same_number}
use Rattle.history_text.proofs.numbers.read_64.Goals as goal

pub number_of-requires : goal.number_of-requires
number_of-requires c = digits_from_pass c.args.word.now (sym c.are_digits.ensures ∙ c.if-are_digits.true)

pub returns-then-are_digits : goal.returns-then-are_digits
returns-then-are_digits c = same_number c.number_of.result c.args.word.now c.number_of.ensures

pub returns-else-are_digits : goal.returns-else-are_digits
returns-else-are_digits c = other_word c.args.word.now (sym c.are_digits.ensures ∙ c.if-are_digits.false)
