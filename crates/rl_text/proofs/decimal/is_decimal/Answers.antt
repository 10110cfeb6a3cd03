use Rattle.std.proofs.Common.{◌-◌, ◌<◌, length, take, drop, arith}
use Rattle.std.proofs.lemmas.List.{length-take, length-drop}
use Rattle.rl_text.proofs.DecimalLaws.{numeral}
use Rattle.rl_text.proofs.decimal.is_decimal.Goals as goal

pub returns-in-Number : goal.returns-in-Number
returns-in-Number c =
    let start = c.args.found.now.start in
    let count = c.args.found.now.stop - start in
    let some : 0 < length (take count (drop start c.args.text.now)) = omega (arith, c.requires.some, c.requires.within, length-take count (drop start c.args.text.now), length-drop start c.args.text.now) in
    rw c.in-Number.is (numeral (take count (drop start c.args.text.now)) c.are_digits.result c.are_digits.ensures some)
