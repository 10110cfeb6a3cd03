use Rattle.std.proofs.Common.{rules, ◌≡◌, ◌+◌, ◌≤◌, length, drop, ap, arith, length-append, length-drop}
use Rattle.std.specs.Fmt.{decimal}
use Rattle.std.proofs.lemmas.Fmt.{length-decimal-le}
use Rattle.history_text.proofs.ending.Ending.put_digits.Goals as goal

pub write_digits-self-inside-requires : goal.write_digits-self-inside-requires
write_digits-self-inside-requires c =
    let short : length (decimal c.args.number) ≤ 20 = search (rules, length-decimal-le 20) in
    let long = ap length c.self.view_is in
    (omega (arith, length-drop c.self.inside.start c.self.inside.bytes, c.self.invariant.0, c.self.invariant.1), omega (arith, c.self.invariant.0, c.self.invariant.1))

pub returns-clause-room : goal.returns-clause-room
returns-clause-room c =
    let short : length (decimal c.args.number) ≤ 20 = search (rules, length-decimal-le 20) in
    let long = ap length c.self.view_is in
    let all = ap length c.write_digits-self-inside.ensures.written in
    omega (arith, length-append (decimal c.args.number) (drop c.self.inside.start c.self.inside.bytes))
