use Rattle.std.proofs.Common.{ℕ, ◌≡◌, ◌+◌, take, drop, ap, ◌∙◌, arith}
use Rattle.std.proofs.lemmas.List.{take_rest}
use Rattle.history_text.proofs.words.cut.Goals as goal

pub returns-then-len-text-clause-some : goal.returns-then-len-text-clause-some
returns-then-len-text-clause-some c =
    let e = c.place_of-len.ensures in
    (ap (λ (n : ℕ). take n c.args.text.now) e, take_rest c.args.text.now (c.place_of-len.result + 1) ∙ ap (λ (n : ℕ). drop (n + 1) c.args.text.now) e, omega arith)
