use Rattle.std.proofs.Common.{arith}
use Rattle.redleaf_app.proofs.Refusals.{numbers_once}
use Rattle.redleaf_app.proofs.refusal.refusal_in.Goals as goal

pub returns-in_err-line-clause-none : goal.returns-in_err-line-clause-none
returns-in_err-line-clause-none c = rw c.from_residual.ensures (λ line rule ll lr e. c.in_err-line.ensures.none line rule (omega (arith, ll)) (omega (arith, lr)) e)

pub returns-then-line-from-clause-none : goal.returns-then-line-from-clause-none
returns-then-line-from-clause-none c = λ line rule ll lr e.
    let found = c.in_ok-line.ensures.found in
    let same = numbers_once c.args.text.now c.in_ok-line.line c.in_ok-line.rule line rule found.1 found.2 (omega (arith, ll)) (omega (arith, lr)) found.0 e in
    omega (arith, ll, same.0, c.if-line-from.true, c.from.ensures)

pub returns-then-rule-from-clause-none : goal.returns-then-rule-from-clause-none
returns-then-rule-from-clause-none c = λ line rule ll lr e.
    let found = c.in_ok-line.ensures.found in
    let same = numbers_once c.args.text.now c.in_ok-line.line c.in_ok-line.rule line rule found.1 found.2 (omega (arith, ll)) (omega (arith, lr)) found.0 e in
    omega (arith, lr, same.1, c.if-rule-from.true, c.from-2.ensures)
