use Rattle.std.proofs.Common.{[], ◌∷◌, refl}
use Rattle.redleaf_app.proofs.Refusals.{opens, goes_on, all_numbers, differ}
use Rattle.redleaf_app.proofs.refusal.numbers_in.Goals as goal

pub returns-in_err-rest-clause-none : goal.returns-in_err-rest-clause-none
returns-in_err-rest-clause-none c = rw c.from_residual.ensures (λ line rule ll lr e. c.in_err-rest.ensures _ e)

pub returns-in_err-rest-2-clause-none : goal.returns-in_err-rest-2-clause-none
returns-in_err-rest-2-clause-none c =
    let left = c.in_ok-line.ensures.found in
    rw c.from_residual-in_err-rest-2.ensures (λ line rule ll lr e. c.in_err-rest-2.ensures _ (opens c.args.text.now c.in_ok-rest.rest.now c.in_ok-line.rest.now c.in_ok-line.line line rule c.in_ok-rest.ensures left.0 left.1 left.2 ll e).1)

pub returns-in_err-rule-clause-none : goal.returns-in_err-rule-clause-none
returns-in_err-rule-clause-none c =
    let left = c.in_ok-line.ensures.found in
    rw c.from_residual-in_err-rule.ensures (λ line rule ll lr e.
    let tail = opens c.args.text.now c.in_ok-rest.rest.now c.in_ok-line.rest.now c.in_ok-line.line line rule c.in_ok-rest.ensures left.0 left.1 left.2 ll e in
    c.in_err-rule.ensures.none rule (10 ∷ []) lr refl (goes_on c.in_ok-line.rest.now c.in_ok-rest-2.rest.now rule c.in_ok-rest-2.ensures tail.1))

pub returns-else-eq-clause-none : goal.returns-else-eq-clause-none
returns-else-eq-clause-none c = λ line rule ll lr e.
    let left = c.in_ok-line.ensures.found in
    let right = c.in_ok-rule.ensures.found in
    let all = all_numbers c.args.text.now c.in_ok-rest.rest.now c.in_ok-line.rest.now c.in_ok-rest-2.rest.now c.in_ok-rule.rest.now c.in_ok-line.line c.in_ok-rule.rule line rule c.in_ok-rest.ensures left.0 left.1 left.2 c.in_ok-rest-2.ensures right.0 right.1 right.2 ll lr e in
    differ c.eq.result c.in_ok-rule.rest.now (10 ∷ []) (rw c.as_slice.ensures at c.eq.ensures) c.if-eq.false all.2
