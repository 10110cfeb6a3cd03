use Rattle.std.proofs.Common.{ℕ, Option, subst, arith}
use Rattle.exchangeable_types.specs.BadLines.{IsFirstBad}
use Rattle.exchangeable_types.proofs.Checks.{bad_first, struct_first, not_before}
use Rattle.exchangeable_types.proofs.check.earlier_refusal.Goals as goal

pub returns-in_default : goal.returns-in_default
returns-in_default c =
    let bad = subst (λ (o : Option ℕ). IsFirstBad c.args.idl.now.lines o) c.in_default.is c.requires.bad in
    struct_first c.args.idl.now c.args.at.line c.args.at.rule c.requires.at (λ m h. absurd (bad m h))

pub returns-then-line-at : goal.returns-then-line-at
returns-then-line-at c =
    let bad = subst (λ (o : Option ℕ). IsFirstBad c.args.idl.now.lines o) c.in-Some.is c.requires.bad in
    bad_first c.args.idl.now c.in-Some.line c.refused.result bad (λ l r f. omega (arith, c.if-line-at.true, not_before c.args.at.line c.args.at.rule l r (c.requires.at.first l r f))) c.refused.ensures

pub returns : goal.returns
returns c =
    let bad = subst (λ (o : Option ℕ). IsFirstBad c.args.idl.now.lines o) c.in-Some.is c.requires.bad in
    struct_first c.args.idl.now c.args.at.line c.args.at.rule c.requires.at (λ m h. omega (arith, c.if-line-at.false, bad.1 m h))
