use Rattle.std.proofs.Common.{◌≡◌, drop, [], sym, ◌∙◌, ap, List, arith}
use Rattle.std.proofs.lemmas.List.{drop_all}
use Rattle.rl_defs.specs.declared.code.Register.{Register}
use Rattle.rl_defs.specs.CodeRules.{results_suit}
use Rattle.domain_checker.proofs.Registers.{few_results, many_results}
use Rattle.domain_checker.proofs.operands.results_suit.Goals as goal

pub returns-then-k-results : goal.returns-then-k-results
returns-then-k-results c =
    let e : drop c.each.k c.args.results.now ≡ [] = drop_all c.each.k c.args.results.now c.if-k-results.true in
    sym (few_results c.args.kinds.now c.args.listed.now c.each.k c.each-test.true) ∙ ap (λ (rs : List Register). results_suit c.args.kinds.now (drop c.each.k c.args.listed.now) rs) (sym e) ∙ c.each.invariant

pub returns : goal.returns
returns c = many_results c.args.kinds.now c.args.listed.now c.args.results.now c.each.k (omega arith) ∙ c.each.invariant
