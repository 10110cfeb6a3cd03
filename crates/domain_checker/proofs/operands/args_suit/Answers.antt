use Rattle.std.proofs.Common.{◌≡◌, drop, [], sym, ◌∙◌, ap, List}
use Rattle.std.proofs.lemmas.List.{drop_all}
use Rattle.rl_defs.specs.declared.tables.Kind.{Kind}
use Rattle.rl_defs.specs.CodeRules.{args_suit}
use Rattle.domain_checker.proofs.Registers.{no_params}
use Rattle.domain_checker.proofs.operands.args_suit.Goals as goal

pub returns-then-k-params : goal.returns-then-k-params
returns-then-k-params c =
    let e : drop c.each.k c.args.params.now ≡ [] = drop_all c.each.k c.args.params.now c.if-k-params.true in
    sym (no_params c.args.kinds.now (drop c.each.k c.args.args.now)) ∙ ap (λ (ps : List Kind). args_suit c.args.kinds.now ps (drop c.each.k c.args.args.now)) (sym e) ∙ c.each.invariant
