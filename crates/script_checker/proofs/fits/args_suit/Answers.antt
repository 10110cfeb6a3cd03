use Rattle.std.proofs.Common.{◌≡◌, drop, [], sym, ◌∙◌, ap, List, arith}
use Rattle.std.proofs.lemmas.List.{drop_all}
use Rattle.rl_defs.specs.declared.tables.Kind.{Kind}
use Rattle.rl_defs.specs.declared.bundle.ScriptArgText.{ScriptArgText}
use Rattle.rl_defs.specs.ScriptRules.{args_suit}
use Rattle.script_checker.proofs.Fitting.{no_params, no_args}
use Rattle.script_checker.proofs.fits.args_suit.Goals as goal

pub returns-then-k-params : goal.returns-then-k-params
returns-then-k-params c =
    let e : drop c.each.k c.args.params.now ≡ [] = drop_all c.each.k c.args.params.now c.if-k-params.true in
    sym (no_params c.args.scope.now.tables c.args.scope.now.bundle c.args.bindings.now.bound (drop c.each.k c.args.args.now)) ∙ ap (λ (ps : List Kind). args_suit c.args.scope.now.tables c.args.scope.now.bundle c.args.bindings.now.bound ps (drop c.each.k c.args.args.now)) (sym e) ∙ c.each.invariant

pub returns : goal.returns
returns c =
    let e : drop c.each.k c.args.args.now ≡ [] = drop_all c.each.k c.args.args.now (omega arith) in
    sym (no_args c.args.scope.now.tables c.args.scope.now.bundle c.args.bindings.now.bound (drop c.each.k c.args.params.now)) ∙ ap (λ (rest : List ScriptArgText). args_suit c.args.scope.now.tables c.args.scope.now.bundle c.args.bindings.now.bound (drop c.each.k c.args.params.now) rest) (sym e) ∙ c.each.invariant
