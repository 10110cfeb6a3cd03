use Rattle.std.proofs.Common.{◌≡◌, drop, [], sym, ◌∙◌, ap, List}
use Rattle.std.proofs.lemmas.List.{drop_all}
use Rattle.rl_defs.specs.declared.tables.Kind.{Kind}
use Rattle.rl_defs.specs.ScriptRules.{numbers_fit}
use Rattle.script_checker.proofs.Fitting.{no_cells}
use Rattle.script_checker.proofs.fits.numbers_fit.Goals as goal

pub returns-then-k-cells : goal.returns-then-k-cells
returns-then-k-cells c =
    let e : drop c.each.k c.args.cells.now ≡ [] = drop_all c.each.k c.args.cells.now c.if-k-cells.true in
    sym (no_cells c.args.numbers.now c.each.k c.each-test.true) ∙ ap (λ (ks : List Kind). numbers_fit ks (drop c.each.k c.args.numbers.now)) (sym e) ∙ c.each.invariant
