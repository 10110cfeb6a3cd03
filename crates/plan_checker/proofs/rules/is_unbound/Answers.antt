use Rattle.std.proofs.Common.{ℕ, List, sym, ap, ◌∙◌}
use Rattle.std.specs.Prelude.{is_none}
use Rattle.std.specs.List.{list_any}
use Rattle.std.specs.Option.{option_copied}
use Rattle.rl_defs.specs.CodeNames.{imports}
use Rattle.plan_checker.specs.Lookups.{bound_at}
use Rattle.plan_checker.specs.PlanTests.{has_unbound}
use Rattle.plan_checker.proofs.Lowest.{any_name}
use Rattle.plan_checker.proofs.rules.is_unbound.Goals as goal

pub returns-in-Some : goal.returns-in-Some
returns-in-Some c =
    c.has_unbound.ensures
    ∙ ap (list_any (λ (import : List ℕ). is_none (bound_at c.args.tables.now.plan.lines c.args.load.now import))) c.imports.ensures
    ∙ any_name (λ (import : List ℕ). is_none (bound_at c.args.tables.now.plan.lines c.args.load.now import)) (imports c.in-Some.facts.now)
    ∙ sym (ap (has_unbound c.args.tables.now.plan.lines c.args.load.now) (sym c.domain.ensures ∙ ap option_copied c.in-Some.is))
