use Rattle.std.proofs.Common.{sym, ◌∙◌}
use Rattle.plan_checker.proofs.Tabling.{shadow_found, shadow_missing}
use Rattle.plan_checker.proofs.tables.PlanTables.load_of_shadow.Goals as goal

pub returns-in-Some : goal.returns-in-Some
returns-in-Some c = c.copied.ensures ∙ c.get.ensures ∙ shadow_found _ c.args.self.now c.self.inside.shadows.names c.self.inside.shadows.others c.args.target.now c.in-Some.place c.self.view_is c.self.invariant.shadows_are (sym c.place.ensures ∙ c.in-Some.is)

pub returns-in-None : goal.returns-in-None
returns-in-None c = shadow_missing _ c.args.self.now c.self.inside.shadows.names c.self.inside.shadows.others c.args.target.now c.self.view_is c.self.invariant.shadows_are (sym c.place.ensures ∙ c.in-None.is)
