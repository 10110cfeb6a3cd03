use Rattle.std.proofs.Common.{sym, ◌∙◌}
use Rattle.plan_checker.proofs.Keeping.{facts_found, facts_missing}
use Rattle.plan_checker.proofs.tables.PlanTables.domain.Goals as goal

pub returns-in-Some : goal.returns-in-Some
returns-in-Some c = c.get.ensures ∙ facts_found _ c.args.self.now c.self.inside.domains.names c.self.inside.domains.numbers c.self.inside.domains.facts c.args.name.now c.in-Some.place c.self.view_is c.self.invariant.domains_are c.requires (sym c.place.ensures ∙ c.in-Some.is)

pub returns-in-None : goal.returns-in-None
returns-in-None c = facts_missing _ c.args.self.now c.self.inside.domains.names c.self.inside.domains.numbers c.self.inside.domains.facts c.args.name.now c.self.view_is c.self.invariant.domains_are c.requires (sym c.place.ensures ∙ c.in-None.is)
