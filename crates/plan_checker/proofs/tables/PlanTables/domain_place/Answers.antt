use Rattle.std.proofs.Common.{sym, ◌∙◌}
use Rattle.plan_checker.proofs.Keeping.{number_found, number_missing}
use Rattle.plan_checker.proofs.tables.PlanTables.domain_place.Goals as goal

pub returns-in-Some : goal.returns-in-Some
returns-in-Some c = c.copied.ensures ∙ c.get.ensures ∙ number_found _ c.args.self.now c.self.inside.domains.names c.self.inside.domains.numbers c.self.inside.domains.facts c.args.name.now c.in-Some.place c.self.view_is c.self.invariant.domains_are c.requires (sym c.place.ensures ∙ c.in-Some.is)

pub returns-in-None : goal.returns-in-None
returns-in-None c = number_missing _ c.args.self.now c.self.inside.domains.names c.self.inside.domains.numbers c.self.inside.domains.facts c.args.name.now c.self.view_is c.self.invariant.domains_are c.requires (sym c.place.ensures ∙ c.in-None.is)
