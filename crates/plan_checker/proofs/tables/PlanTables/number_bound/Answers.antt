use Rattle.std.proofs.Common.{sym, ap, ◌∙◌}
use Rattle.std.specs.Option.{option_copied}
use Rattle.plan_checker.proofs.Tabling.{number_unbound}
use Rattle.plan_checker.proofs.tables.PlanTables.number_bound.Goals as goal

pub returns-in-None : goal.returns-in-None
returns-in-None c = number_unbound _ c.args.self.now c.self.inside.loads.names c.self.inside.loads.others c.self.inside.shadows.names c.self.inside.shadows.others c.args.load.now c.args.import.now c.self.view_is c.self.invariant.loads_are c.self.invariant.shadows_are (sym c.bound.ensures ∙ ap option_copied c.in-None.is)
