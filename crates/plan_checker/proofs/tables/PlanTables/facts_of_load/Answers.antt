use Rattle.std.proofs.Common.{sym, ap, ◌∙◌}
use Rattle.std.specs.Option.{option_copied}
use Rattle.plan_checker.proofs.Keeping.{load_loaded}
use Rattle.plan_checker.proofs.tables.PlanTables.facts_of_load.Goals as goal

pub domain-requires : goal.domain-requires
domain-requires c = load_loaded c.args.self.now c.args.load.now c.in-Some.domain.now (sym c.domain_of_load.ensures ∙ ap option_copied c.in-Some.is)
