use Rattle.plan_checker.proofs.Tabling.{few_places}
use Rattle.plan_checker.proofs.tables.PlanTables.load_place.Goals as goal

pub returns-clause-few : goal.returns-clause-few
returns-clause-few c = few_places c.self.inside.loads.names c.self.inside.loads.others c.args.load.now c.place.result c.self.invariant.loads_are c.place.ensures
