use Rattle.std.proofs.Common.{sym, ◌∙◌, arith}
use Rattle.rl_defs.specs.BundleNames.{load_names, shadow_names}
use Rattle.plan_checker.proofs.Placing.{place_within}
use Rattle.plan_checker.proofs.Looking.{number_of_load}
use Rattle.plan_checker.proofs.Tabling.{target_of_shadow, target_of_none}
use Rattle.plan_checker.proofs.tables.PlanTables.target_number.Goals as goal

pub returns-in-Some : goal.returns-in-Some
returns-in-Some c = number_of_load c.args.target.now (load_names c.args.self.now) (shadow_names c.args.self.now) c.in-Some.place (sym c.load_place.ensures.value ∙ c.in-Some.is)

pub overflow_add-result-in-Some-place : goal.overflow_add-result-in-Some-place
overflow_add-result-in-Some-place c = omega (arith, c.len.ensures, c.self.invariant.loads_are.few, c.self.invariant.shadows_are.few, place_within c.args.target.now c.self.inside.shadows.names c.in-Some-place.place (sym c.place.ensures ∙ c.in-Some-place.is))

pub overflow_add-result-in-Some-place-2 : goal.overflow_add-result-in-Some-place-2
overflow_add-result-in-Some-place-2 c = omega (arith, c.len.ensures, c.self.invariant.loads_are.few, c.self.invariant.shadows_are.few, place_within c.args.target.now c.self.inside.shadows.names c.in-Some-place.place (sym c.place.ensures ∙ c.in-Some-place.is))

pub returns-in-Some-place : goal.returns-in-Some-place
returns-in-Some-place c = target_of_shadow _ c.args.self.now c.self.inside.loads.names c.self.inside.loads.others c.self.inside.shadows.names c.self.inside.shadows.others c.args.target.now c.in-Some-place.place c.len.result c.self.view_is c.self.invariant.loads_are c.self.invariant.shadows_are c.len.ensures (sym c.load_place.ensures.value ∙ c.in_default.is) (sym c.place.ensures ∙ c.in-Some-place.is)

pub returns-in-None : goal.returns-in-None
returns-in-None c = target_of_none _ c.args.self.now c.self.inside.shadows.names c.self.inside.shadows.others c.args.target.now c.self.view_is c.self.invariant.shadows_are (sym c.load_place.ensures.value ∙ c.in_default.is) (sym c.place.ensures ∙ c.in-None.is)
