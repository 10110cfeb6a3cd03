use Rattle.std.proofs.Common.{◌≡◌, [], ◌∷◌, Some, length, refl, ap, arith, slice_get}
use Rattle.std.specs.List.{flat_map}
use Rattle.std.proofs.lemmas.Option.{slice_get_read}
use Rattle.rl_defs.specs.declared.bundle.Numbered.{Numbered}
use Rattle.rl_defs.specs.declared.bundle.PlanLine.{PlanLine}
use Rattle.rl_defs.specs.LoadOf.{fuel_in}
use Rattle.plan_checker.proofs.Forms.{no_fuel}
use Rattle.plan_checker.proofs.Gathering.{gather_first, gather_none, first_found, first_missing}
use Rattle.plan_checker.proofs.Steps.{flat_step}
use Rattle.plan_checker.proofs.rows.fuel_of.Goals as goal

pub lines-init : goal.lines-init
lines-init c = gather_first (flat_map (λ (x : Numbered PlanLine). fuel_in x.form)) c.args.lines.now [] refl

pub lines-preserved : goal.lines-preserved
lines-preserved c =
    let here : slice_get c.args.lines.now c.lines.line-index ≡ Some c.line-item.result = slice_get_read c.args.lines.now (length c.args.lines.now) c.lines.line-index c.line-item.result refl c.lines-test.true c.line-item.is in
    gather_none (flat_map (λ (x : Numbered PlanLine). fuel_in x.form)) c.args.lines.now c.lines.line-index c.line-item.result [] c.lines.invariant here (flat_step (λ (x : Numbered PlanLine). fuel_in x.form) c.line-item.result [] (no_fuel c.line-item.result.form (λ n e. c.in_default.not-Fuel n e)))

pub returns-in-Fuel : goal.returns-in-Fuel
returns-in-Fuel c =
    let here : slice_get c.args.lines.now c.lines.line-index ≡ Some c.line-item.result = slice_get_read c.args.lines.now (length c.args.lines.now) c.lines.line-index c.line-item.result refl c.lines-test.true c.line-item.is in
    first_found (flat_map (λ (x : Numbered PlanLine). fuel_in x.form)) c.args.lines.now c.lines.line-index c.line-item.result c.in-Fuel.fuel 10000 c.lines.invariant here (flat_step (λ (x : Numbered PlanLine). fuel_in x.form) c.line-item.result (c.in-Fuel.fuel ∷ []) (ap fuel_in c.in-Fuel.is))

pub returns : goal.returns
returns c = first_missing (flat_map (λ (x : Numbered PlanLine). fuel_in x.form)) c.args.lines.now c.lines.line-index 10000 c.lines.invariant (omega arith) refl
