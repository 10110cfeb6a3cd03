use Rattle.std.proofs.Common.{length, arith, ap, subst}
use Rattle.exchangeable_types.specs.declared.walk.Stop.{Stop}
use Rattle.exchangeable_types.specs.Steps.{IsStop}
use Rattle.exchangeable_types.proofs.Stack.{top_within, stepped_whole, went_on}
use Rattle.exchangeable_types.proofs.walk.step.Goals as goal

pub set-requires : goal.set-requires
set-requires c =
    let stop = subst (λ (x : Stop). IsStop c.args.part.now.lines.now c.as_slice.result.now c.args.visit.number x) c.in-Whole.is c.in_ok-number.ensures in
    omega (arith, stop.0, top_within c.args.part.now.lines.now c.args.states.now.items c.args.stack.now.items c.args.visit c.requires)

pub wait-requires-clause-walking : goal.wait-requires-clause-walking
wait-requires-clause-walking c =
    let stop = subst (λ (x : Stop). IsStop c.args.part.now.lines.now c.as_slice.result.now c.args.visit.number x) c.in-Waits.is c.in_ok-number.ensures in
    went_on c.args.part.now.lines.now c.args.states.now.items c.args.stack.now.items c.args.visit c.in-Waits.visit c.requires stop.0 stop.1.0

pub returns-in-Whole : goal.returns-in-Whole
returns-in-Whole c =
    let stop = subst (λ (x : Stop). IsStop c.args.part.now.lines.now c.as_slice.result.now c.args.visit.number x) c.in-Whole.is c.in_ok-number.ensures in
    stepped_whole c.args.part.now.lines.now c.args.states.now.items c.set.new.states.items c.args.stack.now.items c.args.visit c.in-Whole.number c.in-Whole.cells c.requires stop.0 stop.1 c.set.ensures

pub advance-requires-clause-below : goal.advance-requires-clause-below
advance-requires-clause-below c = omega (arith, ap length c.as_slice.ensures.value, top_within c.args.part.now.lines.now c.args.states.now.items c.args.stack.now.items c.args.visit c.requires)
