use Rattle.std.proofs.Common.{◌≡◌, ◌+◌, ◌-◌, true, sym, ◌∙◌, ap, subst, arith}
use Rattle.rl_defs.specs.Registers.{Registers}
use Rattle.machine_defs.specs.Instructions.{Would, Before, settle, work, jumped}
use Rattle.code_machine.specs.Act.{action_of}
use Rattle.code_machine.specs.Went.{stops}
use Rattle.code_machine.specs.Fitting.{Fitting, AtInstr}
use Rattle.code_machine.proofs.Going.{ready, goes_next, goes_label, settle_behind, settle_next, settle_label, settle_acts, settle_ends, ends_fitting}
use Rattle.code_machine.specs.Fitting.{standing}
use Rattle.code_machine.proofs.settle.settle_in.Goals as goal

pub lines-init : goal.lines-init
lines-init g c =
    let d = c.args.domain.now in
    let sight = g.V.View.sight c.args.view.now in
    let from = standing c.args.line.now c.args.registers.now in
    let to = standing c.come-place.result c.come-place.new.registers in
    let there = ready d sight from to c.lines-2.ensures.keeps c.requires c.come-place.ensures in
    record {
      keeps = c.lines-2.ensures.keeps;
      ready = there;
      same = settle_behind d sight c.args.live c.args.fuel.now from to c.lines-2.ensures.keeps there c.come-place.ensures;
    }

pub come-place-requires-in-Next-clause-within : goal.come-place-requires-in-Next-clause-within
come-place-requires-in-Next-clause-within g c =
    (goes_next c.args.domain.now (g.V.View.sight c.args.view.now) c.args.live c.lines.place c.lines.registers c.work.new.registers c.lines.invariant.keeps c.lines.invariant.ready (c.in-Next.ensures c.args.live)).stand.within

pub come-place-requires-in-Next-clause-fits : goal.come-place-requires-in-Next-clause-fits
come-place-requires-in-Next-clause-fits g c =
    let next = goes_next c.args.domain.now (g.V.View.sight c.args.view.now) c.args.live c.lines.place c.lines.registers c.work.new.registers c.lines.invariant.keeps c.lines.invariant.ready (c.in-Next.ensures c.args.live) in
    record { types = next.types; fits = next.stand.regs }

pub lines-preserved-in-Next : goal.lines-preserved-in-Next
lines-preserved-in-Next g c =
    let d = c.args.domain.now in
    let sight = g.V.View.sight c.args.view.now in
    let keeps = c.lines.invariant.keeps in
    let next = goes_next d sight c.args.live c.lines.place c.lines.registers c.work.new.registers keeps c.lines.invariant.ready (c.in-Next.ensures c.args.live) in
    let from = standing (c.lines.place + 1) c.work.new.registers in
    let to = standing c.come-place-in-Next.result c.come-place-in-Next.new.registers in
    let there = ready d sight from to keeps next c.come-place-in-Next.ensures in
    record {
      keeps = keeps;
      ready = there;
      same =
          c.lines.invariant.same
          ∙ (settle_next d sight c.args.live c.lines.left c.lines.place c.lines.registers c.work.new.registers c.lines-test.true c.lines.invariant.ready (c.in-Next.ensures c.args.live)
          ∙ settle_behind d sight c.args.live (c.lines.left - 1) from to keeps there c.come-place-in-Next.ensures);
    }

pub come_to_label-place-requires-clause-goes : goal.come_to_label-place-requires-clause-goes
come_to_label-place-requires-clause-goes g c =
    (goes_label c.args.domain.now (g.V.View.sight c.args.view.now) c.args.live c.lines.place c.lines.registers c.work.new.registers c.lines.invariant.keeps c.lines.invariant.ready (c.in-Jump.ensures c.args.live)).0

pub lines-preserved : goal.lines-preserved
lines-preserved g c =
    let d = c.args.domain.now in
    let sight = g.V.View.sight c.args.view.now in
    let keeps = c.lines.invariant.keeps in
    let goes = goes_label d sight c.args.live c.lines.place c.lines.registers c.work.new.registers keeps c.lines.invariant.ready (c.in-Jump.ensures c.args.live) in
    let from = jumped d c.lines.place c.work.new.registers in
    let to = standing c.come_to_label-place.result c.come_to_label-place.new.registers in
    let there = ready d sight from to keeps goes.1 c.come_to_label-place.ensures in
    record {
      keeps = keeps;
      ready = there;
      same =
          c.lines.invariant.same
          ∙ (settle_label d sight c.args.live c.lines.left c.lines.place c.lines.registers c.work.new.registers c.lines-test.true c.lines.invariant.ready (c.in-Jump.ensures c.args.live)
          ∙ settle_behind d sight c.args.live (c.lines.left - 1) from to keeps there c.come_to_label-place.ensures);
    }

pub act_at-requires-clause-fits : goal.act_at-requires-clause-fits
act_at-requires-clause-fits g c =
    subst (λ (r : Registers). Fitting c.args.domain.now (g.V.View.sight c.args.view.now) (standing c.lines.place r)) (sym (c.in-Stop.ensures c.args.live).1) c.lines.invariant.ready.fits

pub act_at-requires-clause-at : goal.act_at-requires-clause-at
act_at-requires-clause-at g c =
    subst (λ (r : Registers). AtInstr c.args.domain.now (standing c.lines.place r)) (sym (c.in-Stop.ensures c.args.live).1) c.lines.invariant.ready.at

pub act_at-requires-clause-stops : goal.act_at-requires-clause-stops
act_at-requires-clause-stops g c =
    subst (λ (r : Registers). stops (work c.args.domain.now (g.V.View.sight c.args.view.now) c.args.live (standing c.lines.place r)) ≡ true) (sym (c.in-Stop.ensures c.args.live).1) (c.in-Stop.ensures c.args.live).0

pub returns-in-Stop-clause-wanted : goal.returns-in-Stop-clause-wanted
returns-in-Stop-clause-wanted g c =
    let d = c.args.domain.now in
    let sight = g.V.View.sight c.args.view.now in
    let same = (c.in-Stop.ensures c.args.live).1 in
    let would = subst (λ (r : Registers). work d sight c.args.live (standing c.lines.place r) ≡ Would (action_of c.act_at.result)) same c.act_at.ensures in
    c.lines.invariant.same
    ∙ (settle_acts d sight c.args.live c.lines.left (standing c.lines.place c.lines.registers) (action_of c.act_at.result) c.lines-test.true c.lines.invariant.ready would
    ∙ ap (λ (r : Registers). Before (action_of c.act_at.result) c.lines.left (standing c.lines.place r)) (sym same))

pub returns-clause-wanted : goal.returns-clause-wanted
returns-clause-wanted g c =
    let d = c.args.domain.now in
    let sight = g.V.View.sight c.args.view.now in
    let none : c.lines.left ≡ 0 = omega arith in
    c.lines.invariant.same
    ∙ (ap (λ k. settle d sight c.args.live k (standing c.lines.place c.lines.registers)) none
    ∙ settle_ends d sight c.args.live (standing c.lines.place c.lines.registers) c.lines.invariant.ready)

pub returns-in-Stop-clause-fits : goal.returns-in-Stop-clause-fits
returns-in-Stop-clause-fits g c types stand sees =
    ends_fitting c.args.domain.now types (g.V.View.sight c.args.view.now) c.args.live c.args.fuel.now _ (standing c.args.line.now c.args.registers.now) _ _ c.lines.invariant.keeps (returns-in-Stop-clause-wanted g c) stand sees

pub returns-clause-fits : goal.returns-clause-fits
returns-clause-fits g c types stand sees =
    ends_fitting c.args.domain.now types (g.V.View.sight c.args.view.now) c.args.live c.args.fuel.now _ (standing c.args.line.now c.args.registers.now) _ _ c.lines.invariant.keeps (returns-clause-wanted g c) stand sees
