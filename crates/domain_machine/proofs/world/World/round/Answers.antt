use Rattle.std.proofs.Common.{◌≡◌, ◌∙◌, ℕ, ◌<◌, ◌≤◌, List, false, length, refl, ap, sym, subst, arith}
use Rattle.rl_defs.specs.Valid.{Valid}
use Rattle.machine_defs.specs.Runs.{Run, order_of}
use Rattle.machine_defs.specs.Calling.{is_enabled}
use Rattle.machine_steps.specs.Kept.{Kept}
use Rattle.domain_machine.specs.Finished.{IsLong, LacksMemory}
use Rattle.domain_machine.proofs.Going.{listed, listed_after, turn_keeps_load, stands, pass_on, goes_next, nobody_all_done, done_disabled, enabled_undone}
use Rattle.domain_machine.proofs.world.World.round.Goals as goal
use Rattle.domain_machine.proofs.world.World.round.Goals.{in-NotYet, in-Done}

pub steps-init : goal.steps-init
steps-init c = record { same = refl; passed = λ (k : ℕ) (low : k < 0). absurd (omega (arith, low)) }

pub client-client-requires-clause-place : goal.client-client-requires-clause-place
client-client-requires-clause-place c =
    let P : List ℕ → Type 0 = λ xs. c.args.place ≤ length xs in
    subst P (sym (listed c.self-in-steps.inside.order c.self-in-steps.inside.machine c.steps.self c.args.self.now c.self-in-steps.invariant
    c.self-in-steps.view_is c.steps.invariant.same)) c.requires

pub client-client-requires-clause-step : goal.client-client-requires-clause-step
client-client-requires-clause-step c =
    let now : c.self-in-steps.inside.order ≡ order_of c.args.self.now.load = listed c.self-in-steps.inside.order c.self-in-steps.inside.machine c.steps.self
    c.args.self.now c.self-in-steps.invariant c.self-in-steps.view_is c.steps.invariant.same in
    let before : c.self.inside.order ≡ order_of c.args.self.now.load =
    listed c.self.inside.order c.self.inside.machine c.args.self.now c.args.self.now c.self.invariant c.self.view_is refl in
    let many : length c.self-in-steps.inside.order ≡ length c.self.inside.order = ap (λ (xs : List ℕ). length xs) (now ∙ sym before) in
    let all : c.len-step-end.result ≡ length c.self.inside.order = c.len-step-end.ensures in
    let low : c.steps.step < c.len-step-end.result = c.steps-test.true in
    omega arith

pub turn-requires : goal.turn-requires
turn-requires c =
    let before : c.self.inside.order ≡ order_of c.args.self.now.load =
    listed c.self.inside.order c.self.inside.machine c.args.self.now c.args.self.now c.self.invariant c.self.view_is refl in
    let many : c.len-step-end.result ≡ length (order_of c.args.self.now.load) = c.len-step-end.ensures ∙ ap (λ (xs : List ℕ). length xs) before in
    let low : c.steps.step < c.len-step-end.result = c.steps-test.true in
    let V : Kept → Type 0 = λ w. Valid w.load in
    let R : Kept → Type 0 = λ w. (0 < c.client-client.result) × (c.client-client.result ≤ length w.load.clients) in
    subst R (sym c.steps.invariant.same)
    (stands c.args.self.now.load c.self-in-steps.inside.order c.args.place c.steps.step c.client-client.result
    (subst V c.self.view_is c.is_kept.ensures.valid)
    (listed c.self-in-steps.inside.order c.self-in-steps.inside.machine c.steps.self c.args.self.now c.self-in-steps.invariant
    c.self-in-steps.view_is c.steps.invariant.same)
    c.requires (omega arith) c.client-client.ensures)

pub after-requires-clause-place : goal.after-requires-clause-place
after-requires-clause-place c =
    let P : List ℕ → Type 0 = λ xs. c.args.place ≤ length xs in
    subst P (sym (listed_after c.self-in-steps-2.inside.order c.self-in-steps-2.inside.machine c.turn.new.self c.steps.self c.args.self.now
    c.self-in-steps-2.invariant c.self-in-steps-2.view_is (turn_keeps_load c.steps.self c.turn.new.self c.client-client.result c.turn.result c.turn.ensures)
    c.steps.invariant.same)) c.requires

pub returns-in-Went : goal.returns-in-Went
returns-in-Went c =
    let before : c.self.inside.order ≡ order_of c.args.self.now.load =
    listed c.self.inside.order c.self.inside.machine c.args.self.now c.args.self.now c.self.invariant c.self.view_is refl in
    let now : c.self-in-steps.inside.order ≡ order_of c.args.self.now.load = listed c.self-in-steps.inside.order c.self-in-steps.inside.machine c.steps.self
    c.args.self.now c.self-in-steps.invariant c.self-in-steps.view_is c.steps.invariant.same in
    let behind : c.self-in-steps-2.inside.order ≡ order_of c.args.self.now.load =
    listed_after c.self-in-steps-2.inside.order c.self-in-steps-2.inside.machine c.turn.new.self c.steps.self c.args.self.now
    c.self-in-steps-2.invariant c.self-in-steps-2.view_is (turn_keeps_load c.steps.self c.turn.new.self c.client-client.result c.turn.result c.turn.ensures)
    c.steps.invariant.same in
    let many : c.len-step-end.result ≡ length (order_of c.args.self.now.load) = c.len-step-end.ensures ∙ ap (λ (xs : List ℕ). length xs) before in
    let low : c.steps.step < c.len-step-end.result = c.steps-test.true in
    goes_next c.args.self.now c.steps.self c.turn.new.self c.self-in-steps.inside.order c.self-in-steps-2.inside.order c.args.place c.steps.step
    c.client-client.result c.after.result c.steps.invariant.same now behind c.requires (omega arith) c.client-client.ensures c.steps.invariant.passed
    c.first_enabled_comes_next.ensures.some c.in-Went.ensures c.after.ensures.value c.after.ensures.within

pub returns-in-Long : goal.returns-in-Long
returns-in-Long c =
    let P : Kept → Type 0 = λ w. IsLong w in (
      c.in-Long.ensures.0 ∙ c.steps.invariant.same,
      subst P c.steps.invariant.same (record {
        undone = enabled_undone c.steps.self.load c.steps.self.state c.client-client.result c.in-Long.ensures.1;
        full = c.in-Long.ensures.2;
      }),
    )

pub returns-in-Memory : goal.returns-in-Memory
returns-in-Memory c =
    let P : Kept → Type 0 = λ w. LacksMemory w in (
      c.in-Memory.ensures.0 ∙ c.steps.invariant.same,
      subst P c.steps.invariant.same (record { client = c.client-client.result; may = c.in-Memory.ensures.1; takes = c.in-Memory.ensures.2 }),
    )

pub steps-preserved : goal.steps-preserved
steps-preserved c =
    let now : c.self-in-steps.inside.order ≡ order_of c.args.self.now.load = listed c.self-in-steps.inside.order c.self-in-steps.inside.machine c.steps.self
    c.args.self.now c.self-in-steps.invariant c.self-in-steps.view_is c.steps.invariant.same in
    let off : Kept → Type 0 = λ w. is_enabled w.load w.state c.client-client.result ≡ false in
    elim c.match-turn.branch [
      | in-NotYet w ↦ record {
        same = w.in-NotYet.ensures.0 ∙ c.steps.invariant.same;
        passed = pass_on c.args.self.now.load c.args.self.now.state c.self-in-steps.inside.order c.args.place c.steps.step c.client-client.result now
            c.client-client.ensures (subst off c.steps.invariant.same w.in-NotYet.ensures.1.disabled) c.steps.invariant.passed;
      }
      | in-Done w ↦ record {
        same = w.in-Done.ensures.0 ∙ c.steps.invariant.same;
        passed = pass_on c.args.self.now.load c.args.self.now.state c.self-in-steps.inside.order c.args.place c.steps.step c.client-client.result now
            c.client-client.ensures
            (subst off c.steps.invariant.same (done_disabled c.steps.self.load c.steps.self.state c.client-client.result w.in-Done.ensures.1))
            c.steps.invariant.passed;
      }
    ]

pub returns : goal.returns
returns c =
    let before : c.self.inside.order ≡ order_of c.args.self.now.load =
    listed c.self.inside.order c.self.inside.machine c.args.self.now c.args.self.now c.self.invariant c.self.view_is refl in
    let many : c.len-step-end.result ≡ length (order_of c.args.self.now.load) = c.len-step-end.ensures ∙ ap (λ (xs : List ℕ). length xs) before in
    let V : Kept → Type 0 = λ w. Valid w.load in
    let R : Kept → Type 0 = λ w. Run w.load w.log w.state in (
      c.steps.invariant.same,
      nobody_all_done c.args.self.now.load c.args.self.now.log c.args.self.now.state c.args.place c.steps.step
          (subst V c.self.view_is c.is_kept.ensures.valid) (subst R c.self.view_is c.is_kept.ensures.run) c.states_are_sound.ensures
          c.some_thread_is_enabled.ensures c.requires (omega arith) c.steps.invariant.passed,
    )
