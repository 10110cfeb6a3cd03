use Rattle.std.proofs.Common.{◌≡◌, ◌<◌, ◌≤◌, length, None, refl, sym, subst, ap, ◌∙◌}
use Rattle.std.specs.Option.{option_copied}
use Rattle.machine_defs.specs.State.{stack, top}
use Rattle.machine_steps.specs.Kept.{Kept}
use Rattle.machine_steps.specs.Wishes.{IsLiveTop, IsDeadTop}
use Rattle.machine_steps.proofs.Settling.{stack_there, top_told}
use Rattle.machine_steps.proofs.machine.Machine.next.Goals as goal

pub top-requires : goal.top-requires
top-requires c = stack_there c.self.invariant c.args.t (subst (λ (w : Kept). (0 < c.args.t) × (c.args.t ≤ length w.load.clients)) (sym c.self.view_is) c.requires.a_client)

pub next_of_script-requires-clause-no_frame : goal.next_of_script-requires-clause-no_frame
next_of_script-requires-clause-no_frame c =
    subst (λ (w : Kept). top (stack w.state c.args.t) ≡ None) c.self.view_is (sym (top_told c.self.inside c.args.t) ∙ (sym c.top.ensures ∙ ap (λ x. option_copied x) c.in-None.is))

pub next_of_frame-requires-clause-lives : goal.next_of_frame-requires-clause-lives
next_of_frame-requires-clause-lives c = subst (λ (w : Kept). IsLiveTop w c.args.t c.in-Some.frame.now.instance) c.self.view_is (record {
  frame = c.in-Some.frame.now;
  on_top = sym (top_told c.self.inside c.args.t) ∙ (sym c.top.ensures ∙ ap (λ x. option_copied x) c.in-Some.is);
  inside = refl;
  lives = sym c.is_live.ensures ∙ c.if-is_live.true;
})

pub next_of_dead-requires-clause-dead : goal.next_of_dead-requires-clause-dead
next_of_dead-requires-clause-dead c = subst (λ (w : Kept). IsDeadTop w c.args.t c.in-Some.frame.now.call c.in-Some.frame.now.target) c.self.view_is (record {
  frame = c.in-Some.frame.now;
  on_top = sym (top_told c.self.inside c.args.t) ∙ (sym c.top.ensures ∙ ap (λ x. option_copied x) c.in-Some.is);
  dead = sym c.is_live.ensures ∙ c.if-is_live.false;
  call = refl;
  through = refl;
})

pub returns-in-None : goal.returns-in-None
returns-in-None c = c.next_of_script.ensures c.args.stand.now

pub returns-in-Some-2 : goal.returns-in-Some-2
returns-in-Some-2 c = c.next_of_dead.ensures c.args.stand.now
