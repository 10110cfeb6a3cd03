use Rattle.std.proofs.Common.{sym, subst}
use Rattle.machine_steps.specs.Kept.{MayStep}
use Rattle.machine_steps.specs.Calls.{MayIssueAgain}
use Rattle.machine_steps.proofs.Stacked.{still_client}
use Rattle.machine_steps.proofs.AgainSteps.{dead_client, again_target, again_enters, again_room, again_counted, again_goes}
use Rattle.machine_steps.proofs.machine.Machine.again.Goals as goal

pub frame_at_entry-frame-requires-clause-target : goal.frame_at_entry-frame-requires-clause-target
frame_at_entry-frame-requires-clause-target c =
    again_target c.self.invariant c.args.t c.args.c c.args.x c.args.i (subst (λ w. MayStep w c.args.t) (sym c.self.view_is) c.requires.may) (subst (λ w. MayIssueAgain w c.args.t c.args.c c.args.x c.args.i) (sym c.self.view_is) c.requires.again)

pub frame_at_entry-frame-requires-clause-enters : goal.frame_at_entry-frame-requires-clause-enters
frame_at_entry-frame-requires-clause-enters c =
    again_enters c.self.invariant c.args.t c.args.c c.args.x c.args.i (subst (λ w. MayStep w c.args.t) (sym c.self.view_is) c.requires.may) (subst (λ w. MayIssueAgain w c.args.t c.args.c c.args.x c.args.i) (sym c.self.view_is) c.requires.again) c.pop-dead.result c.pop-dead.ensures.gives

pub push-requires-clause-a_client : goal.push-requires-clause-a_client
push-requires-clause-a_client c =
    still_client c.self.inside.stacks.frames c.pop-dead.new.self.frames c.args.t _ c.pop-dead.ensures.frames (dead_client c.self.invariant c.args.t c.args.c c.args.x c.args.i (subst (λ w. MayStep w c.args.t) (sym c.self.view_is) c.requires.may) (subst (λ w. MayIssueAgain w c.args.t c.args.c c.args.x c.args.i) (sym c.self.view_is) c.requires.again))

pub push-requires-clause-room : goal.push-requires-clause-room
push-requires-clause-room c =
    again_room c.self.invariant c.args.t c.args.c c.args.x c.args.i (subst (λ w. MayStep w c.args.t) (sym c.self.view_is) c.requires.may) (subst (λ w. MayIssueAgain w c.args.t c.args.c c.args.x c.args.i) (sym c.self.view_is) c.requires.again) c.laws.ensures c.pop-dead.new.self c.pop-dead.ensures.frames

pub push-requires-clause-counted : goal.push-requires-clause-counted
push-requires-clause-counted c =
    again_counted c.self.invariant c.args.t c.args.c c.args.x c.args.i (subst (λ w. MayStep w c.args.t) (sym c.self.view_is) c.requires.may) (subst (λ w. MayIssueAgain w c.args.t c.args.c c.args.x c.args.i) (sym c.self.view_is) c.requires.again) c.pop-dead.new.self c.pop-dead.result c.frame_at_entry-frame.result c.pop-dead.ensures.instances c.frame_at_entry-frame.ensures

pub invariant_of-self : goal.invariant_of-self
invariant_of-self c =
    (again_goes c.self.invariant c.args.t c.args.c c.args.x c.args.i (subst (λ w. MayStep w c.args.t) (sym c.self.view_is) c.requires.may) (subst (λ w. MayIssueAgain w c.args.t c.args.c c.args.x c.args.i) (sym c.self.view_is) c.requires.again) c.laws.ensures
    c.pop-dead.ensures.gives c.frame_at_entry-frame.ensures c.put.ensures.entries c.put.ensures.spare c.pop-dead.ensures.frames c.pop-dead.ensures.instances c.push.ensures.frames c.push.ensures.instances).kept

pub returns : goal.returns
returns c = rw (← c.self.view_is)
    (again_goes c.self.invariant c.args.t c.args.c c.args.x c.args.i (subst (λ w. MayStep w c.args.t) (sym c.self.view_is) c.requires.may) (subst (λ w. MayIssueAgain w c.args.t c.args.c c.args.x c.args.i) (sym c.self.view_is) c.requires.again) c.laws.ensures
    c.pop-dead.ensures.gives c.frame_at_entry-frame.ensures c.put.ensures.entries c.put.ensures.spare c.pop-dead.ensures.frames c.pop-dead.ensures.instances c.push.ensures.frames c.push.ensures.instances).went
