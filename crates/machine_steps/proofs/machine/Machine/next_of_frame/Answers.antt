use Rattle.std.proofs.Common.{◌≡◌, true, subst}
use Rattle.machine_defs.specs.State.{is_live}
use Rattle.machine_steps.proofs.Choosing.{call_reloads, call_waits, wished_by_frame, live_stays}
use Rattle.machine_steps.proofs.machine.Machine.next_of_frame.Goals as goal

pub returns-in-Reload : goal.returns-in-Reload
returns-in-Reload c =
    let wished = wished_by_frame c.in-Call.ensures in
    let lives = c.requires.lives in
    call_reloads c.args.self.now c.args.t c.in-Call.target c.requires.undone wished.0 wished.1 wished.2
    (live_stays c.args.self.now c.args.t lives.frame lives.on_top (subst (λ j. is_live c.args.self.now.state j ≡ true) lives.inside lives.lives)) c.in-Reload.ensures

pub returns-in-Wait : goal.returns-in-Wait
returns-in-Wait c =
    let wished = wished_by_frame c.in-Call.ensures in
    let lives = c.requires.lives in
    call_waits c.args.self.now c.args.t c.in-Call.target c.requires.undone wished.0 wished.1 wished.2
    (live_stays c.args.self.now c.args.t lives.frame lives.on_top (subst (λ j. is_live c.args.self.now.state j ≡ true) lives.inside lives.lives)) c.in-Wait.client c.in-Wait.ensures
