use Rattle.machine_steps.proofs.Choosing.{call_reloads, call_waits, wished_by_client, alone_stays}
use Rattle.machine_steps.proofs.machine.Machine.next_of_call.Goals as goal

pub returns-in-Reload : goal.returns-in-Reload
returns-in-Reload c stand =
    let wished = wished_by_client c.requires.calls in
    call_reloads c.args.self.now c.args.t c.args.call.target c.requires.undone wished.0 wished.1 wished.2 (alone_stays c.args.self.now c.args.t c.requires.no_frame) c.in-Reload.ensures

pub returns-in-Wait : goal.returns-in-Wait
returns-in-Wait c stand =
    let wished = wished_by_client c.requires.calls in
    call_waits c.args.self.now c.args.t c.args.call.target c.requires.undone wished.0 wished.1 wished.2 (alone_stays c.args.self.now c.args.t c.requires.no_frame) c.in-Wait.client c.in-Wait.ensures
