use Rattle.std.proofs.Common.{◌≡◌, length, Some, None, sym, subst, ap, arith}
use Rattle.rl_defs.specs.Rows.{row}
use Rattle.machine_defs.specs.State.{stack, top}
use Rattle.machine_defs.specs.Wants.{Commands, wanted}
use Rattle.machine_steps.specs.Kept.{Kept}
use Rattle.machine_steps.proofs.Choosing.{show_held, drop_held, call_few}
use Rattle.machine_steps.proofs.machine.Machine.next_of_command.Goals as goal

pub object_named-requires : goal.object_named-requires
object_named-requires c =
    show_held c.self.invariant c.args.t c.args.thread.now (subst (λ (w : Kept). row w.state.threads c.args.t ≡ Some c.args.thread.now) (sym c.self.view_is) c.requires.thread)
    (subst (λ (w : Kept). top (stack w.state c.args.t) ≡ None) (sym c.self.view_is) c.requires.no_frame) c.args.command.now
    (subst (λ (w : Kept). wanted w.load w.state c.args.t ≡ Commands c.args.command.now) (sym c.self.view_is) c.requires.wants) c.in-Show.name c.in-Show.is

pub object_named-requires-in-Drop : goal.object_named-requires-in-Drop
object_named-requires-in-Drop c =
    drop_held c.self.invariant c.args.t c.args.thread.now (subst (λ (w : Kept). row w.state.threads c.args.t ≡ Some c.args.thread.now) (sym c.self.view_is) c.requires.thread)
    (subst (λ (w : Kept). top (stack w.state c.args.t) ≡ None) (sym c.self.view_is) c.requires.no_frame) c.args.command.now
    (subst (λ (w : Kept). wanted w.load w.state c.args.t ≡ Commands c.args.command.now) (sym c.self.view_is) c.requires.wants) c.in-Drop.name c.in-Drop.is

pub args-requires : goal.args-requires
args-requires c =
    let few = call_few c.self.invariant c.args.t c.args.thread.now (subst (λ (w : Kept). row w.state.threads c.args.t ≡ Some c.args.thread.now) (sym c.self.view_is) c.requires.thread)
    (subst (λ (w : Kept). top (stack w.state c.args.t) ≡ None) (sym c.self.view_is) c.requires.no_frame) c.args.command.now
    (subst (λ (w : Kept). wanted w.load w.state c.args.t ≡ Commands c.args.command.now) (sym c.self.view_is) c.requires.wants) c.in-Call.target c.in-Call.method c.in-Call.args c.in-Call.names c.in-Call.is in
    let same : length c.as_slice.result.now ≡ length c.in-Call.args = ap length c.as_slice.ensures in
    omega (arith, few, same)
