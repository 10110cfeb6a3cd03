-- What it tells that a thread wishes to call: the client's command, or the action of its top frame.
use Rattle.std.proofs.Common.{◌≡◌, ℕ, ◌⊎◌, inl, inr, List, map, Option, Some, None, refl, subst}
use Rattle.machine_defs.specs.declared.frame.Action.{Action}
use Rattle.machine_defs.specs.declared.frame.Action.TheVariants as action
use Rattle.rl_defs.specs.declared.load.LoadRows.{LoadRows}
use Rattle.rl_defs.specs.declared.load.ScriptArg.{ScriptArg}
use Rattle.rl_defs.specs.declared.load.Command.{Command}
use Rattle.rl_defs.specs.declared.load.Command.TheVariants as command
use Rattle.machine_defs.specs.State.{State, StackFrame, Thread}
use Rattle.rl_defs.specs.Rows.{row}
use Rattle.machine_defs.specs.Wants.{Want, Commands, Acts, arg_of}
use Rattle.machine_defs.specs.Calling.{Wish, client_wish}
use Rattle.machine_defs.specs.Wants.{wanted}
use Rattle.machine_defs.specs.Calling.{wish, wish_of, frame_wish}
use Rattle.machine_laws.proofs.Parts.{wish_in}

-- the client's command is the call
pub record ClientWish (L : LoadRows) (s : State) (t : ℕ) (w : Wish) : Type 0 where
  pub thread : Thread
  pub of : row s.threads t ≡ Some thread
  pub given : List ScriptArg
  pub names : List ℕ
  pub wants : wanted L s t ≡ Commands (command.Call w.target w.method given names)
  pub is : w ≡ client_wish L s t thread w.target w.method (map (arg_of thread.names) given)

-- the top frame's action is the call
pub record FrameWish (L : LoadRows) (s : State) (t : ℕ) (w : Wish) : Type 0 where
  pub thread : Thread
  pub of : row s.threads t ≡ Some thread
  pub fuel : ℕ
  pub frame : StackFrame
  pub wants : wanted L s t ≡ Acts (action.Call w.target w.method w.args) fuel frame
  pub is : w ≡ frame_wish L s t thread w.target w.method w.args fuel frame

pub wish_as : (L : LoadRows) (s : State) (t : ℕ) (w : Wish) → wish L s t ≡ Some w → ClientWish L s t w ⊎ FrameWish L s t w
wish_as L s t w e = by_row (row s.threads t) refl
  where
    by_row : (thread : Option Thread) → row s.threads t ≡ thread → ClientWish L s t w ⊎ FrameWish L s t w
    by_row None of = absurd (let e' : wish_in L s t None ≡ Some w = subst (λ o. wish_in L s t o ≡ Some w) of e in cc)
    by_row (Some thread) of = by_want (wanted L s t) refl (subst (λ o. wish_in L s t o ≡ Some w) of e)
      where
        of_command : (next : Command) → wanted L s t ≡ Commands next → wish_of L s t thread (Commands next) ≡ Some w → ClientWish L s t w ⊎ FrameWish L s t w
        of_command (command.Call x m given names) is h =
            let same : client_wish L s t thread x m (map (arg_of thread.names) given) ≡ w = cc in
            subst (λ v. ClientWish L s t v ⊎ FrameWish L s t v) same (inl (record { thread = thread; of = of; given = given; names = names; wants = is; is = refl }))
        of_command other is h = absurd cc

        of_action : (act : Action) (fuel : ℕ) (frame : StackFrame) → wanted L s t ≡ Acts act fuel frame → wish_of L s t thread (Acts act fuel frame) ≡ Some w → ClientWish L s t w ⊎ FrameWish L s t w
        of_action (action.Call x m args) fuel frame is h =
            let same : frame_wish L s t thread x m args fuel frame ≡ w = cc in
            subst (λ v. ClientWish L s t v ⊎ FrameWish L s t v) same (inr (record { thread = thread; of = of; fuel = fuel; frame = frame; wants = is; is = refl }))
        of_action other fuel frame is h = absurd cc

        by_want : (want : Want) → wanted L s t ≡ want → wish_of L s t thread (wanted L s t) ≡ Some w → ClientWish L s t w ⊎ FrameWish L s t w
        by_want (Commands next) is h = of_command next is (let h' : wish_of L s t thread (Commands next) ≡ Some w = rw is at h in h')
        by_want (Acts act fuel frame) is h = of_action act fuel frame is (let h' : wish_of L s t thread (Acts act fuel frame) ≡ Some w = rw is at h in h')
        by_want other is h = absurd (let h' : wish_of L s t thread other ≡ Some w = rw is at h in cc)
