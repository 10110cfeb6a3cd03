-- Calls: what a thread wishes to call, what stands in its way, and which threads wait.
use Rattle.std.specs.Prelude.{ℕ, ◌+◌, ◌-◌, ◌==◌, ◌&&◌, ◌||◌, [], ◌∷◌, List, Option, Some, None, map, nat_le, Bool, length, not, false, nat_lt, if◌then◌else◌, is_none}
use Rattle.std.specs.List.{list_any}
use Rattle.std.specs.Option.{option_and_then, option_map_or}
use Rattle.rl_defs.specs.declared.values.Value.TheVariants as value
use Rattle.machine_defs.specs.declared.frame.Action.TheVariants as action
use Rattle.rl_defs.specs.declared.load.Command.TheVariants as command
use Rattle.machine_defs.specs.declared.values.RpcCode.TheVariants as code
use Rattle.machine_defs.specs.declared.values.Arg.{Arg}
use Rattle.rl_defs.specs.declared.values.Value.{Value}
use Rattle.rl_defs.specs.declared.load.LoadRows.{LoadRows}
use Rattle.machine_defs.specs.declared.values.RpcCode.{RpcCode}
use Rattle.machine_defs.specs.State.{State, Thread, with_thread, StackFrame, stack, is_live, instance_load, current, top}
use Rattle.machine_defs.specs.Arguments.{has, moved_of}
use Rattle.machine_defs.specs.Frames.{waiting, with_top}
use Rattle.machine_defs.specs.Wants.{Want, Commands, Acts, arg_of, wanted}
use Rattle.rl_defs.specs.Rows.{row}
use Rattle.rl_defs.specs.Domains.{is_serial, load_of_target, method_of}

-- a call that a thread would make next: the target, the method, the arguments, and the state once
-- the caller has paid for the call and has given its moved objects up
pub record Wish : Type 0 where
  pub target : ℕ
  pub method : ℕ
  pub args : List Arg
  pub charged : State

-- a script name that holds a moved object is no longer bound
abbrev pub unless_moved : List ℕ → Option Value → Option Value
unless_moved moved (Some (value.Obj o)) = if has moved o then None else Some (value.Obj o)
unless_moved moved v = v

abbrev pub client_wish : LoadRows → State → ℕ → Thread → ℕ → ℕ → List Arg → Wish
client_wish L s t thread x m args = record {
  target = x;
  method = m;
  args = args;
  charged = with_thread s t (record thread { fuel = L.fuel - 1; names = map (unless_moved (moved_of args)) thread.names });
}

-- the call is charged to the thread, and its frame waits without the objects that it moves
abbrev pub with_fuel : ℕ → Thread → Thread
with_fuel fuel thread = record thread { fuel = fuel }

abbrev pub frame_wish : LoadRows → State → ℕ → Thread → ℕ → ℕ → List Arg → ℕ → StackFrame → Wish
frame_wish L s t thread x m args fuel f = record {
  target = x;
  method = m;
  args = args;
  charged = with_top t (waiting L s (moved_of args) f) (with_thread s t (with_fuel (fuel - 1) thread));
}

-- the call that a thread wants to make
abbrev pub wish_of : LoadRows → State → ℕ → Thread → Want → Option Wish
wish_of L s t thread (Commands (command.Call x m args names)) = Some (client_wish L s t thread x m (map (arg_of thread.names) args))
wish_of L s t thread (Acts (action.Call x m args) fuel f) = Some (frame_wish L s t thread x m args fuel f)
wish_of L s t thread _ = None

abbrev pub wish : LoadRows → State → ℕ → Option Wish
wish L s t = option_and_then (λ thread. wish_of L s t thread (wanted L s t)) (row s.threads t)

-- a stack has room for 31 frames above the client's own
abbrev pub is_deep : State → ℕ → Bool
is_deep s t = nat_le 31 (length (stack s t))

-- a frame in a live serial instance whose rank, its load's number, isn't above this one
abbrev pub outranks : LoadRows → State → ℕ → StackFrame → Bool
outranks L s rank f = (is_live s f.instance && is_serial L (instance_load s f.instance)) && nat_le (instance_load s f.instance) rank

-- a thread enters serial domains by falling rank only
abbrev pub breaks_order : LoadRows → State → ℕ → ℕ → Bool
breaks_order L s t x = is_serial L (load_of_target L x) && list_any (outranks L s (load_of_target L x)) (stack s t)

-- whether a client other than t has a frame in the instance; the stacks are those from client k on
abbrev pub is_in : ℕ → List StackFrame → Bool
is_in i frames = list_any (λ f. f.instance == i) frames

abbrev pub others_in : ℕ → ℕ → ℕ → List (List StackFrame) → Bool
others_in i t k [] = false
others_in i t k (frames ∷ stacks) = (not (k == t) && is_in i frames) || others_in i t (k + 1) stacks

-- whether t may not yet enter the instance, since it is serial and another thread has a frame in it
abbrev pub is_taken : LoadRows → State → ℕ → ℕ → Bool
is_taken L s t i = is_serial L (instance_load s i) && others_in i t 1 s.stacks

-- a thread is enabled where it isn't done and doesn't wait to enter. A call that is issued again is
-- not there yet
abbrev pub is_undone : Option Thread → Bool
is_undone None = false
is_undone (Some thread) = not thread.done

-- the restarts that a target has left; a load has none
abbrev pub restarts_left : LoadRows → State → ℕ → ℕ
restarts_left L s x = option_map_or (λ shadow. shadow.left) (row s.shadows (x - length L.loads)) 0

-- the target's instance has ended, and no restart is left
abbrev pub is_gone : LoadRows → State → ℕ → Bool
is_gone L s x = not (is_live s (current L s x)) && (restarts_left L s x == 0)

-- why a call of a target is refused: the first that holds
abbrev pub refusal : LoadRows → State → ℕ → ℕ → Option RpcCode
refusal L s t x = if is_deep s t then Some code.Deep else (if is_gone L s x then Some code.Gone else (if breaks_order L s t x then Some code.Order else None))

-- a frame is dead where its instance has ended
abbrev pub is_dead : State → StackFrame → Bool
is_dead s f = not (is_live s f.instance)

-- a call may be issued again where it went through a shadow to an idempotent method
abbrev pub is_shadow : LoadRows → ℕ → Bool
is_shadow L x = nat_lt (length L.loads) x

abbrev pub is_idempotent : LoadRows → ℕ → ℕ → Bool
is_idempotent L x m = option_map_or (λ method. method.idempotent) (method_of L x m) false

abbrev pub is_reissuable : LoadRows → StackFrame → Bool
is_reissuable L f = is_shadow L f.target && is_idempotent L f.target f.method

-- a thread waits where its next step would enter a live serial instance in which another thread has
-- a frame
abbrev pub would_enter : LoadRows → State → ℕ → Option Wish → Bool
would_enter L s t None = false
would_enter L s t (Some w) = (is_live s (current L s w.target) && is_none (refusal L s t w.target)) && is_taken L s t (current L s w.target)

abbrev pub would_reenter : LoadRows → State → ℕ → Option StackFrame → Bool
would_reenter L s t None = false
would_reenter L s t (Some f) = ((is_dead s f && is_reissuable L f) && is_live s (current L s f.target)) && is_taken L s t (current L s f.target)

abbrev pub waits : LoadRows → State → ℕ → Bool
waits L s t = would_enter L s t (wish L s t) || would_reenter L s t (top (stack s t))

-- a thread is enabled where it isn't done and doesn't wait
abbrev pub is_enabled : LoadRows → State → ℕ → Bool
is_enabled L s t = is_undone (row s.threads t) && not (waits L s t)
