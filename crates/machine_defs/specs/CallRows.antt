-- The steps by which calls begin and end, and instances end and are loaded again.
use Rattle.std.specs.Prelude.{◌≡◌, ℕ, ◌+◌, ◌-◌, ◌⊎◌, ◌||◌, [], ◌∷◌, ◌++◌, List, true, Some, None, not, Bool, length, slice_set, false}
use Rattle.std.specs.List.{filter_map}
use Rattle.std.specs.Option.{option_map_or}
use Rattle.machine_defs.specs.declared.values.Owner.TheVariants as owner
use Rattle.machine_defs.specs.declared.values.RpcCode.TheVariants as code
use Rattle.machine_defs.specs.declared.frame.Answer.TheVariants as answer
use Rattle.machine_defs.specs.declared.frame.Action.TheVariants as action
use Rattle.rl_defs.specs.declared.load.Command.TheVariants as command
use Rattle.machine_defs.specs.declared.values.Owner.{Owner}
use Rattle.machine_defs.specs.declared.values.Arg.{Arg}
use Rattle.rl_defs.specs.declared.load.LoadRows.{LoadRows}
use Rattle.machine_defs.specs.declared.values.RpcCode.{RpcCode}
use Rattle.rl_defs.specs.declared.values.Value.{Value}
use Rattle.machine_defs.specs.declared.values.Cause.{Cause}
use Rattle.machine_defs.specs.State.{State, StackFrame, stack, with_stack, is_live, current, Thread, with_thread, top, first_instance, Shadow}
use Rattle.machine_defs.specs.Objects.{given_to, without}
use Rattle.machine_defs.specs.Arguments.{moved_of, object_of_value}
use Rattle.machine_defs.specs.Calling.{refusal, wish, with_fuel, is_dead, is_gone, is_reissuable, Wish}
use Rattle.machine_defs.specs.Frames.{Begins, Replies, popped, acting, with_top, after_command}
use Rattle.rl_defs.specs.Rows.{row}
use Rattle.machine_defs.specs.Wants.{Acts, wanted, Commands}
use Rattle.machine_defs.specs.Seen.{ended}
use Rattle.rl_defs.specs.Domains.{load_row, load_of_target}

-- objects pass to an owner
abbrev pub passed_to : Owner → List ℕ → State → State
passed_to w os s = record s { objects = given_to w os s.objects }

-- a call number is used
abbrev pub numbered : ℕ → State → State
numbered c s = record s { next_call = c + 1 }

-- `call`: the wished call meets no refusal, and enters the live instance that its target stands
-- for. The moved arguments pass to it.
abbrev pub call_entered : ℕ → ℕ → ℕ → List Arg → StackFrame → State → State
call_entered t c i args f s = numbered c (passed_to (owner.Instance i) (moved_of args) (with_stack s t (stack s t ++ f ∷ [])))

pub record Calls (L : LoadRows) (s : State) (t c x i m : ℕ) (args : List Arg) (z : State) : Type 0 where
  pub charged : State
  pub frame : StackFrame
  pub wants : wish L s t ≡ Some (record { target = x; method = m; args = args; charged = charged })
  pub unrefused : refusal L s t x ≡ None
  pub into : i ≡ current L s x
  pub lives : is_live s i ≡ true
  pub number : c ≡ s.next_call
  pub begins : Begins L z c x i m args frame
  pub becomes : z ≡ call_entered t c i args frame charged

-- `refuse`: the wished call meets a refusal. Its moved arguments are dropped, and the caller gets
-- the code.
pub record Refuses (L : LoadRows) (s : State) (t c : ℕ) (why : RpcCode) (x m : ℕ) (args : List Arg) (z : State) : Type 0 where
  pub charged : State
  pub wants : wish L s t ≡ Some (record { target = x; method = m; args = args; charged = charged })
  pub refused : refusal L s t x ≡ Some why
  pub number : c ≡ s.next_call
  pub replies : Replies L (numbered c (without (moved_of args) charged)) t (answer.Failed why) z

-- `ret`: the top frame returns. Its loans end with it, and its results pass to whoever called it.
abbrev pub after_return : ℕ → ℕ → Thread → List Value → State → State
after_return t fuel thread results s = passed_to (acting (popped t s) t) (filter_map object_of_value results) (with_thread (popped t s) t (with_fuel (fuel - 1) thread))

pub record Returns (L : LoadRows) (s : State) (t c : ℕ) (results : List Value) (z : State) : Type 0 where
  pub thread : Thread
  pub fuel : ℕ
  pub frame : StackFrame
  pub of : row s.threads t ≡ Some thread
  pub wants : wanted L s t ≡ Acts (action.Ret results) fuel frame
  pub call : c ≡ frame.call
  pub replies : Replies L (after_return t fuel thread results s) t (answer.Back results) z

-- the top frame of a thread is dead, and is of this call
pub record IsDeadCall (s : State) (t c : ℕ) (frame : StackFrame) : Type 0 where
  pub on_top : top (stack s t) ≡ Some frame
  pub dead : is_dead s frame ≡ true
  pub call : c ≡ frame.call

-- the call may not be issued again: it went to no idempotent method of a shadow, or the shadow is
-- gone for good
abbrev pub is_over : LoadRows → State → StackFrame → Bool
is_over L s f = not (is_reissuable L f) || is_gone L s f.target

-- `unwound`: the frame of an ended instance ends with its loans, and its caller gets the code.
pub record Unwinds (L : LoadRows) (s : State) (t c : ℕ) (z : State) : Type 0 where
  pub frame : StackFrame
  pub of : IsDeadCall s t c frame
  pub over : is_over L s frame ≡ true
  pub replies : Replies L (popped t s) t (answer.Failed code.Unwound) z

-- `again`: the call of the dead frame is issued once more in the shadow's live instance, with the
-- same arguments and loans, at no charge.
pub record IssuesAgain (L : LoadRows) (s : State) (t c x i : ℕ) (z : State) : Type 0 where
  pub dead : StackFrame
  pub frame : StackFrame
  pub of : IsDeadCall s t c dead
  pub through : x ≡ dead.target
  pub reissuable : is_reissuable L dead ≡ true
  pub into : i ≡ current L s x
  pub lives : is_live s i ≡ true
  pub begins : Begins L z c x i dead.method dead.args frame
  pub becomes : z ≡ with_top t frame s

-- a thread needs the shadow: it wants to call it and meets no refusal, or its dead frame may be
-- issued again through it
pub record WouldCall (L : LoadRows) (s : State) (t x : ℕ) : Type 0 where
  pub wished : Wish
  pub wants : wish L s t ≡ Some wished
  pub target : wished.target ≡ x
  pub unrefused : refusal L s t x ≡ None

pub record WouldReenter (L : LoadRows) (s : State) (t x : ℕ) : Type 0 where
  pub frame : StackFrame
  pub on_top : top (stack s t) ≡ Some frame
  pub dead : is_dead s frame ≡ true
  pub reissuable : is_reissuable L frame ≡ true
  pub target : frame.target ≡ x

abbrev pub Needs : LoadRows → State → ℕ → ℕ → Type 0
Needs L s t x = WouldCall L s t x ⊎ WouldReenter L s t x

-- `reload`: the instance of the shadow has ended and a restart is left. A fresh instance of its
-- load takes its place; nothing else changes.
abbrev pub reloaded : LoadRows → ℕ → ℕ → ℕ → State → State
reloaded L x i left s = record s {
  instances = s.instances ++ option_map_or (λ l. first_instance L (load_of_target L x) l ∷ []) (load_row L (load_of_target L x)) [];
  shadows = slice_set s.shadows (x - length L.loads - 1) (record { current = i; left = left });
}

pub record Reloads (L : LoadRows) (s : State) (t x i left : ℕ) (z : State) : Type 0 where
  pub shadow : Shadow
  pub of : row s.shadows (x - length L.loads) ≡ Some shadow
  pub dead : is_live s shadow.current ≡ false
  pub restarts : shadow.left ≡ left + 1
  pub needed : Needs L s t x
  pub number : i ≡ length s.instances + 1
  pub becomes : z ≡ reloaded L x i left s

-- `trap`: the instance of the top frame ends. Frames stay where they are.
pub record Traps (L : LoadRows) (s : State) (t i : ℕ) (cause : Cause) (z : State) : Type 0 where
  pub thread : Thread
  pub fuel : ℕ
  pub frame : StackFrame
  pub of : row s.threads t ≡ Some thread
  pub wants : wanted L s t ≡ Acts (action.Trap cause) fuel frame
  pub inside : i ≡ frame.instance
  pub becomes : z ≡ ended i (with_thread s t (with_fuel fuel thread))

-- a client's command takes the plan's fuel and costs 1, and the next command comes
abbrev pub command_done : LoadRows → ℕ → List Value → Thread → Thread
command_done L t results thread = after_command L t (with_fuel (L.fuel - 1) thread) results

-- `kill`: a client ends the instance that the target stands for. One that has ended stays as it is.
pub record Kills (L : LoadRows) (s : State) (t i : ℕ) (z : State) : Type 0 where
  pub thread : Thread
  pub target : ℕ
  pub of : row s.threads t ≡ Some thread
  pub wants : wanted L s t ≡ Commands (command.Kill target)
  pub inside : i ≡ current L s target
  pub becomes : z ≡ ended i (with_thread s t (command_done L t [] thread))
