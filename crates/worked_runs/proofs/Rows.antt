-- Steps that come again and again in the worked runs.
use Rattle.std.proofs.Common.{◌≡◌, ℕ, ◌+◌, ◌-◌, List, [], length, true, false, Some, None, refl, inr}
use Rattle.rl_defs.specs.declared.load.LoadRows.{LoadRows}
use Rattle.rl_defs.specs.declared.load.Command.TheVariants as command
use Rattle.rl_defs.specs.declared.values.Value.{Value}
use Rattle.rl_defs.specs.Rows.{row, domain_of_load}
use Rattle.rl_defs.specs.Domains.{is_native, load_of_target}
use Rattle.rl_defs.specs.CodeNames.{entry_at}
use Rattle.machine_defs.specs.declared.values.Arg.{Arg}
use Rattle.machine_defs.specs.declared.values.Owner.TheVariants as owner
use Rattle.machine_defs.specs.declared.values.RpcCode.TheVariants as code
use Rattle.machine_defs.specs.declared.frame.Action.{Action}
use Rattle.machine_defs.specs.declared.frame.Action.TheVariants as action
use Rattle.machine_defs.specs.declared.frame.Answer.{Answer}
use Rattle.machine_defs.specs.declared.frame.Answer.TheVariants as answer
use Rattle.machine_defs.specs.declared.frame.FrameBody.TheVariants as body
use Rattle.machine_defs.specs.declared.entry.Entry.{Entry}
use Rattle.machine_defs.specs.declared.entry.Entry.TheVariants as entry
use Rattle.machine_defs.specs.Arguments.{entry_registers}
use Rattle.machine_defs.specs.Calling.{is_enabled, wish, refusal, is_dead, is_reissuable, with_fuel}
use Rattle.machine_defs.specs.CallRows.{after_return, call_entered, command_done, is_over, reloaded}
use Rattle.machine_defs.specs.Entries.{thread_of}
use Rattle.machine_defs.specs.Frames.{Answers, Replies, frame_of, popped, with_top}
use Rattle.machine_defs.specs.Loans.{freed, sweep}
use Rattle.machine_defs.specs.ObjectRows.{Does}
use Rattle.machine_defs.specs.Objects.{with_new}
use Rattle.machine_defs.specs.Seen.{ended}
use Rattle.machine_defs.specs.State.{State, Shadow, StackFrame, Thread, current, is_live, stack, top, with_thread}
use Rattle.machine_defs.specs.Steps.{Row, Step}
use Rattle.machine_defs.specs.Wants.{Acts, Commands, Finishes, wanted}
use Rattle.worked_runs.specs.Parts.{quiet}

-- a turn behind which nothing is freed, by its row
pub quietly : {L : LoadRows} {s z : State} {e : Entry} → is_enabled L s (thread_of e) ≡ true → Row L s e z → [] ≡ freed z → z ≡ sweep z → Step L s (quiet e) z
quietly {z} enabled makes frees swept = record { made = z; enabled = enabled; makes = makes; frees = frees; swept = swept }

-- a call enters domain code at a line, with its arguments in the first registers
abbrev at_entry : ℕ → ℕ → ℕ → ℕ → List Arg → ℕ → StackFrame
at_entry c x i m args at = frame_of c x i m args (body.Code at (entry_registers args))

pub enters : {L : LoadRows} {s z : State} {t c x i m : ℕ} {args : List Arg} (charged : State) (at : ℕ)
    → is_enabled L s t ≡ true
    → wish L s t ≡ Some (record { target = x; method = m; args = args; charged = charged })
    → refusal L s t x ≡ None
    → i ≡ current L s x
    → is_live s i ≡ true
    → c ≡ s.next_call
    → is_native (domain_of_load L (load_of_target L x)).lines ≡ false
    → entry_at (domain_of_load L (load_of_target L x)) m ≡ Some at
    → z ≡ call_entered t c i args (at_entry c x i m args at) charged
    → [] ≡ freed z
    → z ≡ sweep z
    → Step L s (quiet (entry.Call t c x i m args)) z
enters {c} {x} {i} {m} {args} charged at enabled wants unrefused into lives number code entry becomes frees swept = quietly enabled (record {
  charged = charged;
  frame = at_entry c x i m args at;
  wants = wants;
  unrefused = unrefused;
  into = into;
  lives = lives;
  number = number;
  begins = record { is = refl; body = (code, entry, refl) };
  becomes = becomes;
}) frees swept

-- an action of the top frame
pub acts : {L : LoadRows} {s z : State} {t i : ℕ} {act : Action} {a : Answer} {change : State → State} (thread : Thread) (fuel : ℕ) (frame after : StackFrame)
    → row s.threads t ≡ Some thread
    → wanted L s t ≡ Acts act fuel frame
    → i ≡ frame.instance
    → Answers L z frame a after
    → z ≡ change (with_top t after (with_thread s t (with_fuel (fuel - 1) thread)))
    → Does L s t i act a change z
acts thread fuel frame after of wants inside answers becomes = record { thread = thread; fuel = fuel; frame = frame; after = after; of = of; wants = wants; inside = inside; answers = answers; becomes = becomes }

-- the top frame makes an object
pub makes_own : {L : LoadRows} {s z : State} {t i o ty : ℕ} (thread : Thread) (fuel : ℕ) (frame after : StackFrame)
    → is_enabled L s t ≡ true
    → row s.threads t ≡ Some thread
    → wanted L s t ≡ Acts (action.New ty) fuel frame
    → o ≡ s.next_object
    → i ≡ frame.instance
    → Answers L z frame (answer.Made o) after
    → z ≡ with_new L ty (owner.Instance i) [] (with_top t after (with_thread s t (with_fuel (fuel - 1) thread)))
    → [] ≡ freed z
    → z ≡ sweep z
    → Step L s (quiet (entry.New t (owner.Instance i) o ty [])) z
makes_own {i} thread fuel frame after enabled of wants number inside answers becomes frees swept = quietly enabled (record {
  number = number;
  makes = inr (record { inside = i; mine = refl; blank = refl; does = acts thread fuel frame after of wants inside answers becomes });
}) frees swept

-- the top frame returns, and nothing is freed
pub returns : {L : LoadRows} {s z : State} {t c : ℕ} {results : List Value} (thread : Thread) (fuel : ℕ) (frame : StackFrame)
    → is_enabled L s t ≡ true
    → row s.threads t ≡ Some thread
    → wanted L s t ≡ Acts (action.Ret results) fuel frame
    → c ≡ frame.call
    → Replies L (after_return t fuel thread results s) t (answer.Back results) z
    → [] ≡ freed z
    → z ≡ sweep z
    → Step L s (quiet (entry.Ret t c results)) z
returns thread fuel frame enabled of wants call replies frees swept =
    quietly enabled (record { thread = thread; fuel = fuel; frame = frame; of = of; wants = wants; call = call; replies = replies }) frees swept

-- a client kills what a target stands for, and nothing is freed
pub kills : {L : LoadRows} {s z : State} {t i : ℕ} (thread : Thread) (target : ℕ)
    → is_enabled L s t ≡ true
    → row s.threads t ≡ Some thread
    → wanted L s t ≡ Commands (command.Kill target)
    → i ≡ current L s target
    → z ≡ ended i (with_thread s t (command_done L t [] thread))
    → [] ≡ freed z
    → z ≡ sweep z
    → Step L s (quiet (entry.Kill t i)) z
kills thread target enabled of wants inside becomes frees swept =
    quietly enabled (record { thread = thread; target = target; of = of; wants = wants; inside = inside; becomes = becomes }) frees swept

-- a shadow is loaded again for a dead frame that goes through it
pub reloads_for : {L : LoadRows} {s z : State} {t x i left : ℕ} (shadow : Shadow) (frame : StackFrame)
    → is_enabled L s t ≡ true
    → row s.shadows (x - length L.loads) ≡ Some shadow
    → is_live s shadow.current ≡ false
    → shadow.left ≡ left + 1
    → top (stack s t) ≡ Some frame
    → is_dead s frame ≡ true
    → is_reissuable L frame ≡ true
    → frame.target ≡ x
    → i ≡ length s.instances + 1
    → z ≡ reloaded L x i left s
    → [] ≡ freed z
    → z ≡ sweep z
    → Step L s (quiet (entry.Reload t x i left)) z
reloads_for shadow frame enabled of ended restarts on_top dead reissuable target number becomes frees swept = quietly enabled (record {
  shadow = shadow;
  of = of;
  dead = ended;
  restarts = restarts;
  needed = inr (record { frame = frame; on_top = on_top; dead = dead; reissuable = reissuable; target = target });
  number = number;
  becomes = becomes;
}) frees swept

-- the call of a dead frame is issued again, and enters domain code at a line
pub issues_again : {L : LoadRows} {s z : State} {t c x i : ℕ} (dead : StackFrame) (at : ℕ)
    → is_enabled L s t ≡ true
    → top (stack s t) ≡ Some dead
    → is_dead s dead ≡ true
    → c ≡ dead.call
    → x ≡ dead.target
    → is_reissuable L dead ≡ true
    → i ≡ current L s x
    → is_live s i ≡ true
    → is_native (domain_of_load L (load_of_target L x)).lines ≡ false
    → entry_at (domain_of_load L (load_of_target L x)) dead.method ≡ Some at
    → z ≡ with_top t (at_entry c x i dead.method dead.args at) s
    → [] ≡ freed z
    → z ≡ sweep z
    → Step L s (quiet (entry.Again t c x i)) z
issues_again {c} {x} {i} dead at enabled on_top is call through reissuable into lives code entry becomes frees swept = quietly enabled (record {
  dead = dead;
  frame = at_entry c x i dead.method dead.args at;
  of = record { on_top = on_top; dead = is; call = call };
  through = through;
  reissuable = reissuable;
  into = into;
  lives = lives;
  begins = record { is = refl; body = (code, entry, refl) };
  becomes = becomes;
}) frees swept

-- the call of an ended instance's frame is unwound
pub unwinds : {L : LoadRows} {s z : State} {t c : ℕ} (frame : StackFrame)
    → is_enabled L s t ≡ true
    → top (stack s t) ≡ Some frame
    → is_dead s frame ≡ true
    → c ≡ frame.call
    → is_over L s frame ≡ true
    → Replies L (popped t s) t (answer.Failed code.Unwound) z
    → [] ≡ freed z
    → z ≡ sweep z
    → Step L s (quiet (entry.Unwound t c)) z
unwinds frame enabled on_top dead call over replies frees swept =
    quietly enabled (record { frame = frame; of = record { on_top = on_top; dead = dead; call = call }; over = over; replies = replies }) frees swept

-- a client comes to the end of its script
pub finishes : {L : LoadRows} {s z : State} {t : ℕ} (thread : Thread)
    → is_enabled L s t ≡ true
    → row s.threads t ≡ Some thread
    → wanted L s t ≡ Finishes
    → z ≡ with_thread s t (record thread { done = true })
    → [] ≡ freed z
    → z ≡ sweep z
    → Step L s (quiet (entry.Done t)) z
finishes thread enabled of wants becomes frees swept = quietly enabled (record { thread = thread; of = of; wants = wants; becomes = becomes }) frees swept
