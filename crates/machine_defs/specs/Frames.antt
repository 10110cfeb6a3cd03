-- Frames: how one begins, what it gets for an answer, and who gets the answer of a call that has
-- ended.
use Rattle.std.specs.Prelude.{◌≡◌, ℕ, ◌+◌, [], ◌∷◌, ◌++◌, List, Some, slice_set, Option, None, slice_get, true, false, not, filter, Bool}
use Rattle.std.specs.List.{filter_map}
use Rattle.std.specs.Option.{option_and_then, option_map_or}
use Rattle.machine_defs.specs.declared.values.Owner.TheVariants as owner
use Rattle.machine_defs.specs.declared.frame.FrameBody.TheVariants as body
use Rattle.rl_defs.specs.declared.code.DomainLine.TheVariants as line
use Rattle.machine_defs.specs.declared.frame.Action.TheVariants as action
use Rattle.machine_defs.specs.declared.frame.Answer.TheVariants as answer
use Rattle.rl_defs.specs.declared.values.Value.{Value}
use Rattle.rl_defs.specs.declared.load.Command.{Command}
use Rattle.rl_defs.specs.declared.load.LoadRows.{LoadRows}
use Rattle.machine_defs.specs.declared.values.Owner.{Owner}
use Rattle.machine_defs.specs.declared.frame.FrameBody.{FrameBody}
use Rattle.machine_defs.specs.declared.frame.Action.{Action}
use Rattle.machine_defs.specs.declared.values.Arg.{Arg}
use Rattle.rl_defs.specs.declared.code.Instr.{Instr}
use Rattle.rl_defs.specs.declared.code.DomainLine.{DomainLine}
use Rattle.machine_defs.specs.declared.frame.Answer.{Answer}
use Rattle.machine_defs.specs.Wants.{Names}
use Rattle.rl_defs.specs.Rows.{bound_by, row, commands_of, domain_of_load}
use Rattle.machine_defs.specs.State.{Thread, StackFrame, stack, top, State, with_stack, with_thread, is_live}
use Rattle.machine_defs.specs.Arguments.{has, lent_of, moved_of, entry_registers, object_of_value}
use Rattle.rl_defs.specs.Domains.{load_of_target, is_native}
use Rattle.rl_defs.specs.CodeKinds.{moved}
use Rattle.rl_defs.specs.CodeNames.{entry_at}
use Rattle.machine_defs.specs.NativeFits.{CanChoose}
use Rattle.rl_defs.specs.DomainValue.{Domain}
use Rattle.machine_defs.specs.Instructions.{all_given_up, after_answer}
use Rattle.machine_defs.specs.Seen.{domain_of_instance}
use Rattle.rl_defs.specs.Registers.{Stand}

-- the names of a command hold the results of its call
abbrev pub bind : List ℕ → List Value → Names → Names
bind [] values names = names
bind (k ∷ ks) [] names = names
bind (k ∷ ks) (v ∷ values) names = bind ks values (slice_set names k (Some v))

abbrev pub names_of : Option Command → List ℕ
names_of None = []
names_of (Some c) = bound_by c

-- the client's command is done: its names hold the results, and the next command comes
abbrev pub after_command : LoadRows → ℕ → Thread → List Value → Thread
after_command L t thread results = record thread {
  place = thread.place + 1;
  names = bind (names_of (slice_get (commands_of (row L.clients t)) thread.place)) results thread.names;
}

-- the frames below the top one, and the stack with another top frame
abbrev pub below_top : List StackFrame → List StackFrame
below_top [] = []
below_top (f ∷ []) = []
below_top (f ∷ (g ∷ fs)) = f ∷ below_top (g ∷ fs)

abbrev pub popped : ℕ → State → State
popped t s = with_stack s t (below_top (stack s t))

abbrev pub with_top : ℕ → StackFrame → State → State
with_top t f s = with_stack s t (below_top (stack s t) ++ f ∷ [])

-- who acts for a thread: the instance of its top frame, or the client where it has no frame
abbrev pub acting : State → ℕ → Owner
acting s t = option_map_or (λ f. owner.Instance f.instance) (top (stack s t)) (owner.Client t)

abbrev pub with_body : StackFrame → FrameBody Action → StackFrame
with_body f b = record f { body = b }

-- the frame of a call, with this body
abbrev pub frame_of : ℕ → ℕ → ℕ → ℕ → List Arg → FrameBody Action → StackFrame
frame_of c x i m args b = record { call = c; target = x; instance = i; method = m; args = args; lent = lent_of args; body = b }

-- Code begins at its function's first line with the arguments in the first registers. A native body
-- holds the moved arguments, and chooses its first action.
abbrev pub BeginsBody : LoadRows → State → StackFrame → FrameBody Action → Type 0
BeginsBody L z f (body.Code at regs) =
    (is_native (domain_of_load L (load_of_target L f.target)).lines ≡ false)
    × (entry_at (domain_of_load L (load_of_target L f.target)) f.method ≡ Some at)
    × (regs ≡ entry_registers f.args)
BeginsBody L z f (body.Native held next) =
    (is_native (domain_of_load L (load_of_target L f.target)).lines ≡ true)
    × (held ≡ moved_of f.args)
    × CanChoose L z f held next

-- a frame begins a call, in a state in which the call has been entered
pub record Begins (L : LoadRows) (z : State) (c x i m : ℕ) (args : List Arg) (f : StackFrame) : Type 0 where
  pub is : f ≡ frame_of c x i m args f.body
  pub body : BeginsBody L z f f.body

-- the instruction at a line
abbrev pub instr_of_form : DomainLine → Option Instr
instr_of_form (line.Code i) = Some i
instr_of_form _ = None

abbrev pub instr_at : Domain → ℕ → Option Instr
instr_at d at = option_and_then (λ l. instr_of_form l.form) (slice_get d.lines at)

-- while a call runs its caller is without the objects that it moved
abbrev pub waiting_body : Domain → List ℕ → FrameBody Action → FrameBody Action
waiting_body d os (body.Code at regs) = body.Code at (all_given_up (option_map_or moved (instr_at d at) []) regs)
waiting_body d os (body.Native held act) = body.Native (filter (λ o. not (has os o)) held) act

abbrev pub waiting : LoadRows → State → List ℕ → StackFrame → StackFrame
waiting L s os f = with_body f (waiting_body (domain_of_instance L s f.instance) os f.body)

-- where code stands after an answer to the instruction at its line
abbrev pub answered_code : Domain → Stand → Answer → Stand
answered_code d stand a = option_map_or (λ i. after_answer d stand i a) (instr_at d stand.at) stand

abbrev pub code_at : Stand → FrameBody Action
code_at stand = body.Code stand.at stand.regs

-- what a native body holds behind an answer to its action
abbrev pub held_after : Action → Answer → List ℕ → List ℕ
held_after (action.New ty) (answer.Made o) held = held ++ o ∷ []
held_after (action.Drop o) answer.Went held = filter (λ p. not (has (o ∷ []) p)) held
held_after (action.Call x m args) (answer.Back results) held = held ++ filter_map object_of_value results
held_after act a held = held

-- A frame of a live instance gets an answer to its action: code goes on as the table says, a native
-- body chooses its next action.
abbrev pub AnswersBody : LoadRows → State → StackFrame → Answer → FrameBody Action → StackFrame → Type 0
AnswersBody L z f a (body.Code at regs) g = g ≡ with_body f (code_at (answered_code (domain_of_instance L z f.instance) (record { at = at; regs = regs }) a))
AnswersBody L z f a (body.Native held act) g = (next : Action) × (g ≡ with_body f (body.Native (held_after act a held) next)) × CanChoose L z f (held_after act a held) next

abbrev pub Answers : LoadRows → State → StackFrame → Answer → StackFrame → Type 0
Answers L z f a g = AnswersBody L z f a f.body g

-- what the results of a client's command are
abbrev pub results_in : Answer → List Value
results_in (answer.Back results) = results
results_in _ = []

-- a live caller is answered, in the state in which the call has ended; a frame of an ended instance
-- gets nothing
pub record AnswersLive (L : LoadRows) (s : State) (t : ℕ) (f : StackFrame) (a : Answer) (z : State) : Type 0 where
  pub frame : StackFrame
  pub answers : Answers L z f a frame
  pub becomes : z ≡ with_top t frame s

abbrev pub AnswersFrame : LoadRows → State → ℕ → StackFrame → Answer → Bool → State → Type 0
AnswersFrame L s t f a true z = AnswersLive L s t f a z
AnswersFrame L s t f a false z = z ≡ s

-- a client's command is done: its names hold the results
pub record AnswersClient (L : LoadRows) (s : State) (t : ℕ) (a : Answer) (z : State) : Type 0 where
  pub thread : Thread
  pub of : row s.threads t ≡ Some thread
  pub becomes : z ≡ with_thread s t (after_command L t thread (results_in a))

abbrev pub AnswersTop : LoadRows → State → ℕ → Answer → Option StackFrame → State → Type 0
AnswersTop L s t a None z = AnswersClient L s t a z
AnswersTop L s t a (Some f) z = AnswersFrame L s t f a (is_live s f.instance) z

-- The caller of a call that has ended, which now is on top, gets its answer.
abbrev pub Replies : LoadRows → State → ℕ → Answer → State → Type 0
Replies L s t a z = AnswersTop L s t a (top (stack s t)) z
