-- The laws of the machine: what holds of every run of every valid load. Which of them are proved,
-- and where, docs/MACHINE.md says.
use Rattle.std.specs.Prelude.{◌≡◌, ℕ, ◌++◌, ◌⊎◌, ◌≢◌, [], ◌∷◌, List, Bool, true, false, Some, if◌then◌else◌}
use Rattle.machine_defs.specs.declared.values.Cause.TheVariants as cause
use Rattle.machine_defs.specs.declared.values.Owner.TheVariants as owner
use Rattle.machine_defs.specs.declared.entry.Entry.TheVariants as entry
use Rattle.machine_defs.specs.declared.frame.FrameBody.TheVariants as body
use Rattle.machine_defs.specs.declared.frame.Action.TheVariants as action
use Rattle.rl_defs.specs.declared.load.LoadRows.{LoadRows}
use Rattle.machine_defs.specs.declared.entry.Entry.{Entry}
use Rattle.machine_defs.specs.declared.frame.FrameBody.{FrameBody}
use Rattle.machine_defs.specs.declared.frame.Action.{Action}
use Rattle.machine_defs.specs.State.{State, Object, Root, Hung, stack, StackFrame, with_stack}
use Rattle.machine_defs.specs.Arguments.{has}
use Rattle.machine_defs.specs.Steps.{Turn, Step}
use Rattle.machine_defs.specs.History.{Always, turns_of, ends}
use Rattle.machine_defs.specs.Answered.{Answered, ClosedOnce}
use Rattle.machine_defs.specs.OwnedOnce.{OwnedOnce}
use Rattle.machine_defs.specs.Caused.{Caused}
use Rattle.machine_defs.specs.Untouched.{Untouched, AreContents}
use Rattle.rl_defs.specs.Valid.{Valid}
use Rattle.machine_defs.specs.Runs.{Run, WholeRun, AllDone, Ordered, entries_of_turn}
use Rattle.machine_defs.specs.Sound.{Sound, IsRoot}
use Rattle.machine_defs.specs.Calling.{is_enabled}
use Rattle.rl_defs.specs.Rows.{row}
use Rattle.machine_defs.specs.Loans.{object_of}
use Rattle.machine_defs.specs.Entries.{thread_of}

-- A history is cut where its turns end: a step adds its own turn to those of the history, so a
-- run's turns are those of its history.
abbrev pub TurnsAreTold : Type 0
TurnsAreTold = (L : LoadRows) (H : List Entry) (s z : State) (turn : Turn) → Step L s turn z → turns_of (H ++ entries_of_turn turn) ≡ turn ∷ turns_of H

-- After a run, turns that go round the order list lead on to a run. So each ordered run is a run.
abbrev pub OrderedRunsGoOn : Type 0
OrderedRunsGoOn = (L : LoadRows) (H G : List Entry) (s z : State) (place : ℕ) → Run L H s → Ordered L s G z place → Run L (H ++ G) z

-- What the history of a run tells: each call is answered with its cause, each object has one owner
-- until it is given up once, what is freed has a cause, and words and slots change only by what
-- their own instance does.
pub record TellsLaws (L : LoadRows) (H : List Entry) (s : State) : Type 0 where
  pub answered : Always (λ us u. Answered L us u.entry) (turns_of H)
  pub owned : Always (OwnedOnce L) (turns_of H)
  pub caused : Always (Caused L) (turns_of H)
  pub untouched : Always (λ us u. Untouched us u.entry) (turns_of H)
  pub contents : AreContents L (turns_of H) s

abbrev pub HistoriesTellLaws : Type 0
HistoriesTellLaws = (L : LoadRows) (H : List Entry) (s : State) → Valid L → Run L H s → TellsLaws L H s

-- Every state of every run is sound.
abbrev pub StatesAreSound : Type 0
StatesAreSound = (L : LoadRows) (H : List Entry) (s : State) → Valid L → Run L H s → Sound L s

-- In a whole run each call is closed exactly once.
abbrev pub CallsCloseOnce : Type 0
CallsCloseOnce = (L : LoadRows) (H : List Entry) (s : State) → Valid L → WholeRun L H s → ClosedOnce (turns_of H)

-- Some thread is enabled in every state in which not every client is done.
abbrev pub SomeThreadIsEnabled : Type 0
SomeThreadIsEnabled = (L : LoadRows) (H : List Entry) (s : State) → Valid L → Run L H s → (AllDone s → ⊥) → (t : ℕ) × (is_enabled L s t ≡ true)

-- An enabled thread has a step.
abbrev pub EnabledThreadsStep : Type 0
EnabledThreadsStep = (L : LoadRows) (H : List Entry) (s : State) → Valid L → Run L H s → (t : ℕ) → is_enabled L s t ≡ true → (turn : Turn) × (z : State) × Step L s turn z × (thread_of turn.entry ≡ t)

-- an object is of an instance where it is a root of it, or hangs in one
abbrev pub IsOf : State → ℕ → Object → Type 0
IsOf s i x = (x.placement ≡ Root (owner.Instance i)) ⊎ ((p k : ℕ) × (x.placement ≡ Hung p k) × IsRoot s p (owner.Instance i))

-- An end of an instance leaves all other instances and all frames as they are. It frees objects of
-- that instance alone, and the others stay.
pub record EndsAlone (s : State) (u : Turn) (i : ℕ) (z : State) : Type 0 where
  pub frames : z.stacks ≡ s.stacks
  pub instances : (j : ℕ) → j ≢ i → row z.instances j ≡ row s.instances j
  pub threads : (t : ℕ) → t ≢ thread_of u.entry → row z.threads t ≡ row s.threads t
  pub blocks : z.blocks ≡ s.blocks
  pub frees : (o : ℕ) → has u.frees o ≡ true → (x : Object) × (object_of s o ≡ Some x) × IsOf s i x
  pub stays : (o : ℕ) (x : Object) → object_of s o ≡ Some x → (has u.frees o ≡ true) ⊎ (object_of z o ≡ Some x)
  pub came : (o : ℕ) (x : Object) → object_of z o ≡ Some x → object_of s o ≡ Some x

abbrev pub EndsLeaveAlone : Type 0
EndsLeaveAlone = (L : LoadRows) (H : List Entry) (s z : State) (u : Turn) (i : ℕ) → Valid L → Run L H s → Step L s u z → ends i u.entry ≡ true → EndsAlone s u i z

-- a stack, but for the action that a native body on top of it wants next
abbrev pub unchosen_body : FrameBody Action → FrameBody Action
unchosen_body (body.Code at regs) = body.Code at regs
unchosen_body (body.Native held act) = body.Native held (action.Trap cause.Io)

abbrev pub unchosen_top : List StackFrame → List StackFrame
unchosen_top [] = []
unchosen_top (f ∷ []) = record f { body = unchosen_body f.body } ∷ []
unchosen_top (f ∷ (g ∷ fs)) = f ∷ unchosen_top (g ∷ fs)

abbrev pub unchosen : ℕ → State → State
unchosen t s = with_stack s t (unchosen_top (stack s t))

-- whether a frame begins with an entry, or gets an answer, so that a native body may choose
abbrev pub leaves_choice : Entry → Bool
leaves_choice (entry.Reload t x i left) = false
leaves_choice (entry.Trap t i c) = false
leaves_choice (entry.Kill t i) = false
leaves_choice (entry.Show t o values) = false
leaves_choice (entry.Skip t number) = false
leaves_choice (entry.Done t) = false
leaves_choice _ = true

-- the state but for what the entry leaves to choose
abbrev pub but_for_choice : Entry → State → State
but_for_choice e s = if leaves_choice e then unchosen (thread_of e) s else s

-- A step is determined by the state and its entry, but for the action that a native body chooses
-- after it.
abbrev pub StepsAreDetermined : Type 0
StepsAreDetermined = (L : LoadRows) (s y z : State) (u v : Turn) → Step L s u y → Step L s v z → u.entry ≡ v.entry → (u.frees ≡ v.frees) × (but_for_choice u.entry y ≡ but_for_choice u.entry z)
