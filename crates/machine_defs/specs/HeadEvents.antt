-- What each kind of step on a head is for its object in the domain machine: one event of the shared
-- heap at most.
use Rattle.std.specs.Prelude.{◌≡◌, ℕ, zero, suc, ◌==◌, ◌≤◌, Bool, false, List, [], ◌∷◌, ◌++◌, map, length, Option, Some, None}
use Rattle.machine_defs.specs.declared.values.Owner.TheVariants as owner
use Rattle.machine_defs.specs.declared.values.Owner.{Owner}
use Rattle.machine_defs.specs.declared.heads.HeadWord.{HeadWord}
use Rattle.machine_defs.specs.declared.heads.HeadWord.TheVariants.{Vacant, Busy, Gone, Live}
use Rattle.rl_defs.specs.declared.load.LoadRows.{LoadRows}
use Rattle.machine_defs.specs.State.{State, StackFrame, Object, Placement, Root, Hung, stack, with_stack, top}
use Rattle.machine_defs.specs.Loans.{count, loans, has_ended, object_of, sweep, freed}
use Rattle.machine_defs.specs.Objects.{with_new}
use Rattle.machine_defs.specs.Arguments.{has}
use Rattle.machine_defs.specs.CallRows.{passed_to}
use Rattle.machine_defs.specs.Frames.{popped}
use Rattle.machine_defs.specs.Seen.{ended}
use Rattle.machine_defs.specs.Heads.{due, right, rights_of}
use Rattle.machine_defs.specs.HeadSteps.{StepKind, Claim, Publish, Lend, GiveBack, Release, PassOn, TakeUp, End, Changes}

-- where an object is: not in the heap, with an owner of its own who lives or has ended, or below
-- another object
pub data Whereabouts : Type 0 where
  Absent : Whereabouts
  Owned : (ended : Bool) → Whereabouts
  Below : Whereabouts

-- where a state of the machine has the object of a number
abbrev pub placed_at : State → Placement → Whereabouts
placed_at s (Root w) = Owned (has_ended s w)
placed_at s (Hung parent place) = Below

abbrev pub place_of : State → Option Object → Whereabouts
place_of s None = Absent
place_of s (Some x) = placed_at s x.placement

abbrev pub whereabouts : State → ℕ → Whereabouts
whereabouts s o = place_of s (object_of s o)

-- Where a head word says that its object is, and how often it is lent. It is there from its
-- publication on, and gone as soon as someone has the right of release.
abbrev pub unless_freed : ℕ → Bool → Whereabouts
unless_freed zero ended = Owned ended
unless_freed (suc rights) ended = Absent

abbrev pub told_place : HeadWord → Whereabouts
told_place Vacant = Absent
told_place Busy = Absent
told_place Gone = Absent
told_place (Live loans ended to) = unless_freed (rights_of ended loans) ended

abbrev pub told_loans : HeadWord → ℕ
told_loans Vacant = 0
told_loans Busy = 0
told_loans Gone = 0
told_loans (Live loans ended to) = loans

-- a state of the machine has the object as the head word says, and no second one of its number
pub record Shows (s : State) (o : ℕ) (a : HeadWord) : Type 0 where
  pub once : count o (map (λ x. x.number) s.objects) ≤ 1
  pub place : whereabouts s o ≡ told_place a
  pub lent : loans s o ≡ told_loans a

-- the events of the heap that a head's steps stand for
pub data HeapEvent : Type 0 where
  New : HeapEvent
  LoanBegins : HeapEvent
  LoanEnds : HeapEvent
  Moves : HeapEvent
  OwnerEnds : HeapEvent

-- What becomes of a state by an event on an object, as the rows of the machine have it, before the
-- step's sweep: a `new` makes it; a `call` begins with a frame to which it is lent; a `ret` or an
-- `unwound` ends such a frame; a `call` or a `ret` moves it to a live owner; and a `trap` or a
-- `kill` ends the instance that owns it.
abbrev pub Happens : HeapEvent → ℕ → State → State → Type 0
Happens New o s z = (L : LoadRows) × (ty : ℕ) × (w : Owner) × (values : List ℕ) × (o ≡ s.next_object) × (has_ended s w ≡ false) × (z ≡ with_new L ty w values s)
Happens LoanBegins o s z = (t : ℕ) × (f : StackFrame) × (1 ≤ t) × (t ≤ length s.stacks) × (count o f.lent ≡ 1) × (z ≡ with_stack s t (stack s t ++ f ∷ []))
Happens LoanEnds o s z = (t : ℕ) × (f : StackFrame) × (1 ≤ t) × (t ≤ length s.stacks) × (top (stack s t) ≡ Some f) × (count o f.lent ≡ 1) × (z ≡ popped t s)
Happens Moves o s z = (w : Owner) × (has_ended s w ≡ false) × (z ≡ passed_to w (o ∷ []) s)
Happens OwnerEnds o s z = (i : ℕ) × (x : Object) × (object_of s o ≡ Some x) × (x.placement ≡ Root (owner.Instance i)) × (z ≡ ended i s)

-- The event that each kind of step is. Claim, pass on and release are none.
abbrev pub event_of : StepKind → Option HeapEvent
event_of Claim = None
event_of Publish = Some New
event_of Lend = Some LoanBegins
event_of GiveBack = Some LoanEnds
event_of Release = None
event_of PassOn = None
event_of TakeUp = Some Moves
event_of End = Some OwnerEnds

abbrev pub HappensIfAny : Option HeapEvent → ℕ → State → State → Type 0
HappensIfAny None o s z = z ≡ s
HappensIfAny (Some event) o s z = Happens event o s z

-- The state behind the event, swept as each step's is, has the object as the new head word says;
-- and the sweep frees the object exactly where the new word has a right of release.
pub record Follows (z : State) (o : ℕ) (b : HeadWord) : Type 0 where
  pub shows : Shows (sweep z) o b
  pub frees : has (freed z) o ≡ (due b right == 1)

-- Wherever the machine has the object as the word that a step finds says, the step's one event, or
-- none, makes it as the word that the step leaves says.
abbrev pub EachStepIsOneEvent : Type 0
EachStepIsOneEvent = (kind : StepKind) (a b : HeadWord) (o : ℕ) (s z : State) → Changes kind a b → Shows s o a → HappensIfAny (event_of kind) o s z → Follows z o b
