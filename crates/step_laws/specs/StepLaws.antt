-- What one step counts, lends and frees, by the kind of its entry. The state that its row makes is
-- the one before objects are freed.
use Rattle.std.specs.Prelude.{◌≡◌, ℕ, ◌+◌, ◌≤◌, ◌==◌, ◌&&◌, ◌++◌, Bool, true, false, List, [], ◌∷◌, length, map, filter, not, slice_get, Option, Some, None}
use Rattle.machine_defs.specs.declared.values.Owner.{Owner}
use Rattle.machine_defs.specs.declared.values.Owner.TheVariants as owner
use Rattle.machine_defs.specs.declared.entry.Entry.{Entry}
use Rattle.machine_defs.specs.declared.entry.Entry.TheVariants as entry
use Rattle.rl_defs.specs.declared.load.LoadRows.{LoadRows}
use Rattle.rl_defs.specs.Valid.{Valid}
use Rattle.machine_defs.specs.State.{State, StackFrame, Object, Placement, Root, Hung, is_live, stack, top}
use Rattle.machine_defs.specs.Loans.{count, loans, has_ended, object_of, is_doomed, sweep, freed}
use Rattle.machine_defs.specs.Arguments.{has, lent_of, moved_of, objects_in}
use Rattle.machine_defs.specs.Calling.{is_enabled}
use Rattle.machine_defs.specs.Entries.{thread_of}
use Rattle.machine_defs.specs.Frames.{acting}
use Rattle.machine_defs.specs.Report.{same_owner}
use Rattle.machine_defs.specs.Runs.{Run}
use Rattle.machine_defs.specs.Sound.{IsRoot}
use Rattle.machine_defs.specs.Steps.{Row}

-- what holds of the row of an enabled thread, in each state of each run of a valid load
abbrev pub OfRows : (State → Entry → State → Type 0) → Type 0
OfRows P = (L : LoadRows) (H : List Entry) (s made : State) (e : Entry) → Valid L → Run L H s → is_enabled L s (thread_of e) ≡ true → Row L s e made → P s e made

-- an entry that drops nothing, and ends no frame and no instance
abbrev pub is_quiet : Entry → Bool
is_quiet (entry.Drop t o) = false
is_quiet (entry.Refuse t c why x m args) = false
is_quiet (entry.Ret t c results) = false
is_quiet (entry.Unwound t c) = false
is_quiet (entry.Trap t i cause) = false
is_quiet (entry.Kill t i) = false
is_quiet _ = true

-- nothing is freed, so the state stays as the row makes it
pub record FreesNothing (made : State) : Type 0 where
  pub frees : freed made ≡ []
  pub stays : sweep made ≡ made

abbrev pub QuietStepsFreeNothing : Type 0
QuietStepsFreeNothing = OfRows (λ s e made. is_quiet e ≡ true → FreesNothing made)

-- an instance that has ended is killed once more
abbrev pub KillsAgain : State → Entry → Type 0
KillsAgain s (entry.Kill t i) = is_live s i ≡ false
KillsAgain s _ = ⊥

abbrev pub KillsAgainFreeNothing : Type 0
KillsAgainFreeNothing = OfRows (λ s e made. KillsAgain s e → FreesNothing made)

-- one step uses one number at most of calls, of objects and of instances; the other lists keep
-- their lengths
pub record CountsUp (s made : State) : Type 0 where
  pub calls : made.next_call ≤ s.next_call + 1
  pub objects : made.next_object ≤ s.next_object + 1
  pub instances : length made.instances ≤ length s.instances + 1
  pub threads : length made.threads ≡ length s.threads
  pub stacks : length made.stacks ≡ length s.stacks
  pub shadows : length made.shadows ≡ length s.shadows
  pub blocks : length made.blocks ≡ length s.blocks

-- it holds in every state, also of no run
abbrev pub StepsCountUp : Type 0
StepsCountUp = (L : LoadRows) (s made : State) (e : Entry) → Row L s e made → CountsUp s made

-- So a run has used as few numbers as it has entries.
pub record CountsEntries (L : LoadRows) (H : List Entry) (s : State) : Type 0 where
  pub calls : s.next_call ≤ length H + 1
  pub objects : s.next_object ≤ length H + 1
  pub instances : length s.instances ≤ length L.loads + length H

abbrev pub RunsCountUp : Type 0
RunsCountUp = (L : LoadRows) (H : List Entry) (s : State) → Run L H s → CountsEntries L H s

-- at most 65,536 objects are there, and so at most as many are freed
pub record FewObjects (made : State) : Type 0 where
  pub objects : length made.objects ≤ 65536
  pub frees : length (freed made) ≤ 65536

abbrev pub ObjectsStayFew : Type 0
ObjectsStayFew = OfRows (λ s e made. FewObjects made)

-- The loans of an object behind an entry: a call adds those of its arguments, the end of a frame
-- takes that frame's, and no other entry changes them.
abbrev pub LoansFall : State → ℕ → State → ℕ → Type 0
LoansFall s t made o = (f : StackFrame) → top (stack s t) ≡ Some f → loans made o + count o f.lent ≡ loans s o

abbrev pub LoansFollow : State → Entry → State → ℕ → Type 0
LoansFollow s (entry.Call t c x i m args) made o = loans made o ≡ loans s o + count o (lent_of args)
LoansFollow s (entry.Ret t c results) made o = LoansFall s t made o
LoansFollow s (entry.Unwound t c) made o = LoansFall s t made o
LoansFollow s _ made o = loans made o ≡ loans s o

abbrev pub LoansOfSteps : Type 0
LoansOfSteps = OfRows (λ s e made. (o : ℕ) → LoansFollow s e made o)

-- An object is lent 3,968 times at most: by 8 arguments in 31 frames of 16 stacks.
abbrev pub RunsLendFew : Type 0
RunsLendFew = (L : LoadRows) (H : List Entry) (s : State) → Valid L → Run L H s → (o : ℕ) → loans s o ≤ 3968

abbrev pub RowsLendFew : Type 0
RowsLendFew = OfRows (λ s e made. (o : ℕ) → loans made o ≤ 3968)

-- the objects that an entry gives away or changes, and those that it lends or reads
abbrev pub changes : Entry → List ℕ
changes (entry.Call t c x i m args) = moved_of args
changes (entry.Refuse t c why x m args) = moved_of args
changes (entry.Ret t c results) = objects_in results
changes (entry.Drop t o) = o ∷ []
changes (entry.Set t o place values) = o ∷ []
changes (entry.Put t i slot o) = o ∷ []
changes (entry.DevGet t o block) = o ∷ []
changes (entry.Hang t parent place o) = o ∷ (parent ∷ [])
changes (entry.Unhang t parent place o) = parent ∷ []
changes _ = []

abbrev pub looks_at : Entry → List ℕ
looks_at (entry.Call t c x i m args) = lent_of args
looks_at (entry.Refuse t c why x m args) = lent_of args
looks_at (entry.DevPut t block o) = o ∷ []
looks_at (entry.Show t o values) = o ∷ []
looks_at _ = []

-- What an entry changes is a root of who acts, and nobody has borrowed it; what it reads is
-- somebody's root.
pub record NamesRoots (s : State) (e : Entry) : Type 0 where
  pub changed : (o : ℕ) → has (changes e) o ≡ true → IsRoot s o (acting s (thread_of e)) × (loans s o ≡ 0)
  pub seen : (o : ℕ) → has (looks_at e) o ≡ true → (w : Owner) × IsRoot s o w

abbrev pub EntriesNameRoots : Type 0
EntriesNameRoots = OfRows (λ s e made. NamesRoots s e)

-- an object of a state is doomed just where a test says so
abbrev pub DoomsBy : State → (Object → Bool) → Type 0
DoomsBy made test = (x : Object) → object_of made x.number ≡ Some x → is_doomed made x ≡ test x

-- then those that pass the test are freed, in the order in which they stand, and the others stay
pub record FreesBy (made : State) (test : Object → Bool) : Type 0 where
  pub frees : freed made ≡ map (λ x. x.number) (filter test made.objects)
  pub stays : sweep made ≡ record made { objects = filter (λ x. not (test x)) made.objects }

abbrev pub DoomedAreFreed : Type 0
DoomedAreFreed = OfRows (λ s e made. (test : Object → Bool) → DoomsBy made test → FreesBy made test)

-- each object that a row leaves is the one that is found by its number
abbrev pub ObjectsAreFound : Type 0
ObjectsAreFound = OfRows (λ s e made. (k : ℕ) (x : Object) → slice_get made.objects k ≡ Some x → object_of made x.number ≡ Some x)

-- the object is a root of the owner, and nobody has borrowed it
abbrev pub is_unlent_at : State → Owner → ℕ → Placement → Bool
is_unlent_at s w o (Root v) = same_owner v w && (loans s o == 0)
is_unlent_at s w o (Hung parent place) = false

abbrev pub is_unlent_root : State → Owner → Option Object → Bool
is_unlent_root s w None = false
is_unlent_root s w (Some x) = is_unlent_at s w x.number x.placement

-- An object goes with an owner that ends where it is a root of it that nobody has borrowed. What
-- hangs goes with its root.
abbrev pub goes_at : State → Owner → ℕ → Placement → Bool
goes_at s w o (Root v) = is_unlent_at s w o (Root v)
goes_at s w o (Hung parent place) = is_unlent_root s w (object_of s parent)

abbrev pub goes_with : State → Owner → Object → Bool
goes_with s w x = goes_at s w x.number x.placement

-- what an end of an instance frees
abbrev pub EndFrees : State → Entry → State → Type 0
EndFrees s (entry.Trap t i cause) made = DoomsBy made (goes_with s (owner.Instance i))
EndFrees s (entry.Kill t i) made = DoomsBy made (goes_with s (owner.Instance i))
EndFrees s _ made = Unit {0}

abbrev pub EndsFree : Type 0
EndsFree = OfRows EndFrees

-- an object hangs in one of these
abbrev pub hangs_among : List ℕ → Placement → Bool
hangs_among os (Root w) = false
hangs_among os (Hung parent place) = has os parent

-- what leaves the heap frees what hangs in it, and nothing else
abbrev pub DropFrees : State → Entry → State → Type 0
DropFrees s (entry.Drop t o) made = DoomsBy made (λ x. hangs_among (o ∷ []) x.placement)
DropFrees s (entry.Refuse t c why x m args) made = DoomsBy made (λ x. hangs_among (moved_of args) x.placement)
DropFrees s _ made = Unit {0}

abbrev pub DropsFree : Type 0
DropsFree = OfRows DropFrees

-- what hangs is in a root that is there, and goes with it
pub record GoesWithParent (made : State) (x : Object) (parent : ℕ) : Type 0 where
  pub owner : Owner
  pub root : IsRoot made parent owner
  pub same : is_doomed made x ≡ is_doomed made root.0

-- What the end of a frame frees: roots of owners that have ended, which nobody has borrowed any
-- more. They are among these objects.
pub record FreesAmong (made : State) (os : List ℕ) : Type 0 where
  pub roots : (x : Object) (w : Owner) → object_of made x.number ≡ Some x → x.placement ≡ Root w → is_doomed made x ≡ (has_ended made w && (loans made x.number == 0))
  pub others : (x : Object) (w : Owner) → object_of made x.number ≡ Some x → x.placement ≡ Root w → has os x.number ≡ false → is_doomed made x ≡ false
  pub hung : (x : Object) (parent place : ℕ) → object_of made x.number ≡ Some x → x.placement ≡ Hung parent place → GoesWithParent made x parent

-- those lent to the frame, and the results of its call
abbrev pub ReturnFrees : State → Entry → State → Type 0
ReturnFrees s (entry.Ret t c results) made = (f : StackFrame) → top (stack s t) ≡ Some f → FreesAmong made (f.lent ++ objects_in results)
ReturnFrees s (entry.Unwound t c) made = (f : StackFrame) → top (stack s t) ≡ Some f → FreesAmong made f.lent
ReturnFrees s _ made = Unit {0}

abbrev pub ReturnsFree : Type 0
ReturnsFree = OfRows ReturnFrees
