-- The steps that make, change and move objects, words, slots and blocks, and the client's steps
-- that change none of them.
use Rattle.std.specs.Prelude.{◌≡◌, ℕ, ◌-◌, ◌⊎◌, [], ◌∷◌, Some, List, None, slice_set, slice_get, true}
use Rattle.std.specs.List.{slice_index_or}
use Rattle.machine_defs.specs.declared.frame.Action.TheVariants as action
use Rattle.machine_defs.specs.declared.frame.Answer.TheVariants as answer
use Rattle.rl_defs.specs.declared.load.Command.TheVariants as command
use Rattle.rl_defs.specs.declared.values.Value.TheVariants as value
use Rattle.machine_defs.specs.declared.values.Owner.TheVariants as owner
use Rattle.machine_defs.specs.declared.frame.Action.{Action}
use Rattle.machine_defs.specs.declared.frame.Answer.{Answer}
use Rattle.rl_defs.specs.declared.load.LoadRows.{LoadRows}
use Rattle.rl_defs.specs.declared.values.Value.{Value}
use Rattle.rl_defs.specs.declared.load.Command.{Command}
use Rattle.machine_defs.specs.declared.values.Owner.{Owner}
use Rattle.machine_defs.specs.State.{State, StackFrame, Thread, with_thread, Hung, Root}
use Rattle.rl_defs.specs.Rows.{row}
use Rattle.machine_defs.specs.Wants.{Acts, wanted, Commands, Names, name_held, Skips, Finishes}
use Rattle.machine_defs.specs.Frames.{Answers, with_top}
use Rattle.machine_defs.specs.Calling.{with_fuel}
use Rattle.machine_defs.specs.CallRows.{command_done}
use Rattle.machine_defs.specs.Objects.{with_new, without, with_cells_of, overwritten, cells_in, hung_in, placed, shown}
use Rattle.machine_defs.specs.Seen.{with_word, domain_of_instance, in_slot, with_slot}
use Rattle.rl_defs.specs.Domains.{slots_of}
use Rattle.machine_defs.specs.Loans.{object_of}

-- The top frame of a thread, of instance i, makes an action: it is charged 1, the state changes so,
-- and the frame gets the answer.
pub record Does (L : LoadRows) (s : State) (t i : ℕ) (act : Action) (a : Answer) (change : State → State) (z : State) : Type 0 where
  pub thread : Thread
  pub fuel : ℕ
  pub frame : StackFrame
  pub after : StackFrame
  pub of : row s.threads t ≡ Some thread
  pub wants : wanted L s t ≡ Acts act fuel frame
  pub inside : i ≡ frame.instance
  pub answers : Answers L z frame a after
  pub becomes : z ≡ change (with_top t after (with_thread s t (with_fuel (fuel - 1) thread)))

-- A client does a command: it is charged, the state changes so, and the command's names hold the
-- results.
pub record Commanded (L : LoadRows) (s : State) (t : ℕ) (next : Command) (results : List Value) (change : State → State) (z : State) : Type 0 where
  pub thread : Thread
  pub of : row s.threads t ≡ Some thread
  pub wants : wanted L s t ≡ Commands next
  pub becomes : z ≡ change (with_thread s t (command_done L t results thread))

-- the struct and the values that `let` and `text` give
abbrev pub Gives : Command → ℕ → List ℕ → Type 0
Gives (command.Let name ty values) of given = (of ≡ ty) × (given ≡ values)
Gives (command.Text name ty bytes) of given = (of ≡ ty) × (given ≡ bytes)
Gives _ of given = ⊥

-- `new`: a client's `let` or `text`, or a frame's `new`, makes an object with the next number; a
-- frame's has no values of its own.
pub record ClientMakes (L : LoadRows) (s : State) (t : ℕ) (w : Owner) (o ty : ℕ) (values : List ℕ) (z : State) : Type 0 where
  pub next : Command
  pub gives : Gives next ty values
  pub mine : w ≡ owner.Client t
  pub does : Commanded L s t next (value.Obj o ∷ []) (with_new L ty w values) z

pub record FrameMakes (L : LoadRows) (s : State) (t : ℕ) (w : Owner) (o ty : ℕ) (values : List ℕ) (z : State) : Type 0 where
  pub inside : ℕ
  pub mine : w ≡ owner.Instance inside
  pub blank : values ≡ []
  pub does : Does L s t inside (action.New ty) (answer.Made o) (with_new L ty w []) z

pub record Makes (L : LoadRows) (s : State) (t : ℕ) (w : Owner) (o ty : ℕ) (values : List ℕ) (z : State) : Type 0 where
  pub number : o ≡ s.next_object
  pub makes : ClientMakes L s t w o ty values z ⊎ FrameMakes L s t w o ty values z

-- a script name that is used up is no longer bound
abbrev pub unbound : ℕ → Names → Names
unbound k names = slice_set names k None

abbrev pub without_name : ℕ → Thread → Thread
without_name k thread = record thread { names = unbound k thread.names }

-- `drop`: a client's object leaves the heap with its name, or a frame's with its register.
pub record ClientDrops (L : LoadRows) (s : State) (t o : ℕ) (z : State) : Type 0 where
  pub thread : Thread
  pub name : ℕ
  pub of : row s.threads t ≡ Some thread
  pub wants : wanted L s t ≡ Commands (command.Drop name)
  pub object : name_held thread.names name ≡ Some (value.Obj o)
  pub becomes : z ≡ without (o ∷ []) (with_thread s t (command_done L t [] (without_name name thread)))

abbrev pub Drops : LoadRows → State → ℕ → ℕ → State → Type 0
Drops L s t o z = ClientDrops L s t o z ⊎ ((i : ℕ) × Does L s t i (action.Drop o) answer.Went (without (o ∷ [])) z)

-- `set`: cells of an object get values, from a place on
abbrev pub Sets : LoadRows → State → ℕ → ℕ → ℕ → List ℕ → State → Type 0
Sets L s t o at values z = (i : ℕ) × Does L s t i (action.Set o at values) answer.Went (with_cells_of o (overwritten at values)) z

-- `wput`: a word of the instance gets a value
abbrev pub PutsWord : LoadRows → State → ℕ → ℕ → ℕ → ℕ → State → Type 0
PutsWord L s t i at v z = Does L s t i (action.Wput at v) answer.Went (with_word i at v) z

-- a slot of the instance, by its name
abbrev pub IsSlot : LoadRows → State → ℕ → ℕ → List ℕ → Type 0
IsSlot L s i k name = slice_get (slots_of (domain_of_instance L s i).lines) k ≡ Some name

-- `take`: the object of a full slot moves to the frame, and the slot is empty
pub record Takes (L : LoadRows) (s : State) (t i : ℕ) (slot : List ℕ) (o : ℕ) (z : State) : Type 0 where
  pub place : ℕ
  pub named : IsSlot L s i place slot
  pub full : in_slot s i place ≡ Some o
  pub does : Does L s t i (action.Take place) (answer.Made o) (with_slot i place None) z

-- `put`: an object of the frame moves into an empty slot
pub record Puts (L : LoadRows) (s : State) (t i : ℕ) (slot : List ℕ) (o : ℕ) (z : State) : Type 0 where
  pub place : ℕ
  pub named : IsSlot L s i place slot
  pub empty : in_slot s i place ≡ None
  pub does : Does L s t i (action.Put place o) answer.Went (with_slot i place (Some o)) z

-- `devget`: the object's cells become those of the block
abbrev pub block : State → ℕ → List ℕ
block s b = slice_index_or s.blocks b []

abbrev pub with_block : ℕ → List ℕ → State → State
with_block b cells s = record s { blocks = slice_set s.blocks b cells }

abbrev pub instead : List ℕ → List ℕ → List ℕ
instead cells old = cells

abbrev pub GetsBlock : LoadRows → State → ℕ → ℕ → ℕ → State → Type 0
GetsBlock L s t o b z = (i : ℕ) × Does L s t i (action.DevGet o b) answer.Went (with_cells_of o (instead (block s b))) z

-- `devput`: the block becomes the object's cells
abbrev pub PutsBlock : LoadRows → State → ℕ → ℕ → ℕ → State → Type 0
PutsBlock L s t b o z = (i : ℕ) × Does L s t i (action.DevPut b o) answer.Went (with_block b (cells_in (object_of s o))) z

-- `hang`: an object moves into an empty cell of another
pub record Hangs (L : LoadRows) (s : State) (t o place v : ℕ) (z : State) : Type 0 where
  pub inside : ℕ
  pub empty : hung_in s o place ≡ None
  pub does : Does L s t inside (action.Hang o place v) answer.Went (placed v (Hung o place)) z

-- `unhang`: the object in a full cell moves out of it, to the frame
pub record Unhangs (L : LoadRows) (s : State) (t o place v : ℕ) (z : State) : Type 0 where
  pub inside : ℕ
  pub full : hung_in s o place ≡ Some v
  pub does : Does L s t inside (action.Unhang o place) (answer.Made v) (placed v (Root (owner.Instance inside))) z

-- nothing but the thread changes
abbrev pub same : State → State
same s = s

-- `show`: the cells of a client's object are listed
pub record Shows (L : LoadRows) (s : State) (t o : ℕ) (values : List Value) (z : State) : Type 0 where
  pub thread : Thread
  pub name : ℕ
  pub of : row s.threads t ≡ Some thread
  pub object : name_held thread.names name ≡ Some (value.Obj o)
  pub lists : values ≡ shown s o
  pub does : Commanded L s t (command.Show name) [] same z

-- `skip`: the command with this number uses a name that isn't bound, or would make an object where
-- 65,536 are live
pub record SkipsCommand (L : LoadRows) (s : State) (t number : ℕ) (z : State) : Type 0 where
  pub thread : Thread
  pub of : row s.threads t ≡ Some thread
  pub wants : wanted L s t ≡ Skips number
  pub becomes : z ≡ with_thread s t (command_done L t [] thread)

-- `done`: the script has ended
pub record FinishesScript (L : LoadRows) (s : State) (t : ℕ) (z : State) : Type 0 where
  pub thread : Thread
  pub of : row s.threads t ≡ Some thread
  pub wants : wanted L s t ≡ Finishes
  pub becomes : z ≡ with_thread s t (record thread { done = true })
