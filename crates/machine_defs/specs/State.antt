-- The states of the domain machine.
use Rattle.std.specs.Prelude.{ℕ, ◌+◌, ◌-◌, [], ◌∷◌, Bool, List, Option, false, Some, None, length, slice_set, true, map, replicate}
use Rattle.std.specs.List.{flat_map}
use Rattle.std.specs.Option.{option_map_or}
use Rattle.machine_defs.specs.declared.values.Owner.{Owner}
use Rattle.machine_defs.specs.declared.frame.Frame.{Frame}
use Rattle.machine_defs.specs.declared.frame.Action.{Action}
use Rattle.rl_defs.specs.declared.values.Value.{Value}
use Rattle.rl_defs.specs.declared.load.LoadRows.{LoadRows}
use Rattle.rl_defs.specs.declared.load.LoadRow.{LoadRow}
use Rattle.rl_defs.specs.declared.load.ClientRow.{ClientRow}
use Rattle.rl_defs.specs.declared.load.ShadowRow.{ShadowRow}
use Rattle.rl_defs.specs.Rows.{row, bound_by}
use Rattle.rl_defs.specs.Domains.{domain_of, words_of, slots_of}

-- an instance of a load: live or ended, with its words and its slots
pub record Instance : Type 0 where
  pub load : ℕ
  pub live : Bool
  pub words : List ℕ
  pub slots : List (Option ℕ)

-- where an object is: it has an owner of its own, or it hangs in a cell of another object
pub data Placement : Type 0 where
  Root : (owner : Owner) → Placement
  Hung : (parent place : ℕ) → Placement

-- an object of the shared heap. A cell for an `RRef` is 0 here; what hangs in it says so itself
pub record Object : Type 0 where
  pub number : ℕ
  pub ty : ℕ
  pub placement : Placement
  pub cells : List ℕ

-- a frame; of a native body it has the action that the body wants next
abbrev pub StackFrame : Type 0
StackFrame = Frame Action

-- a client's thread beside its stack: its fuel, the next command's place in the script, what the
-- script's names hold
pub record Thread : Type 0 where
  pub fuel : ℕ
  pub place : ℕ
  pub names : List (Option Value)
  pub done : Bool

-- a shadow: the instance that it stands for now, and the restarts that are left
pub record Shadow : Type 0 where
  pub current : ℕ
  pub left : ℕ

-- Instances, clients and shadows stand in the order of their numbers, objects by rising number, the
-- frames of a stack the lowest first. The frame of the client itself lies below them and isn't
-- listed.
pub record State : Type 0 where
  pub instances : List Instance
  pub objects : List Object
  pub stacks : List (List StackFrame)
  pub threads : List Thread
  pub shadows : List Shadow
  pub blocks : List (List ℕ)
  pub next_object : ℕ
  pub next_call : ℕ

-- the instance is one that was opened and hasn't ended
abbrev pub lives : Option Instance → Bool
lives None = false
lives (Some i) = i.live

abbrev pub is_live : State → ℕ → Bool
is_live s i = lives (row s.instances i)

-- the instance that a target stands for now: a load's is the instance of the same number
abbrev pub current_of : ℕ → Option Shadow → ℕ
current_of target None = target
current_of target (Some shadow) = shadow.current

abbrev pub current : LoadRows → State → ℕ → ℕ
current L s target = current_of target (row s.shadows (target - length L.loads))

-- the stack of a client, of whom there may be none of this number
abbrev pub frames_of : Option (List StackFrame) → List StackFrame
frames_of None = []
frames_of (Some frames) = frames

abbrev pub stack : State → ℕ → List StackFrame
stack s t = frames_of (row s.stacks t)

-- the state with this stack, or this thread, of a client
abbrev pub with_stack : State → ℕ → List StackFrame → State
with_stack s t frames = record s { stacks = slice_set s.stacks (t - 1) frames }

abbrev pub with_thread : State → ℕ → Thread → State
with_thread s t thread = record s { threads = slice_set s.threads (t - 1) thread }

-- the start: one live instance of each load, its words 0 and its slots empty; each client before
-- its first command
abbrev pub first_instance : LoadRows → ℕ → LoadRow → Instance
first_instance L k l = record {
  load = k;
  live = true;
  words = replicate (words_of (domain_of L l.domain)) 0;
  slots = map (λ slot. None) (slots_of (domain_of L l.domain));
}

abbrev pub first_instances : LoadRows → ℕ → List LoadRow → List Instance
first_instances L k [] = []
first_instances L k (l ∷ ls) = first_instance L k l ∷ first_instances L (k + 1) ls

abbrev pub first_thread : ClientRow → Thread
first_thread client = record { fuel = 0; place = 0; names = replicate (length (flat_map bound_by client.commands)) None; done = false }

abbrev pub first_shadow : ShadowRow → Shadow
first_shadow x = record { current = x.load; left = x.restarts }

abbrev pub no_frames : List StackFrame
no_frames = []

abbrev pub start : LoadRows → State
start L = record {
  instances = first_instances L 1 L.loads;
  objects = [];
  stacks = map (λ client. no_frames) L.clients;
  threads = map first_thread L.clients;
  shadows = map first_shadow L.shadows;
  blocks = replicate L.blocks (replicate 64 0);
  next_object = 1;
  next_call = 1;
}

-- the newest frame of a stack
abbrev pub top : List StackFrame → Option StackFrame
top [] = None
top (f ∷ []) = Some f
top (f ∷ (g ∷ fs)) = top (g ∷ fs)

-- the load of an instance
abbrev pub instance_load : State → ℕ → ℕ
instance_load s i = option_map_or (λ instance. instance.load) (row s.instances i) 0
