-- The ledger of a state of the machine.
use Rattle.std.specs.Prelude.{ℕ, ◌+◌, Bool, false, if◌then◌else◌, List, [], ◌∷◌, length, Option, Some, None}
use Rattle.std.specs.List.{slice_index_or, filter_map}
use Rattle.machine_defs.specs.declared.values.Owner.TheVariants as owner
use Rattle.rl_defs.specs.declared.load.LoadRows.{LoadRows}
use Rattle.machine_defs.specs.State.{State, StackFrame, Object, Thread, Placement, is_live, current, stack}
use Rattle.rl_defs.specs.Rows.{row}
use Rattle.machine_defs.specs.Loans.{object_of}
use Rattle.machine_defs.specs.State.{instance_load}
use Rattle.machine_defs.specs.Seen.{words, slots}
use Rattle.rl_defs.specs.Rows.{is_target}
use Rattle.machine_defs.specs.Calling.{restarts_left}
use Rattle.machine_defs.specs.Sound.{own_of, object_held}
use Rattle.machine_laws.specs.Ledger.{LedgerFrame, Ledger}

abbrev pub frame_entry : StackFrame → LedgerFrame
frame_entry f = record { party = owner.Instance f.instance; call = f.call; target = f.target; method = f.method; args = f.args; lent = f.lent; own = own_of f }

-- the client's own frame: its objects are those that its script's names hold
abbrev pub names_held : Option Thread → List ℕ
names_held None = []
names_held (Some thread) = filter_map object_held thread.names

abbrev pub client_entry : State → ℕ → LedgerFrame
client_entry s t = record { party = owner.Client t; call = 0; target = 0; method = 0; args = []; lent = []; own = names_held (row s.threads t) }

-- a stack of the machine lists its lowest frame first
abbrev pub entries_of : List StackFrame → List LedgerFrame → List LedgerFrame
entries_of [] below = below
entries_of (f ∷ fs) below = entries_of fs (frame_entry f ∷ below)

abbrev pub seat_of : Option Object → Option Placement
seat_of None = None
seat_of (Some x) = Some x.placement

abbrev pub is_done : Option Thread → Bool
is_done None = false
is_done (Some thread) = thread.done

abbrev pub ledger_of : LoadRows → State → Ledger
ledger_of L s = record {
  loads = instance_load s;
  live = is_live s;
  words = λ i at. slice_index_or (words s i) at 0;
  slots = slots s;
  seat = λ o. seat_of (object_of s o);
  stack = λ t. entries_of (stack s t) (client_entry s t ∷ []);
  done = λ t. is_done (row s.threads t);
  current = λ x. if is_target L x then current L s x else 0;
  left = restarts_left L s;
  next_instance = length s.instances + 1;
  next_object = s.next_object;
  next_call = s.next_call;
}
