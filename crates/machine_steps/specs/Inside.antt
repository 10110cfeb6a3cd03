-- What a machine stands for, and what every machine keeps.
use Rattle.std.specs.Prelude.{◌≡◌, ◌+◌, ◌<◌, ◌≤◌, length}
use Rattle.rl_defs.specs.Valid.{Valid}
use Rattle.machine_defs.specs.State.{State}
use Rattle.machine_defs.specs.Runs.{Run}
use Rattle.rref_heap.specs.HeapValue.{heap_objects}
use Rattle.proxies.specs.Table.{proxies_of}
use Rattle.machine_steps.specs.declared.machine.Machine.TheInside.{Inside}
use Rattle.machine_steps.specs.Kept.{Kept, TurnsAreShort, IsCodeAlone, Agrees}

-- the state that its parts are
abbrev pub state_of : Inside → State
state_of w = record {
  instances = w.instances;
  objects = heap_objects w.heap.rows;
  stacks = w.stacks.frames;
  threads = w.threads;
  shadows = w.shadows;
  blocks = w.blocks;
  next_object = length w.heap.rows + 1;
  next_call = w.next_call;
}

abbrev pub kept : Inside → Kept
kept w = record { load = w.load; log = w.log.entries; state = state_of w }

-- There is room for the entries of each turn that may begin, a count of frames for each instance at
-- least, and a place for what each client and each instance owns.
pub record HasRooms (w : Inside) : Type 0 where
  pub log : 327680 ≤ length w.log.entries + w.log.spare
  pub counts : length w.instances ≤ w.stacks.instances
  pub clients : length w.load.clients < w.heap.clients
  pub owners : length w.instances < w.heap.instances

pub record IsKept (w : Inside) : Type 0 where
  pub valid : Valid w.load
  pub run : Run w.load w.log.entries (state_of w)
  pub turns : TurnsAreShort w.log.entries
  pub agrees : Agrees w.load (state_of w) w.heap.rows
  pub rooms : HasRooms w
  pub found : w.proxies ≡ proxies_of w.load
  pub code : IsCodeAlone w.load
