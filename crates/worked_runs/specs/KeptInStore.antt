-- A worked run: a domain keeps a number in a word, in an object that hangs in the one in its slot,
-- and on its device. A later call takes both objects out and drops them, and returns what it reads
-- back from the device.
use Rattle.std.specs.Prelude.{ℕ, true, List, [], ◌∷◌, replicate, Some, None, codes}
use Rattle.rl_defs.specs.declared.code.DomainLine.TheVariants as form
use Rattle.rl_defs.specs.declared.code.Instr.TheVariants as instr
use Rattle.rl_defs.specs.declared.values.Value.TheVariants as value
use Rattle.machine_defs.specs.declared.values.Arg.TheVariants as arg
use Rattle.machine_defs.specs.declared.values.Owner.TheVariants as owner
use Rattle.machine_defs.specs.declared.entry.Entry.{Entry}
use Rattle.machine_defs.specs.declared.entry.Entry.TheVariants as entry
use Rattle.rl_defs.specs.declared.load.LoadRows.{LoadRows}
use Rattle.rl_defs.specs.declared.load.Command.TheVariants as command
use Rattle.rl_defs.specs.declared.load.ScriptArg.TheVariants as given
use Rattle.rl_defs.specs.declared.tables.Tables.{Tables}
use Rattle.rl_defs.specs.declared.tables.Kind.TheVariants as kind
use Rattle.rl_defs.specs.DomainValue.{Domain}
use Rattle.machine_defs.specs.State.{State, Root, start}
use Rattle.worked_runs.specs.Parts.{u64, tables, has_methods, method, r0, r1, r2, r3, domain, load_of, client, plain_load, thread, instance_of}
use Rattle.worked_runs.specs.WorkedRuns.{IsWorked}

-- struct Block { w: [u64; 64] }, struct Folder { page: RRef<Block> },
-- trait Keep { fn save(&self, n: u64) -> RpcResult<()>; fn open(&self) -> RpcResult<RRef<Block>>; }
abbrev pub store_tables : Tables
store_tables = tables
    (record { name = codes "Block"; flat = replicate 64 u64 } ∷ record { name = codes "Folder"; flat = kind.Own 0 ∷ [] } ∷ [])
    (has_methods (codes "Keep") (method (codes "save") (u64 ∷ []) [] ∷ method (codes "open") [] (kind.Own 0 ∷ []) ∷ []) ∷ [])

-- `save` of n, at line 4: a block object with n in cell 1 is written to block n, and is put into
-- the slot in a folder; the word is n. `open`, at line 16: both objects go, and an object is
-- returned that holds block n.
abbrev pub store : Domain
store = domain store_tables
    (form.Domain (codes "Store") (codes "Keep")
    ∷ form.Words 1
    ∷ form.Slot (codes "kept") (codes "Folder")
    ∷ form.Function (codes "save")
    ∷ form.Code (instr.New r1 (codes "Block"))
    ∷ form.Code (instr.Const r2 1)
    ∷ form.Code (instr.Set r1 r2 r0)
    ∷ form.Code (instr.DevPut r0 r1)
    ∷ form.Code (instr.New r3 (codes "Folder"))
    ∷ form.Code (instr.Hang r3 0 r1)
    ∷ form.Code (instr.Put (codes "kept") r3)
    ∷ form.Code (instr.Const r2 0)
    ∷ form.Code (instr.Wput r2 r0)
    ∷ form.Code (instr.Ret [])
    ∷ form.Close
    ∷ form.Function (codes "open")
    ∷ form.Code (instr.Take r0 (codes "kept"))
    ∷ form.Code (instr.Unhang r1 r0 0)
    ∷ form.Code (instr.Drop r0)
    ∷ form.Code (instr.Drop r1)
    ∷ form.Code (instr.New r2 (codes "Block"))
    ∷ form.Code (instr.Const r0 0)
    ∷ form.Code (instr.Wget r0 r0)
    ∷ form.Code (instr.DevGet r2 r0)
    ∷ form.Code (instr.Ret (r2 ∷ []))
    ∷ form.Close
    ∷ form.Close
    ∷ [])

-- call store.save(3); call store.open() -> b; show b
abbrev pub kept_load : LoadRows
kept_load = record (plain_load store_tables (store ∷ []) (load_of (codes "store") 0 [] ∷ [])
    (client (codes "x") (command.Call 1 0 (given.Num 3 ∷ []) [] ∷ command.Call 1 1 [] (0 ∷ []) ∷ command.Show 0 ∷ []) ∷ [])) {
      device_load = 1;
      blocks = 4;
    }

abbrev pub kept_history : List Entry
kept_history =
    entry.Call 1 1 1 1 0 (arg.Num 3 ∷ [])
    ∷ entry.New 1 (owner.Instance 1) 1 0 []
    ∷ entry.Set 1 1 1 (3 ∷ [])
    ∷ entry.DevPut 1 3 1
    ∷ entry.New 1 (owner.Instance 1) 2 1 []
    ∷ entry.Hang 1 2 0 1
    ∷ entry.Put 1 1 (codes "kept") 2
    ∷ entry.Wput 1 1 0 3
    ∷ entry.Ret 1 1 []
    ∷ entry.Call 1 2 1 1 1 []
    ∷ entry.Take 1 1 (codes "kept") 2
    ∷ entry.Unhang 1 2 0 1
    ∷ entry.Drop 1 2
    ∷ entry.Drop 1 1
    ∷ entry.New 1 (owner.Instance 1) 3 0 []
    ∷ entry.DevGet 1 3 3
    ∷ entry.Ret 1 2 (value.Obj 3 ∷ [])
    ∷ entry.Show 1 3 (value.Num 0 ∷ value.Num 3 ∷ [])
    ∷ entry.Done 1
    ∷ []

-- what was written to block 3
abbrev pub written : List ℕ
written = 0 ∷ 3 ∷ replicate 62 0

-- where it ends: the client has the third object, block 3 is written, the word is 3, and the slot
-- is empty
abbrev pub kept_end : State
kept_end = record (start kept_load) {
  instances = record (instance_of 1 true) { words = 3 ∷ []; slots = None ∷ [] } ∷ [];
  objects = record { number = 3; ty = 0; placement = Root (owner.Client 1); cells = written } ∷ [];
  threads = record (thread 9999 3 (Some (value.Obj 3) ∷ [])) { done = true } ∷ [];
  blocks = replicate 64 0 ∷ replicate 64 0 ∷ replicate 64 0 ∷ written ∷ [];
  next_object = 4;
  next_call = 3;
}

abbrev pub IsKeptInStore : Type 0
IsKeptInStore = IsWorked kept_load kept_history kept_end
    (codes "history"
    ∷ codes "c1 call 1 store/i1 save 3"
    ∷ codes "c1 new i1 o1 Block"
    ∷ codes "c1 set o1 1 3"
    ∷ codes "c1 devput 3 o1"
    ∷ codes "c1 new i1 o2 Folder"
    ∷ codes "c1 hang o2 0 o1"
    ∷ codes "c1 put i1 kept o2"
    ∷ codes "c1 wput i1 0 3"
    ∷ codes "c1 ret 1"
    ∷ codes "c1 call 2 store/i1 open"
    ∷ codes "c1 take i1 kept o2"
    ∷ codes "c1 unhang o2 0 o1"
    ∷ codes "c1 drop o2"
    ∷ codes "c1 drop o1"
    ∷ codes "c1 new i1 o3 Block"
    ∷ codes "c1 devget o3 3"
    ∷ codes "c1 ret 2 o3"
    ∷ codes "c1 show o3 0 3"
    ∷ codes "c1 done"
    ∷ codes "replies"
    ∷ codes "c1 1 ok"
    ∷ codes "c1 2 ok o3"
    ∷ codes "c1 3 shown 0 3"
    ∷ codes "report"
    ∷ codes "o3 Block c1 0"
    ∷ codes "c1 made 0 received 1 passed 0 freed 0"
    ∷ codes "i1 made 3 received 0 passed 1 freed 2"
    ∷ [])
