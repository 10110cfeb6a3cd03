-- A worked run: an object that hangs in another one is shown below it, and is freed when that one
-- is dropped.
use Rattle.std.specs.Prelude.{true, List, [], ◌∷◌, ◌++◌, None, codes}
use Rattle.rl_defs.specs.declared.code.DomainLine.TheVariants as line
use Rattle.rl_defs.specs.declared.code.Instr.{Instr}
use Rattle.rl_defs.specs.declared.code.Instr.TheVariants as instr
use Rattle.rl_defs.specs.declared.values.Value.TheVariants as value
use Rattle.machine_defs.specs.declared.values.Owner.TheVariants as owner
use Rattle.machine_defs.specs.declared.entry.Entry.{Entry}
use Rattle.machine_defs.specs.declared.entry.Entry.TheVariants as entry
use Rattle.rl_defs.specs.declared.load.LoadRows.{LoadRows}
use Rattle.rl_defs.specs.declared.load.Command.{Command}
use Rattle.rl_defs.specs.declared.load.Command.TheVariants as command
use Rattle.rl_defs.specs.declared.tables.Tables.{Tables}
use Rattle.rl_defs.specs.declared.tables.StructRow.{StructRow}
use Rattle.rl_defs.specs.declared.tables.Kind.TheVariants as kind
use Rattle.rl_defs.specs.DomainValue.{Domain}
use Rattle.machine_defs.specs.State.{State, start}
use Rattle.worked_runs.specs.Parts.{u64, struct_p, tables, has_methods, method, r0, r1, domain, load_of, client, plain_load, thread}
use Rattle.worked_runs.specs.WorkedRuns.{IsWorked}

-- struct Q { p: RRef<P>, n: u64 }
abbrev pub struct_q : StructRow
struct_q = record { name = codes "Q"; flat = kind.Own 0 ∷ u64 ∷ [] }

-- trait Mk { fn mk(&self) -> RpcResult<RRef<Q>>; }
abbrev pub hanging_tables : Tables
hanging_tables = tables (struct_p ∷ struct_q ∷ []) (has_methods (codes "Mk") (method (codes "mk") [] (kind.Own 1 ∷ []) ∷ []) ∷ [])

-- it makes a Q and a P, hangs the P into the Q, and ends so
abbrev pub hanging : Instr → Domain
hanging last = domain hanging_tables (
    line.Domain (codes "D") (codes "Mk")
    ∷ line.Function (codes "mk")
    ∷ line.Code (instr.New r0 (codes "Q"))
    ∷ line.Code (instr.New r1 (codes "P"))
    ∷ line.Code (instr.Hang r0 0 r1)
    ∷ line.Code last
    ∷ line.Close
    ∷ line.Close
    ∷ [])

-- client x calls d.mk() -> q, and goes on so
abbrev pub hanging_load : Instr → List Command → LoadRows
hanging_load last then = plain_load hanging_tables (hanging last ∷ []) (load_of (codes "d") 0 [] ∷ [])
    (client (codes "x") (command.Call 1 0 [] (0 ∷ []) ∷ then) ∷ [])

-- up to the object that hangs
abbrev pub hung_so_far : List Entry
hung_so_far =
    entry.Call 1 1 1 1 0 []
    ∷ entry.New 1 (owner.Instance 1) 1 1 []
    ∷ entry.New 1 (owner.Instance 1) 2 0 []
    ∷ entry.Hang 1 1 0 2
    ∷ []

-- it returns the Q; the client has show q and drop q
abbrev pub dropped_load : LoadRows
dropped_load = hanging_load (instr.Ret (r0 ∷ [])) (command.Show 0 ∷ command.Drop 0 ∷ [])

abbrev pub dropped_history : List Entry
dropped_history = hung_so_far ++
    (entry.Ret 1 1 (value.Obj 1 ∷ [])
    ∷ entry.Show 1 1 (value.Obj 2 ∷ [])
    ∷ entry.Drop 1 1
    ∷ entry.Free 2
    ∷ entry.Done 1
    ∷ [])

abbrev pub dropped_end : State
dropped_end = record (start dropped_load) {
  threads = record (thread 9999 3 (None ∷ [])) { done = true } ∷ [];
  next_object = 3;
  next_call = 2;
}

abbrev pub IsHungAndDropped : Type 0
IsHungAndDropped = IsWorked dropped_load dropped_history dropped_end
    (codes "history"
    ∷ codes "c1 call 1 d/i1 mk"
    ∷ codes "c1 new i1 o1 Q"
    ∷ codes "c1 new i1 o2 P"
    ∷ codes "c1 hang o1 0 o2"
    ∷ codes "c1 ret 1 o1"
    ∷ codes "c1 show o1 o2"
    ∷ codes "c1 drop o1"
    ∷ codes "free o2"
    ∷ codes "c1 done"
    ∷ codes "replies"
    ∷ codes "c1 1 ok o1"
    ∷ codes "c1 2 shown o2"
    ∷ codes "report"
    ∷ codes "c1 made 0 received 2 passed 0 freed 2"
    ∷ codes "i1 made 2 received 0 passed 2 freed 0"
    ∷ [])
