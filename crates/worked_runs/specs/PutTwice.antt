-- A worked run: a domain puts an object into its slot, and traps where it would put another one
-- into the full slot. Both objects are freed.
use Rattle.std.specs.Prelude.{false, true, List, [], ◌∷◌, Some, codes}
use Rattle.rl_defs.specs.declared.code.DomainLine.TheVariants as form
use Rattle.rl_defs.specs.declared.code.Instr.TheVariants as instr
use Rattle.machine_defs.specs.declared.values.Owner.TheVariants as owner
use Rattle.machine_defs.specs.declared.values.Cause.TheVariants as cause
use Rattle.machine_defs.specs.declared.entry.Entry.{Entry}
use Rattle.machine_defs.specs.declared.entry.Entry.TheVariants as entry
use Rattle.rl_defs.specs.declared.load.LoadRows.{LoadRows}
use Rattle.rl_defs.specs.declared.load.Command.{Command}
use Rattle.rl_defs.specs.declared.load.Command.TheVariants as command
use Rattle.rl_defs.specs.declared.tables.Tables.{Tables}
use Rattle.rl_defs.specs.DomainValue.{Domain}
use Rattle.machine_defs.specs.State.{State, start}
use Rattle.worked_runs.specs.Parts.{struct_p, tables, has_methods, method, r0, domain, load_of, client, plain_load, thread, instance_of}
use Rattle.worked_runs.specs.WorkedRuns.{IsWorked}

abbrev pub keeper_tables : Tables
keeper_tables = tables (struct_p ∷ []) (has_methods (codes "S") (method (codes "f") [] [] ∷ []) ∷ [])

-- it makes an object and puts it into its slot
abbrev pub keeper : Domain
keeper = domain keeper_tables
    (form.Domain (codes "K") (codes "S")
    ∷ form.Slot (codes "s") (codes "P")
    ∷ form.Function (codes "f")
    ∷ form.Code (instr.New r0 (codes "P"))
    ∷ form.Code (instr.Put (codes "s") r0)
    ∷ form.Code (instr.Ret [])
    ∷ form.Close
    ∷ form.Close
    ∷ [])

-- the client calls it twice
abbrev pub call_keeper : Command
call_keeper = command.Call 1 0 [] []

abbrev pub put_twice : LoadRows
put_twice = plain_load keeper_tables (keeper ∷ []) (load_of (codes "k") 0 [] ∷ [])
    (client (codes "x") (call_keeper ∷ call_keeper ∷ []) ∷ [])

abbrev pub put_twice_history : List Entry
put_twice_history =
    entry.Call 1 1 1 1 0 []
    ∷ entry.New 1 (owner.Instance 1) 1 0 []
    ∷ entry.Put 1 1 (codes "s") 1
    ∷ entry.Ret 1 1 []
    ∷ entry.Call 1 2 1 1 0 []
    ∷ entry.New 1 (owner.Instance 1) 2 0 []
    ∷ entry.Trap 1 1 cause.Full
    ∷ entry.Free 1
    ∷ entry.Free 2
    ∷ entry.Unwound 1 2
    ∷ entry.Done 1
    ∷ []

-- where it ends: the ended instance's slot still names the object that was freed
abbrev pub put_twice_end : State
put_twice_end = record (start put_twice) {
  instances = record (instance_of 1 false) { slots = Some 1 ∷ [] } ∷ [];
  threads = record (thread 9998 2 []) { done = true } ∷ [];
  next_object = 3;
  next_call = 3;
}

abbrev pub IsPutTwice : Type 0
IsPutTwice = IsWorked put_twice put_twice_history put_twice_end
    (codes "history"
    ∷ codes "c1 call 1 k/i1 f"
    ∷ codes "c1 new i1 o1 P"
    ∷ codes "c1 put i1 s o1"
    ∷ codes "c1 ret 1"
    ∷ codes "c1 call 2 k/i1 f"
    ∷ codes "c1 new i1 o2 P"
    ∷ codes "c1 trap i1 full"
    ∷ codes "free o1"
    ∷ codes "free o2"
    ∷ codes "c1 unwound 2"
    ∷ codes "c1 done"
    ∷ codes "replies"
    ∷ codes "c1 1 ok"
    ∷ codes "c1 2 error 2"
    ∷ codes "report"
    ∷ codes "i1 made 2 received 0 passed 0 freed 2"
    ∷ [])
