-- A worked run: a domain calls another, and is killed while that one runs. The object that comes
-- back is freed, since its caller has ended, and the caller's own call ends with an error.
use Rattle.std.specs.Prelude.{true, false, List, [], ◌∷◌, codes}
use Rattle.rl_defs.specs.declared.values.Value.TheVariants as value
use Rattle.machine_defs.specs.declared.values.Owner.TheVariants as owner
use Rattle.rl_defs.specs.declared.code.DomainLine.TheVariants as form
use Rattle.rl_defs.specs.declared.code.Instr.TheVariants as instr
use Rattle.rl_defs.specs.declared.tables.Kind.TheVariants as kind
use Rattle.rl_defs.specs.declared.tables.Tables.{Tables}
use Rattle.machine_defs.specs.declared.entry.Entry.{Entry}
use Rattle.machine_defs.specs.declared.entry.Entry.TheVariants as entry
use Rattle.rl_defs.specs.declared.load.LoadRows.{LoadRows}
use Rattle.rl_defs.specs.declared.load.Command.TheVariants as command
use Rattle.rl_defs.specs.DomainValue.{Domain}
use Rattle.machine_defs.specs.State.{State, start}
use Rattle.worked_runs.specs.Parts.{struct_p, tables, has_methods, method, r0, r1, r2, domain, load_of, client, plain_load, thread, instance_of}
use Rattle.worked_runs.specs.WorkedRuns.{IsWorked}

abbrev pub caller_tables : Tables
caller_tables = tables (struct_p ∷ [])
    (has_methods (codes "S") (method (codes "s") [] [] ∷ [])
    ∷ has_methods (codes "M") (method (codes "m") [] (kind.Own 0 ∷ []) ∷ [])
    ∷ [])

-- domain `B` makes an object and returns it
abbrev pub maker : Domain
maker = domain caller_tables
    (form.Domain (codes "B") (codes "M")
    ∷ form.Function (codes "m")
    ∷ form.Code (instr.New r0 (codes "P"))
    ∷ form.Code (instr.Ret (r0 ∷ []))
    ∷ form.Close
    ∷ form.Close
    ∷ [])

-- domain `A` calls it, and drops what it gets
abbrev pub caller : Domain
caller = domain caller_tables
    (form.Domain (codes "A") (codes "S")
    ∷ form.Import (codes "first") (codes "M")
    ∷ form.Function (codes "s")
    ∷ form.Code (instr.Cap r0 (codes "first"))
    ∷ form.Code (instr.Call r0 (codes "m") [] (r1 ∷ []) r2 (codes "bad"))
    ∷ form.Code (instr.Drop r1)
    ∷ form.Code (instr.Ret [])
    ∷ form.Head (codes "bad") []
    ∷ form.Code (instr.Ret [])
    ∷ form.Close
    ∷ form.Close
    ∷ [])

-- client `x` calls the caller, and `y` kills it
abbrev pub ended_caller : LoadRows
ended_caller = record (plain_load caller_tables (maker ∷ caller ∷ []) (load_of (codes "b") 0 [] ∷ load_of (codes "a") 1 (1 ∷ []) ∷ [])
    (client (codes "x") (command.Call 2 0 [] [] ∷ []) ∷ client (codes "y") (command.Kill 2 ∷ []) ∷ [])) { order = 1 ∷ 1 ∷ 2 ∷ [] }

abbrev pub ended_caller_history : List Entry
ended_caller_history =
    entry.Call 1 1 2 2 0 []
    ∷ entry.Call 1 2 1 1 0 []
    ∷ entry.Kill 2 2
    ∷ entry.New 1 (owner.Instance 1) 1 0 []
    ∷ entry.Ret 1 2 (value.Obj 1 ∷ [])
    ∷ entry.Free 1
    ∷ entry.Done 2
    ∷ entry.Unwound 1 1
    ∷ entry.Done 1
    ∷ []

-- where it ends: the caller has ended, and no object is left
abbrev pub ended_caller_end : State
ended_caller_end = record (start ended_caller) {
  instances = instance_of 1 true ∷ instance_of 2 false ∷ [];
  threads = record (thread 9995 1 []) { done = true } ∷ record (thread 9999 1 []) { done = true } ∷ [];
  next_object = 2;
  next_call = 3;
}

abbrev pub IsEndedCaller : Type 0
IsEndedCaller = IsWorked ended_caller ended_caller_history ended_caller_end
    (codes "history"
    ∷ codes "c1 call 1 a/i2 s"
    ∷ codes "c1 call 2 b/i1 m"
    ∷ codes "c2 kill i2"
    ∷ codes "c1 new i1 o1 P"
    ∷ codes "c1 ret 2 o1"
    ∷ codes "free o1"
    ∷ codes "c2 done"
    ∷ codes "c1 unwound 1"
    ∷ codes "c1 done"
    ∷ codes "replies"
    ∷ codes "c1 1 error 2"
    ∷ codes "report"
    ∷ codes "i1 made 1 received 0 passed 1 freed 0"
    ∷ codes "i2 made 0 received 1 passed 0 freed 1"
    ∷ [])
