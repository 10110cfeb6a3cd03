-- A worked run: an object's owner is killed while the object is lent, and the object is freed when
-- the last loan ends.
use Rattle.std.specs.Prelude.{true, false, List, [], ◌∷◌, ◌++◌, codes}
use Rattle.rl_defs.specs.declared.code.DomainLine.TheVariants as line
use Rattle.rl_defs.specs.declared.code.Instr.TheVariants as instr
use Rattle.rl_defs.specs.declared.code.CallArg.TheVariants as passes
use Rattle.rl_defs.specs.declared.code.HeadKind.TheVariants as head
use Rattle.machine_defs.specs.declared.values.Arg.TheVariants as arg
use Rattle.rl_defs.specs.declared.values.Value.TheVariants as value
use Rattle.machine_defs.specs.declared.values.Owner.TheVariants as owner
use Rattle.machine_defs.specs.declared.entry.Entry.{Entry}
use Rattle.machine_defs.specs.declared.entry.Entry.TheVariants as entry
use Rattle.rl_defs.specs.declared.load.LoadRows.{LoadRows}
use Rattle.rl_defs.specs.declared.load.Command.TheVariants as command
use Rattle.rl_defs.specs.declared.tables.Tables.{Tables}
use Rattle.rl_defs.specs.declared.tables.Kind.TheVariants as kind
use Rattle.rl_defs.specs.DomainValue.{Domain}
use Rattle.machine_defs.specs.State.{State, start}
use Rattle.worked_runs.specs.Parts.{u64, struct_p, tables, has_methods, method, r0, r1, r2, r3, item, domain, load_of, client, plain_load, thread, instance_of}
use Rattle.worked_runs.specs.WorkedRuns.{IsWorked}

-- trait S { fn s(&self) -> RpcResult<()>; } trait L { fn l(&self, o: &RRef<P>) -> RpcResult<u64>; }
abbrev pub lending_tables : Tables
lending_tables = tables (struct_p ∷ [])
    (has_methods (codes "S") (method (codes "s") [] [] ∷ [])
    ∷ has_methods (codes "L") (method (codes "l") (kind.Lent 0 ∷ []) (u64 ∷ []) ∷ [])
    ∷ [])

-- it reads what it is lent
abbrev pub reading : Domain
reading = domain lending_tables (
    line.Domain (codes "F") (codes "L")
    ∷ line.Function (codes "l")
    ∷ line.Code (instr.Const r1 0)
    ∷ line.Code (instr.Get r2 r0 r1)
    ∷ line.Code (instr.Ret (r2 ∷ []))
    ∷ line.Close
    ∷ line.Close
    ∷ [])

-- it lends on what it is lent
abbrev pub lending_on : Domain
lending_on = domain lending_tables (
    line.Domain (codes "E") (codes "L")
    ∷ line.Import (codes "next") (codes "L")
    ∷ line.Function (codes "l")
    ∷ line.Code (instr.Cap r1 (codes "next"))
    ∷ line.Code (instr.Call r1 (codes "l") (passes.Lent r0 ∷ []) (r2 ∷ []) r3 (codes "bad"))
    ∷ line.Code (instr.Ret (r2 ∷ []))
    ∷ line.Head (codes "bad") (item r3 head.Num ∷ [])
    ∷ line.Code (instr.Ret (r3 ∷ []))
    ∷ line.Close
    ∷ line.Close
    ∷ [])

-- it makes an object, lends it, and drops it
abbrev pub lending : Domain
lending = domain lending_tables (
    line.Domain (codes "A") (codes "S")
    ∷ line.Import (codes "first") (codes "L")
    ∷ line.Function (codes "s")
    ∷ line.Code (instr.New r0 (codes "P"))
    ∷ line.Code (instr.Cap r1 (codes "first"))
    ∷ line.Code (instr.Call r1 (codes "l") (passes.Lent r0 ∷ []) (r2 ∷ []) r3 (codes "bad"))
    ∷ line.Code (instr.Drop r0)
    ∷ line.Code (instr.Ret [])
    ∷ line.Head (codes "bad") (item r0 (head.Own (codes "P")) ∷ [])
    ∷ line.Code (instr.Drop r0)
    ∷ line.Code (instr.Ret [])
    ∷ line.Close
    ∷ line.Close
    ∷ [])

-- client x calls a.s(), client y kills a; x has three turns before each of y's
abbrev pub lent_load : LoadRows
lent_load = record (plain_load lending_tables (reading ∷ lending_on ∷ lending ∷ [])
    (load_of (codes "f") 0 [] ∷ load_of (codes "e") 1 (1 ∷ []) ∷ load_of (codes "a") 2 (2 ∷ []) ∷ [])
    (client (codes "x") (command.Call 3 0 [] [] ∷ []) ∷ client (codes "y") (command.Kill 3 ∷ []) ∷ [])) {
      order = 1 ∷ 1 ∷ 1 ∷ 2 ∷ [];
    }

-- up to the kill of the object's owner, the kill too
abbrev pub lent_up_to_kill : List Entry
lent_up_to_kill =
    entry.Call 1 1 3 3 0 []
    ∷ entry.New 1 (owner.Instance 3) 1 0 []
    ∷ entry.Call 1 2 2 2 0 (arg.Lent 1 ∷ [])
    ∷ entry.Kill 2 3
    ∷ []

-- up to the return that ends the last loan
abbrev pub lent_before_last : List Entry
lent_before_last = lent_up_to_kill ++ (entry.Call 1 3 1 1 0 (arg.Lent 1 ∷ []) ∷ entry.Ret 1 3 (value.Num 0 ∷ []) ∷ [])

abbrev pub lent_history : List Entry
lent_history = lent_before_last ++
    (entry.Ret 1 2 (value.Num 0 ∷ [])
    ∷ entry.Free 1
    ∷ entry.Done 2
    ∷ entry.Unwound 1 1
    ∷ entry.Done 1
    ∷ [])

abbrev pub lent_end : State
lent_end = record (start lent_load) {
  instances = instance_of 1 true ∷ instance_of 2 true ∷ instance_of 3 false ∷ [];
  threads = record (thread 9990 1 []) { done = true } ∷ record (thread 9999 1 []) { done = true } ∷ [];
  next_object = 2;
  next_call = 4;
}

abbrev pub IsLentWhileKilled : Type 0
IsLentWhileKilled = IsWorked lent_load lent_history lent_end
    (codes "history"
    ∷ codes "c1 call 1 a/i3 s"
    ∷ codes "c1 new i3 o1 P"
    ∷ codes "c1 call 2 e/i2 l &o1"
    ∷ codes "c2 kill i3"
    ∷ codes "c1 call 3 f/i1 l &o1"
    ∷ codes "c1 ret 3 0"
    ∷ codes "c1 ret 2 0"
    ∷ codes "free o1"
    ∷ codes "c2 done"
    ∷ codes "c1 unwound 1"
    ∷ codes "c1 done"
    ∷ codes "replies"
    ∷ codes "c1 1 error 2"
    ∷ codes "report"
    ∷ codes "i3 made 1 received 0 passed 0 freed 1"
    ∷ [])
