-- A worked run: a client's object goes through two domains and comes back.
use Rattle.std.specs.Prelude.{true, List, [], ◌∷◌, None, codes}
use Rattle.rl_defs.specs.declared.code.DomainLine.TheVariants as line
use Rattle.rl_defs.specs.declared.code.Instr.TheVariants as instr
use Rattle.rl_defs.specs.declared.code.CallArg.TheVariants as passes
use Rattle.machine_defs.specs.declared.values.Arg.TheVariants as arg
use Rattle.rl_defs.specs.declared.values.Value.TheVariants as value
use Rattle.machine_defs.specs.declared.values.Owner.TheVariants as owner
use Rattle.machine_defs.specs.declared.entry.Entry.{Entry}
use Rattle.machine_defs.specs.declared.entry.Entry.TheVariants as entry
use Rattle.rl_defs.specs.declared.load.LoadRows.{LoadRows}
use Rattle.rl_defs.specs.declared.load.Command.TheVariants as command
use Rattle.rl_defs.specs.declared.load.ScriptArg.TheVariants as given
use Rattle.rl_defs.specs.declared.tables.Tables.{Tables}
use Rattle.rl_defs.specs.declared.tables.Kind.TheVariants as kind
use Rattle.rl_defs.specs.DomainValue.{Domain}
use Rattle.machine_defs.specs.State.{State, start}
use Rattle.worked_runs.specs.Parts.{struct_p, tables, has_methods, method, r0, r1, r2, domain, load_of, client, plain_load, thread}
use Rattle.worked_runs.specs.WorkedRuns.{IsWorked}

-- trait Pass { fn p(&self, o: RRef<P>) -> RpcResult<RRef<P>>; }
abbrev pub pass_tables : Tables
pass_tables = tables (struct_p ∷ []) (has_methods (codes "Pass") (method (codes "p") (kind.Own 0 ∷ []) (kind.Own 0 ∷ []) ∷ []) ∷ [])

-- it returns what it gets
abbrev pub returning : Domain
returning = domain pass_tables (
    line.Domain (codes "B") (codes "Pass")
    ∷ line.Function (codes "p")
    ∷ line.Code (instr.Ret (r0 ∷ []))
    ∷ line.Close
    ∷ line.Close
    ∷ [])

-- it hands what it gets on, and returns what comes back
abbrev pub handing_on : Domain
handing_on = domain pass_tables (
    line.Domain (codes "A") (codes "Pass")
    ∷ line.Import (codes "next") (codes "Pass")
    ∷ line.Function (codes "p")
    ∷ line.Code (instr.Cap r1 (codes "next"))
    ∷ line.Code (instr.Call r1 (codes "p") (passes.Passed r0 ∷ []) (r0 ∷ []) r2 (codes "bad"))
    ∷ line.Code (instr.Ret (r0 ∷ []))
    ∷ line.Head (codes "bad") []
    ∷ line.Code instr.Trap
    ∷ line.Close
    ∷ line.Close
    ∷ [])

-- let o = new P 7; call a.p(o) -> q; drop q
abbrev pub moved_load : LoadRows
moved_load = plain_load pass_tables (returning ∷ handing_on ∷ [])
    (load_of (codes "b") 0 [] ∷ load_of (codes "a") 1 (1 ∷ []) ∷ [])
    (client (codes "x") (command.Let 0 0 (7 ∷ []) ∷ command.Call 2 0 (given.Name 0 ∷ []) (1 ∷ []) ∷ command.Drop 1 ∷ []) ∷ [])

abbrev pub moved_history : List Entry
moved_history =
    entry.New 1 (owner.Client 1) 1 0 (7 ∷ [])
    ∷ entry.Call 1 1 2 2 0 (arg.Moved 1 ∷ [])
    ∷ entry.Call 1 2 1 1 0 (arg.Moved 1 ∷ [])
    ∷ entry.Ret 1 2 (value.Obj 1 ∷ [])
    ∷ entry.Ret 1 1 (value.Obj 1 ∷ [])
    ∷ entry.Drop 1 1
    ∷ entry.Done 1
    ∷ []

-- where it ends: the command that drops the object took 10,000 of fuel and was charged 1
abbrev pub moved_end : State
moved_end = record (start moved_load) {
  threads = record (thread 9999 3 (None ∷ None ∷ [])) { done = true } ∷ [];
  next_object = 2;
  next_call = 3;
}

abbrev pub IsMovedTwice : Type 0
IsMovedTwice = IsWorked moved_load moved_history moved_end
    (codes "history"
    ∷ codes "c1 new c1 o1 P 7"
    ∷ codes "c1 call 1 a/i2 p o1"
    ∷ codes "c1 call 2 b/i1 p o1"
    ∷ codes "c1 ret 2 o1"
    ∷ codes "c1 ret 1 o1"
    ∷ codes "c1 drop o1"
    ∷ codes "c1 done"
    ∷ codes "replies"
    ∷ codes "c1 2 ok o1"
    ∷ codes "report"
    ∷ codes "c1 made 1 received 1 passed 1 freed 1"
    ∷ codes "i1 made 0 received 1 passed 1 freed 0"
    ∷ codes "i2 made 0 received 2 passed 2 freed 0"
    ∷ [])
