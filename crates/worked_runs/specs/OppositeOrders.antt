-- A worked run: two clients enter two serial loads, each first the one that the other enters last.
-- One call would go against the order of the loads and is refused; the other waits until its load
-- is free.
use Rattle.std.specs.Prelude.{ℕ, true, List, [], ◌∷◌, codes}
use Rattle.machine_defs.specs.declared.values.Arg.TheVariants as arg
use Rattle.rl_defs.specs.declared.values.Value.TheVariants as value
use Rattle.machine_defs.specs.declared.values.RpcCode.TheVariants as code
use Rattle.rl_defs.specs.declared.code.HeadKind.TheVariants as head
use Rattle.rl_defs.specs.declared.code.DomainLine.TheVariants as form
use Rattle.rl_defs.specs.declared.code.Instr.TheVariants as instr
use Rattle.rl_defs.specs.declared.tables.Kind.TheVariants as kind
use Rattle.rl_defs.specs.declared.tables.Tables.{Tables}
use Rattle.machine_defs.specs.declared.entry.Entry.{Entry}
use Rattle.machine_defs.specs.declared.entry.Entry.TheVariants as entry
use Rattle.rl_defs.specs.declared.load.LoadRows.{LoadRows}
use Rattle.rl_defs.specs.declared.load.Command.{Command}
use Rattle.rl_defs.specs.declared.load.Command.TheVariants as command
use Rattle.rl_defs.specs.declared.load.ScriptArg.TheVariants as given
use Rattle.rl_defs.specs.DomainValue.{Domain}
use Rattle.machine_defs.specs.State.{State, start}
use Rattle.worked_runs.specs.Parts.{u64, tables, has_methods, method, r0, r1, r2, item, domain, serial_load, client, plain_load, thread}
use Rattle.worked_runs.specs.WorkedRuns.{IsWorked}

abbrev pub leaf_tables : Tables
leaf_tables = tables [] (has_methods (codes "W") (method (codes "go") (kind.Cap 0 ∷ []) (u64 ∷ []) ∷ method (codes "leaf") [] (u64 ∷ []) ∷ []) ∷ [])

-- `go` calls `leaf` of what it is given, and returns its result or the code of its error
abbrev pub leaf_domain : Domain
leaf_domain = domain leaf_tables
    (form.Domain (codes "D") (codes "W")
    ∷ form.Function (codes "go")
    ∷ form.Code (instr.Call r0 (codes "leaf") [] (r1 ∷ []) r2 (codes "bad"))
    ∷ form.Code (instr.Ret (r1 ∷ []))
    ∷ form.Head (codes "bad") (item r2 head.Num ∷ [])
    ∷ form.Code (instr.Ret (r2 ∷ []))
    ∷ form.Close
    ∷ form.Function (codes "leaf")
    ∷ form.Code (instr.Const r0 9)
    ∷ form.Code (instr.Ret (r0 ∷ []))
    ∷ form.Close
    ∷ form.Close
    ∷ [])

-- call `go` of one target, with another
abbrev pub call_go : ℕ → ℕ → Command
call_go target other = command.Call target 0 (given.Target other ∷ []) []

abbrev pub opposite_orders : LoadRows
opposite_orders = plain_load leaf_tables (leaf_domain ∷ []) (serial_load (codes "p") 0 [] ∷ serial_load (codes "q") 0 [] ∷ [])
    (client (codes "x") (call_go 2 1 ∷ []) ∷ client (codes "y") (call_go 1 2 ∷ []) ∷ [])

abbrev pub opposite_orders_history : List Entry
opposite_orders_history =
    entry.Call 1 1 2 2 0 (arg.Cap 1 ∷ [])
    ∷ entry.Call 2 2 1 1 0 (arg.Cap 2 ∷ [])
    ∷ entry.Refuse 2 3 code.Order 2 1 []
    ∷ entry.Ret 2 2 (value.Num 4 ∷ [])
    ∷ entry.Call 1 4 1 1 1 []
    ∷ entry.Done 2
    ∷ entry.Ret 1 4 (value.Num 9 ∷ [])
    ∷ entry.Ret 1 1 (value.Num 9 ∷ [])
    ∷ entry.Done 1
    ∷ []

-- where it ends: four calls were numbered, the refused one among them
abbrev pub opposite_orders_end : State
opposite_orders_end = record (start opposite_orders) {
  threads = record (thread 9995 1 []) { done = true } ∷ record (thread 9997 1 []) { done = true } ∷ [];
  next_call = 5;
}

abbrev pub IsOppositeOrders : Type 0
IsOppositeOrders = IsWorked opposite_orders opposite_orders_history opposite_orders_end
    (codes "history"
    ∷ codes "c1 call 1 q/i2 go @p"
    ∷ codes "c2 call 2 p/i1 go @q"
    ∷ codes "c2 refuse 3 order q leaf"
    ∷ codes "c2 ret 2 4"
    ∷ codes "c1 call 4 p/i1 leaf"
    ∷ codes "c2 done"
    ∷ codes "c1 ret 4 9"
    ∷ codes "c1 ret 1 9"
    ∷ codes "c1 done"
    ∷ codes "replies"
    ∷ codes "c2 1 ok 4"
    ∷ codes "c1 1 ok 9"
    ∷ codes "report"
    ∷ [])
