-- A worked run: a call's fuel is used up before its last instruction, and its instance traps there.
use Rattle.std.specs.Prelude.{false, true, List, [], ◌∷◌, codes}
use Rattle.rl_defs.specs.declared.code.DomainLine.TheVariants as form
use Rattle.rl_defs.specs.declared.code.Instr.TheVariants as instr
use Rattle.rl_defs.specs.declared.code.MathOp.TheVariants as op
use Rattle.machine_defs.specs.declared.values.Arg.{Arg}
use Rattle.machine_defs.specs.declared.values.Arg.TheVariants as arg
use Rattle.machine_defs.specs.declared.values.Cause.TheVariants as cause
use Rattle.machine_defs.specs.declared.entry.Entry.{Entry}
use Rattle.machine_defs.specs.declared.entry.Entry.TheVariants as entry
use Rattle.rl_defs.specs.declared.load.LoadRows.{LoadRows}
use Rattle.rl_defs.specs.declared.load.Command.TheVariants as command
use Rattle.rl_defs.specs.declared.load.ScriptArg.TheVariants as given
use Rattle.rl_defs.specs.declared.tables.Tables.{Tables}
use Rattle.rl_defs.specs.DomainValue.{Domain}
use Rattle.machine_defs.specs.State.{State, start}
use Rattle.worked_runs.specs.Parts.{u64, tables, has_methods, method, r0, r1, r2, domain, load_of, client, plain_load, thread, instance_of}
use Rattle.worked_runs.specs.WorkedRuns.{IsWorked}

abbrev pub adder_tables : Tables
adder_tables = tables [] (has_methods (codes "Math") (method (codes "add") (u64 ∷ u64 ∷ []) (u64 ∷ []) ∷ []) ∷ [])

-- it returns the sum of what it gets
abbrev pub adder : Domain
adder = domain adder_tables
    (form.Domain (codes "Calc") (codes "Math")
    ∷ form.Function (codes "add")
    ∷ form.Code (instr.Math op.Add r2 r0 r1)
    ∷ form.Code (instr.Ret (r2 ∷ []))
    ∷ form.Close
    ∷ form.Close
    ∷ [])

-- Of a fuel of 2 the call takes 1, and the sum the other.
abbrev pub out_of_fuel : LoadRows
out_of_fuel = record (plain_load adder_tables (adder ∷ []) (load_of (codes "calc") 0 [] ∷ [])
    (client (codes "a") (command.Call 1 0 (given.Num 2 ∷ given.Num 3 ∷ []) [] ∷ []) ∷ [])) { fuel = 2 }

abbrev pub two_and_three : List Arg
two_and_three = arg.Num 2 ∷ arg.Num 3 ∷ []

abbrev pub out_of_fuel_history : List Entry
out_of_fuel_history =
    entry.Call 1 1 1 1 0 two_and_three
    ∷ entry.Trap 1 1 cause.Fuel
    ∷ entry.Unwound 1 1
    ∷ entry.Done 1
    ∷ []

abbrev pub out_of_fuel_end : State
out_of_fuel_end = record (start out_of_fuel) {
  instances = instance_of 1 false ∷ [];
  threads = record (thread 0 1 []) { done = true } ∷ [];
  next_call = 2;
}

abbrev pub IsOutOfFuel : Type 0
IsOutOfFuel = IsWorked out_of_fuel out_of_fuel_history out_of_fuel_end
    (codes "history"
    ∷ codes "c1 call 1 calc/i1 add 2 3"
    ∷ codes "c1 trap i1 fuel"
    ∷ codes "c1 unwound 1"
    ∷ codes "c1 done"
    ∷ codes "replies"
    ∷ codes "c1 1 error 2"
    ∷ codes "report"
    ∷ [])
