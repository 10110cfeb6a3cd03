-- A worked run: an instance traps that has an object with another one below it, and both are freed.
use Rattle.std.specs.Prelude.{true, false, List, [], ◌∷◌, ◌++◌, None, codes}
use Rattle.rl_defs.specs.declared.code.Instr.TheVariants as instr
use Rattle.machine_defs.specs.declared.values.Cause.TheVariants as cause
use Rattle.machine_defs.specs.declared.entry.Entry.{Entry}
use Rattle.machine_defs.specs.declared.entry.Entry.TheVariants as entry
use Rattle.rl_defs.specs.declared.load.LoadRows.{LoadRows}
use Rattle.machine_defs.specs.State.{State, start}
use Rattle.worked_runs.specs.Parts.{thread, instance_of}
use Rattle.worked_runs.specs.WorkedRuns.{IsWorked}
use Rattle.worked_runs.specs.HungAndDropped.{hanging_load, hung_so_far}

-- its code traps where it would return, and the client's script ends behind its call
abbrev pub trapped_load : LoadRows
trapped_load = hanging_load instr.Trap []

abbrev pub trapped_history : List Entry
trapped_history = hung_so_far ++ (entry.Trap 1 1 cause.Asked ∷ entry.Free 1 ∷ entry.Free 2 ∷ entry.Unwound 1 1 ∷ entry.Done 1 ∷ [])

-- where it ends: the trap cost nothing
abbrev pub trapped_end : State
trapped_end = record (start trapped_load) {
  instances = instance_of 1 false ∷ [];
  threads = record (thread 9996 1 (None ∷ [])) { done = true } ∷ [];
  next_object = 3;
  next_call = 2;
}

abbrev pub IsTrapOverHung : Type 0
IsTrapOverHung = IsWorked trapped_load trapped_history trapped_end
    (codes "history"
    ∷ codes "c1 call 1 d/i1 mk"
    ∷ codes "c1 new i1 o1 Q"
    ∷ codes "c1 new i1 o2 P"
    ∷ codes "c1 hang o1 0 o2"
    ∷ codes "c1 trap i1 asked"
    ∷ codes "free o1"
    ∷ codes "free o2"
    ∷ codes "c1 unwound 1"
    ∷ codes "c1 done"
    ∷ codes "replies"
    ∷ codes "c1 1 error 2"
    ∷ codes "report"
    ∷ codes "i1 made 2 received 0 passed 0 freed 2"
    ∷ [])
