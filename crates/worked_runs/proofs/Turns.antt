-- Turns of a run, and what makes a run a worked one.
use Rattle.std.proofs.Common.{◌≡◌, ℕ, List, [], ◌++◌, Some, refl, sym, subst}
use Rattle.std.specs.List.{flat_map}
use Rattle.machine_defs.specs.declared.entry.Entry.{Entry}
use Rattle.rl_defs.specs.declared.load.LoadRows.{LoadRows}
use Rattle.machine_defs.specs.State.{State, start}
use Rattle.machine_defs.specs.Runs.{AllDone}
use Rattle.machine_defs.specs.Texts.{line}
use Rattle.machine_defs.specs.Report.{out_text}
use Rattle.machine_defs.specs.Entries.{thread_of}
use Rattle.machine_defs.specs.Steps.{Turn, Step}
use Rattle.machine_defs.specs.Runs.{Run, Begins, Ordered, Stays, Turns, next_turn, entries_of_turn}
use Rattle.machine_defs.proofs.TurnsTold.{ordered_runs_go_on}
use Rattle.worked_runs.specs.WorkedRuns.{IsWorked}

-- no turn yet; and one turn more, after which the order list is at this place
pub none_yet : {L : LoadRows} → Ordered L (start L) [] (start L) 0
none_yet = Stays refl refl refl

pub goes_on : {L : LoadRows} {G : List Entry} {u : Turn} {s z : State} {place : ℕ} (next : ℕ) → Ordered L (start L) G s place → Step L s u z → next_turn L s place ≡ Some (thread_of u.entry, next) → Ordered L (start L) (G ++ entries_of_turn u) z next
goes_on {u} next before step here = Turns u next before here step refl

-- turns in the order of the list, to a state in which all are done, are a worked run
pub worked : {L : LoadRows} {G H : List Entry} {lines : List (List ℕ)} {s : State} {place : ℕ} → Ordered L (start L) G s place → AllDone s → H ≡ G → out_text L H s ≡ flat_map line lines → IsWorked L H s lines
worked {L} {G} {H} {lines} {s} {place} ordered done lists prints = record {
  whole = record { run = subst (λ F. Run L F s) (sym lists) (ordered_runs_go_on L [] G (start L) s place (Begins refl refl) ordered); done = done };
  order = record { place = place; ordered = subst (λ F. Ordered L (start L) F s place) (sym lists) ordered };
  prints = prints;
}
