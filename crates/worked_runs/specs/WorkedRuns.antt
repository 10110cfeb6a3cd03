-- What is shown of each worked run.
use Rattle.std.specs.Prelude.{◌≡◌, ℕ, List}
use Rattle.std.specs.List.{flat_map}
use Rattle.machine_defs.specs.declared.entry.Entry.{Entry}
use Rattle.rl_defs.specs.declared.load.LoadRows.{LoadRows}
use Rattle.machine_defs.specs.State.{State}
use Rattle.machine_defs.specs.Texts.{line}
use Rattle.machine_defs.specs.Report.{out_text}
use Rattle.machine_defs.specs.Runs.{WholeRun, OrderRun}

-- The history is a whole and an ordered run of the load, which ends in this state; and these lines
-- are what it prints.
pub record IsWorked (L : LoadRows) (H : List Entry) (end : State) (lines : List (List ℕ)) : Type 0 where
  pub whole : WholeRun L H end
  pub order : OrderRun L H end
  pub prints : out_text L H end ≡ flat_map line lines
