-- The printed history of a run tells all of its entries.
use Rattle.std.proofs.Common.{ℕ, ◌≤◌, List, length, All}
use Rattle.rl_defs.specs.declared.load.LoadRows.{LoadRows}
use Rattle.machine_defs.specs.declared.entry.Entry.{Entry}
use Rattle.rl_defs.specs.Acceptance.{Accepted}
use Rattle.rl_defs.specs.Valid.{Valid}
use Rattle.machine_defs.specs.EntryTexts.{HasWords, IsWritten, NamesRows, IsEntryOf, RunsAreTold}
use Rattle.valid_loads.proofs.Accepting.{accepted_valid}
use Rattle.text_laws.proofs.OneLine.{histories_apart}
use Rattle.text_laws.proofs.AcceptedWords.{accepted_words}
use Rattle.text_laws.proofs.RunRows.{runs_name_rows}

each_entry : (L : LoadRows) (H : List Entry) → All IsWritten H → All (NamesRows L) H → All (IsEntryOf L) H
each_entry L H written rows k d less = record { written = written k d less; rows = rows k d less }

runs_told : (L : LoadRows) → Valid L → HasWords L → RunsAreTold L
runs_told L valid words H G s z run other written also same =
    histories_apart L H G valid words (each_entry L H written (runs_name_rows L H s valid run)) (each_entry L G also (runs_name_rows L G z valid other)) same

pub accepted_runs_told : (bytes : List ℕ) (L : LoadRows) → length bytes ≤ 1048576 → Accepted bytes L → RunsAreTold L
accepted_runs_told bytes L short accepted = runs_told L (accepted_valid bytes L short accepted) (accepted_words bytes L accepted)
