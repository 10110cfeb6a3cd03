-- Each step of the ledger keeps what holds of it and of the history, and its turn shows every law.
use Rattle.std.proofs.Common.{ℕ, ◌-◌, List, [], ◌∷◌}
use Rattle.machine_defs.specs.declared.entry.Entry.{Entry}
use Rattle.rl_defs.specs.declared.load.LoadRows.{LoadRows}
use Rattle.machine_defs.specs.Steps.{Turn}
use Rattle.machine_defs.specs.Answered.{Answered}
use Rattle.machine_defs.specs.OwnedOnce.{OwnedOnce}
use Rattle.machine_defs.specs.Caused.{Caused}
use Rattle.machine_defs.specs.Untouched.{Untouched}
use Rattle.machine_laws.specs.Ledger.{Ledger, is_doomed, sweep, freed}
use Rattle.machine_laws.specs.LedgerRows.{Row, LedgerStep}
use Rattle.machine_laws.specs.LedgerSound.{Owned, Placed, IsPlan}
use Rattle.machine_laws.proofs.Sweeping.{BeforeSweep, swept_owned}
use Rattle.machine_laws.proofs.Calls.{CallsAgree}
use Rattle.machine_laws.proofs.CallRows.{turn, calls_row}
use Rattle.machine_laws.proofs.PlaceRows.{placed_row}
use Rattle.machine_laws.proofs.OwnerRows.{owned_row}
use Rattle.machine_laws.proofs.HeapRows.{HeapAgrees, heap_row}
use Rattle.machine_laws.proofs.CellRows.{CellsAgree, cells_row}
use Rattle.machine_laws.proofs.Passing.{passing_once}
use Rattle.machine_laws.proofs.Swept.{frees_same, swept_calls, swept_placed, swept_heap, swept_cells, freed_there}
use Rattle.machine_laws.proofs.ShownCalls.{loaded, answered}
use Rattle.machine_laws.proofs.ShownOwners.{rights, names_there, drops_once}
use Rattle.machine_laws.proofs.Contents.{ContentsAgree, contents_row, untouched}
use Rattle.machine_laws.proofs.Ranks.{Ranks}
use Rattle.machine_laws.proofs.RankRows.{ranks_row}
use Rattle.machine_laws.proofs.CountedCalls.{Counted, counted_row}

-- what holds of a ledger and of the turns, the newest first, that led to it
pub record Kept (L : LoadRows) (us : List Turn) (s : Ledger) : Type 0 where
  pub owned : Owned L s
  pub placed : Placed L s
  pub ranks : Ranks L s
  pub calls : CallsAgree L us s
  pub heap : HeapAgrees us s
  pub cells : CellsAgree us s
  pub contents : ContentsAgree L us s
  pub counted : Counted L us s

-- what a turn shows of the turns before it
pub record Shows (L : LoadRows) (us : List Turn) (u : Turn) : Type 0 where
  pub answers : Answered L us u.entry
  pub owners : OwnedOnce L us u
  pub causes : Caused L us u
  pub contents : Untouched us u.entry

-- an entry's row, and the sweep after it
module _ (L : LoadRows) (us : List Turn) (s : Ledger) (plan : IsPlan L) (k : Kept L us s) (e : Entry) (made : Ledger) (row : Row L s e made) where
  made_before_sweep : BeforeSweep L made
  made_before_sweep = owned_row L s k.owned k.placed e made row

  calls_before_sweep : (frees : List ℕ) → CallsAgree L (turn e frees ∷ us) made
  calls_before_sweep frees = calls_row L us s k.calls k.placed frees e made row

  placed_before_sweep : Placed L made
  placed_before_sweep = placed_row L s k.owned k.placed (loaded L us s plan k.calls) e made row

  heap_before_sweep : HeapAgrees (turn e [] ∷ us) made
  heap_before_sweep = heap_row L us s k.owned k.calls k.placed k.heap e made row

  cells_before_sweep : CellsAgree (turn e [] ∷ us) made
  cells_before_sweep = cells_row L us s k.owned k.placed k.cells e made row

  pub row_kept : Kept L (turn e (freed L made) ∷ us) (sweep L made)
  row_kept = record {
    owned = swept_owned L made made_before_sweep;
    placed = swept_placed L us made e (calls_before_sweep []) placed_before_sweep heap_before_sweep cells_before_sweep made_before_sweep;
    ranks = (let r = ranks_row L s k.placed k.ranks e made row in record { ranked = r.ranked; alone = r.alone });
    calls = swept_calls L us made e (calls_before_sweep []) placed_before_sweep heap_before_sweep cells_before_sweep made_before_sweep (freed L made);
    heap = swept_heap L us made e (calls_before_sweep []) placed_before_sweep heap_before_sweep cells_before_sweep made_before_sweep;
    cells = swept_cells L us made e (calls_before_sweep []) placed_before_sweep heap_before_sweep cells_before_sweep made_before_sweep;
    contents = (let x = contents_row L plan us s k.owned k.placed k.contents (freed L made) e made row in record { words_told = x.words_told; slots_told = x.slots_told; no_words = x.no_words; no_slots = x.no_slots });
    counted = (let x = counted_row L us s k.placed k.counted (freed L made) e made row in record { even = x.even; later = x.later; at_most = x.at_most; emptied = x.emptied });
  }

  pub row_shows : Shows L us (turn e (freed L made))
  row_shows = record {
    answers = answered L us s k.owned k.calls k.placed k.heap plan e made row;
    owners = record {
      rights = rights L us s k.owned k.calls k.placed k.heap k.cells e made row;
      names = names_there L us s k.owned k.calls k.placed k.heap k.cells e made row;
      drops_once = drops_once L us s k.owned k.calls k.placed k.heap k.cells e made row;
      frees = freed_there L us made e (calls_before_sweep []) placed_before_sweep heap_before_sweep cells_before_sweep made_before_sweep;
      frees_once = passing_once (is_doomed L made) (made.next_object - 1);
    };
    causes = frees_same L (turn e [] ∷ us) made (calls_before_sweep []) placed_before_sweep heap_before_sweep made_before_sweep;
    contents = untouched L us s k.owned k.calls k.placed k.heap k.contents e made row;
  }

-- one step of whatever kind
pub kept_step : (L : LoadRows) (us : List Turn) (s : Ledger) (u : Turn) (z : Ledger) → IsPlan L → Kept L us s → LedgerStep L s u.entry u.frees z → Kept L (u ∷ us) z × Shows L us u
kept_step L us s u z plan k step =
    let made : Ledger = step.0 in
    let row = step.1 in (
      rw (step.2, step.3) (row_kept L us s plan k u.entry made row),
      rw step.2 (row_shows L us s plan k u.entry made row),
    )
