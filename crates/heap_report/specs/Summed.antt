-- What a summary counts.
use Rattle.std.specs.Prelude.{ℕ, ◌+◌, ◌*◌, ◌≤◌, List, length, filter}
use Rattle.std.specs.List.{filter_map, flat_map}
use Rattle.machine_defs.specs.declared.entry.Entry.{Entry}
use Rattle.machine_defs.specs.Report.{enters, fails, maker_at, frees_at}
use Rattle.heap_report.specs.declared.summary.Counts.{Counts}

-- the counts of these entries
abbrev pub counts_of : List Entry → Counts
counts_of H = record {
  calls = length (filter enters H);
  errors = length (filter fails H);
  made = length (filter_map maker_at H);
  freed = length (flat_map frees_at H);
}

abbrev pub plus : Counts → Counts → Counts
plus a b = record { calls = a.calls + b.calls; errors = a.errors + b.errors; made = a.made + b.made; freed = a.freed + b.freed }

-- no count is larger than so many entries allow
pub record AreCountsFew (a : Counts) (n : ℕ) : Type 0 where
  pub calls : a.calls ≤ n
  pub errors : a.errors ≤ n
  pub made : a.made ≤ n
  pub freed : a.freed ≤ 8 * n
