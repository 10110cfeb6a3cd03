-- The objects that are left on the heap at the end of a run.
use Rattle.std.specs.Prelude.{◌≡◌, ℕ, ◌++◌, List, length, map}
use Rattle.rl_defs.specs.declared.load.LoadRows.{LoadRows}
use Rattle.machine_defs.specs.declared.entry.Entry.{Entry}
use Rattle.machine_defs.specs.State.{State, Object}
use Rattle.machine_defs.specs.Report.{report_text, summary_text}
use Rattle.machine_defs.specs.Loans.{loans}
use Rattle.heap_report.specs.declared.report.ObjectRow.{ObjectRow}

-- the row of an object of a state
abbrev pub row_of : State → Object → ObjectRow
row_of s x = record { number = x.number; ty = x.ty; loans = loans s x.number }

-- The rows are those of a state's objects, in their order, and so many instances were opened in it.
pub record AreLeft (rows : List ObjectRow) (instances : ℕ) (s : State) : Type 0 where
  pub objects : rows ≡ map (row_of s) s.objects
  pub opened : instances ≡ length s.instances

-- the report of each such state is put behind a text
abbrev pub PutsReport : LoadRows → List Entry → List ObjectRow → ℕ → List ℕ → List ℕ → Type 0
PutsReport L H left instances old new = (s : State) → AreLeft left instances s → new ≡ old ++ report_text L H s

-- a text is the summary of each state in which so many objects are left
abbrev pub IsSummary : List Entry → ℕ → List ℕ → Type 0
IsSummary H left text = (s : State) → length s.objects ≡ left → text ≡ summary_text H s
