-- The objects that leave a heap: those that are listed for the sweep, and those that an owner
-- leaves behind.
use Rattle.std.specs.Prelude.{ℕ, ◌==◌, ◌&&◌, ◌||◌, List, map, Option, Some, None, Bool, false, if◌then◌else◌}
use Rattle.std.specs.List.{filter_map}
use Rattle.machine_defs.specs.declared.values.Owner.{Owner}
use Rattle.machine_defs.specs.State.{Placement, Root, Hung}
use Rattle.machine_defs.specs.Report.{same_owner}
use Rattle.rref_heap.specs.HeapValue.{HeapRow, HeapRows, row_of}

-- what a sweep leaves of a row, and the number that it frees
abbrev pub swept_row : Option HeapRow → Option HeapRow
swept_row None = None
swept_row (Some r) = if r.leaves then None else Some r

abbrev pub leaving_number : Option HeapRow → Option ℕ
leaving_number None = None
leaving_number (Some r) = if r.leaves then Some r.object.number else None

-- the rows behind a sweep, and the numbers that are listed for it, rising
abbrev pub swept_rows : HeapRows → HeapRows
swept_rows rows = map swept_row rows

abbrev pub leaving_in : HeapRows → List ℕ
leaving_in rows = filter_map leaving_number rows

-- An owner's root that isn't lent goes with it. What hangs goes with its root.
abbrev pub is_left_root : Owner → ℕ → Placement → Bool
is_left_root w loans (Root x) = same_owner x w && (loans == 0)
is_left_root w loans (Hung parent place) = false

abbrev pub is_left_row : Owner → Option HeapRow → Bool
is_left_row w None = false
is_left_row w (Some r) = is_left_root w r.loans r.object.placement

abbrev pub is_left_at : HeapRows → Owner → ℕ → Placement → Bool
is_left_at rows w loans (Root x) = is_left_root w loans (Root x)
is_left_at rows w loans (Hung parent place) = is_left_row w (row_of rows parent)

abbrev pub is_left : HeapRows → Owner → HeapRow → Bool
is_left rows w r = is_left_at rows w r.loans r.object.placement

-- what the end of an owner leaves of a row, and the number that it frees
abbrev pub row_without : HeapRows → Owner → Option HeapRow → Option HeapRow
row_without rows w None = None
row_without rows w (Some r) = if is_left rows w r then None else Some r

abbrev pub left_number : HeapRows → Owner → Option HeapRow → Option ℕ
left_number rows w None = None
left_number rows w (Some r) = if is_left rows w r then Some r.object.number else None

-- the rows behind the end of an owner, and the numbers that it frees, rising
abbrev pub rows_without : HeapRows → Owner → HeapRows
rows_without rows w = map (row_without rows w) rows

abbrev pub left_by : HeapRows → Owner → List ℕ
left_by rows w = filter_map (left_number rows w) rows

-- the rows where what an owner leaves behind is listed for the sweep
abbrev pub listed_row : HeapRows → Owner → Option HeapRow → Option HeapRow
listed_row rows w None = None
listed_row rows w (Some r) = Some (record r { leaves = is_left rows w r || r.leaves })

abbrev pub listed_rows : HeapRows → Owner → HeapRows
listed_rows rows w = map (listed_row rows w) rows

-- the roots of an owner
abbrev pub is_root_of : Owner → Placement → Bool
is_root_of w (Root x) = same_owner x w
is_root_of w (Hung parent place) = false

abbrev pub root_number : Owner → Option HeapRow → Option ℕ
root_number w None = None
root_number w (Some r) = if is_root_of w r.object.placement then Some r.object.number else None

abbrev pub roots_of : HeapRows → Owner → List ℕ
roots_of rows w = filter_map (root_number w) rows
