-- How the rows of a heap change.
use Rattle.std.specs.Prelude.{ℕ, ◌+◌, ◌-◌, ◌==◌, ◌||◌, [], ◌∷◌, ◌++◌, length, map, replicate, Option, Some, None, Bool, true, false, if◌then◌else◌}
use Rattle.machine_defs.specs.declared.values.Owner.{Owner}
use Rattle.machine_defs.specs.State.{Object, Placement, Root, Hung}
use Rattle.rref_heap.specs.HeapValue.{HeapRow, HeapRows, HeapValue, Room}

-- the row of the object with this number changes
abbrev pub on_row : ℕ → (HeapRow → HeapRow) → Option HeapRow → Option HeapRow
on_row o change None = None
on_row o change (Some r) = Some (if r.object.number == o then change r else r)

-- the object with this number changes
abbrev pub with_object : (Object → Object) → HeapRow → HeapRow
with_object change r = record r { object = change r.object }

abbrev pub on_object : ℕ → (Object → Object) → Option HeapRow → Option HeapRow
on_object o change = on_row o (with_object change)

-- one loan more, one less
abbrev pub one_loan_more : HeapRow → HeapRow
one_loan_more r = record r { loans = r.loans + 1 }

abbrev pub one_loan_less : HeapRow → HeapRow
one_loan_less r = record r { loans = r.loans - 1 }

-- the object with this number is gone
abbrev pub unless : ℕ → Option HeapRow → Option HeapRow
unless o None = None
unless o (Some r) = if r.object.number == o then None else Some r

-- an object is this one, or hangs in it
abbrev pub hangs_below : ℕ → Placement → Bool
hangs_below o (Root w) = false
hangs_below o (Hung parent place) = parent == o

abbrev pub is_below : ℕ → Object → Bool
is_below o x = (x.number == o) || hangs_below o x.placement

-- this object and those that hang in it are listed for the sweep
abbrev pub leaving : ℕ → HeapRow → HeapRow
leaving o r = record r { leaves = is_below o r.object || r.leaves }

abbrev pub with_leaving : ℕ → Option HeapRow → Option HeapRow
with_leaving o None = None
with_leaving o (Some r) = Some (leaving o r)

abbrev pub leaving_if : Bool → ℕ → HeapRows → HeapRows
leaving_if true o rows = map (with_leaving o) rows
leaving_if false o rows = rows

-- a new object: a root, its numbers 0 and its cells for an `RRef` empty
abbrev pub new_row : ℕ → ℕ → Owner → Room → HeapRow
new_row o ty w room = record {
  object = record { number = o; ty = ty; placement = Root w; cells = replicate room.cells 0 };
  loans = 0;
  nests = room.nests;
  leaves = false;
}

abbrev pub with_new_in : HeapValue → ℕ → Owner → Option Room → HeapValue
with_new_in v ty w None = v
with_new_in v ty w (Some room) = record v { rows = v.rows ++ Some (new_row (length v.rows + 1) ty w room) ∷ []; ready = None }

abbrev pub with_new_object : HeapValue → ℕ → Owner → HeapValue
with_new_object v ty w = with_new_in v ty w v.ready
