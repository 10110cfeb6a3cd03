-- What is told of objects, as it is kept by their numbers.
use Rattle.std.specs.Prelude.{◌≡◌, ℕ, ◌==◌, ◌&&◌, ◌||◌, not, nat_le, Bool, true, false, ◌∷◌, List, length, filter, Option, None, unwrap_or, if◌then◌else◌}
use Rattle.std.specs.List.{slice_index_or, flat_map, range_with_len}
use Rattle.std.specs.Option.{option_map_or}
use Rattle.machine_defs.specs.declared.entry.Entry.{Entry}
use Rattle.machine_defs.specs.declared.values.Owner.{Owner}
use Rattle.machine_defs.specs.declared.values.Owner.TheVariants as owner
use Rattle.machine_defs.specs.Arguments.{has}
use Rattle.machine_defs.specs.Steps.{Turn}
use Rattle.machine_defs.specs.History.{receiver_after, receiver_at, parent_after, parent_at, dropped, gone_at}
use Rattle.machine_defs.specs.Report.{one_if}
use Rattle.heap_report.specs.declared.objects.ObjectRecord.{ObjectRecord}
use Rattle.heap_report.specs.declared.objects.ObjectRecords.{ObjectRecords}

-- what is told of an object: who received it last, what it was last hung in, and whether it is gone
pub record ToldObject : Type 0 where
  pub receiver : Owner
  pub parent : Option ℕ
  pub gone : Bool

-- what a history tells of an object
abbrev pub told_at : List Turn → ℕ → ToldObject
told_at us o = record { receiver = receiver_at us o; parent = parent_at us o; gone = gone_at us o }

-- what it tells after an entry, where `at` acts at it and `after` just after it
abbrev pub told_after : ℕ → Entry → Owner → Owner → ToldObject → ToldObject
told_after o e at after x = record { receiver = receiver_after o e at after x.receiver; parent = parent_after o e x.parent; gone = has (dropped e) o || x.gone }

-- what a record tells
abbrev pub told : ObjectRecord → ToldObject
told r = record { receiver = r.receiver; parent = r.parent; gone = r.gone }

-- the record of an object that no entry names yet
abbrev pub unknown : ObjectRecord
unknown = record { receiver = owner.Client 0; parent = None; gone = false; below = 0 }

-- the record of an object
abbrev pub record_at : List ObjectRecord → ℕ → ObjectRecord
record_at rows o = slice_index_or rows o unknown

-- the owner of an object: the last receiver of its root
abbrev pub owner_in : List ObjectRecord → ℕ → Owner
owner_in rows o = (record_at rows (unwrap_or (record_at rows o).parent o)).receiver

-- an object is what another hangs in
abbrev pub is_parent : ℕ → Option ℕ → Bool
is_parent o parent = option_map_or (λ p. p == o) parent false

-- the object that one hangs in, as long as it isn't gone
abbrev pub holder : Option ℕ → Bool → Option ℕ
holder parent gone = if gone then None else parent

-- an object hangs in another, and isn't gone
abbrev pub hangs_in : List ObjectRecord → ℕ → ℕ → Bool
hangs_in rows o v = not (record_at rows v).gone && is_parent o (record_at rows v).parent

-- the objects that hang in one, of so many that were made
abbrev pub hung_in : List ObjectRecord → ℕ → ℕ → List ℕ
hung_in rows made o = filter (hangs_in rows o) (range_with_len 1 made)

-- these objects, and those that hang in them
abbrev pub with_hung : List ObjectRecord → ℕ → List ℕ → List ℕ
with_hung rows made os = flat_map (λ o. o ∷ hung_in rows made o) os

-- each record has the number of those that hang in its object
abbrev pub IsCounted : List ObjectRecord → ℕ → Type 0
IsCounted rows made = (o : ℕ) → (record_at rows o).below ≡ length (hung_in rows made o)

-- an object was made
abbrev pub is_made : ℕ → ℕ → Bool
is_made made v = nat_le 1 v && nat_le v made

-- one where an object that was made hangs in another
abbrev pub counts : ℕ → ℕ → ℕ → Option ℕ → ℕ
counts made v o parent = one_if (is_made made v && is_parent o parent)

-- what a table tells of each object is changed so
abbrev pub ChangesTold : ObjectRecords → ObjectRecords → (ℕ → ToldObject → ToldObject) → Type 0
ChangesTold old new change = (o : ℕ) → told (record_at new.rows.items o) ≡ change o (told (record_at old.rows.items o))

-- nothing is told anew
abbrev pub unchanged : ℕ → ToldObject → ToldObject
unchanged o x = x

-- an object has another receiver
abbrev pub received : ℕ → Owner → ℕ → ToldObject → ToldObject
received object w o x = if object == o then record x { receiver = w } else x

-- an object hangs in another, or in none
abbrev pub hung : ℕ → Option ℕ → ℕ → ToldObject → ToldObject
hung object parent o x = if object == o then record x { parent = parent } else x

-- an object is gone
abbrev pub removed : ℕ → ℕ → ToldObject → ToldObject
removed object o x = if object == o then record x { gone = true } else x

-- both of these
abbrev pub placed : ℕ → Option ℕ → Bool → ℕ → ToldObject → ToldObject
placed object parent gone o x = if object == o then record x { parent = parent; gone = gone } else x

-- all these objects have another receiver
abbrev pub all_received : List ℕ → Owner → ℕ → ToldObject → ToldObject
all_received objects w o x = if has objects o then record x { receiver = w } else x

-- all these objects are gone
abbrev pub all_removed : List ℕ → ℕ → ToldObject → ToldObject
all_removed objects o x = if has objects o then record x { gone = true } else x

-- what an entry tells
abbrev pub after_entry : Entry → Owner → Owner → ℕ → ToldObject → ToldObject
after_entry e at after o x = told_after o e at after x

-- a table's counts are those of what hangs in each object
abbrev pub AreCounted : ObjectRecords → Type 0
AreCounted r = IsCounted r.rows.items r.made

-- how many objects a table counts in one
abbrev pub below : ObjectRecords → ℕ → ℕ
below r o = (record_at r.rows.items o).below
