-- What an entry adds to the account of an owner, by what is kept of the objects before it.
use Rattle.std.specs.Prelude.{ℕ, ◌+◌, ◌*◌, false, List, length, filter, if◌then◌else◌}
use Rattle.std.specs.Option.{option_map_or}
use Rattle.machine_defs.specs.declared.entry.Entry.{Entry}
use Rattle.machine_defs.specs.declared.values.Owner.{Owner}
use Rattle.machine_defs.specs.History.{dropped}
use Rattle.machine_defs.specs.Report.{one_if, same_owner, maker_at, passing_at}
use Rattle.heap_report.specs.KeptAccounts.{Account, nothing}
use Rattle.heap_report.specs.KeptObjects.{owner_in, with_hung}
use Rattle.heap_report.specs.declared.objects.ObjectRecord.{ObjectRecord}
use Rattle.heap_report.specs.declared.objects.ObjectRecords.{ObjectRecords}

-- what an owner makes at an entry
abbrev pub made_by : Entry → Owner → Account
made_by e w = record nothing { made = one_if (option_map_or (same_owner w) (maker_at e) false) }

-- how many objects pass at an entry, with those that hang in them
abbrev pub passing : List ObjectRecord → ℕ → Entry → ℕ
passing rows made e = length (with_hung rows made (passing_at e))

-- so many objects pass from one owner to another
abbrev pub passed_on : Owner → Owner → ℕ → Owner → Account
passed_on from to n w = record nothing { received = if same_owner to w then n else 0; passed = if same_owner from w then n else 0 }

-- how many of these objects an owner gives up
abbrev pub freed_of : List ObjectRecord → List ℕ → Owner → Account
freed_of rows os w = record nothing { freed = length (filter (λ o. same_owner (owner_in rows o) w) os) }

-- what an entry adds, by the records of so many objects that were made before it
abbrev pub added_by : List ObjectRecord → ℕ → Entry → Owner → Owner → Owner → Account
added_by rows made e from to w = record {
  made = (made_by e w).made;
  received = (passed_on from to (passing rows made e) w).received;
  passed = (passed_on from to (passing rows made e) w).passed;
  freed = (freed_of rows (dropped e) w).freed;
}

-- the same, by the whole table
abbrev pub added : ObjectRecords → Entry → Owner → Owner → Owner → Account
added r e from to w = added_by r.rows.items r.made e from to w

-- one object that is freed
abbrev pub one_freed : Account
one_freed = record nothing { freed = 1 }

-- what an entry adds at most, where so many objects were made before it
abbrev pub most_added : ℕ → Account
most_added made = record { made = 1; received = 8 * (made + 1); passed = 8 * (made + 1); freed = 8 }
