-- What is kept of a history agrees with what the history tells.
use Rattle.std.specs.Prelude.{◌≡◌, ℕ, ◌≤◌, Bool, true, false, [], ◌∷◌, List, length}
use Rattle.machine_defs.specs.declared.entry.Entry.{Entry}
use Rattle.machine_defs.specs.declared.entry.Entry.TheVariants as entry
use Rattle.machine_defs.specs.declared.values.Owner.{Owner}
use Rattle.machine_defs.specs.Steps.{Turn}
use Rattle.machine_defs.specs.History.{open_calls, objects_made}
use Rattle.machine_defs.specs.Report.{account}
use Rattle.heap_report.specs.KeptCalls.{AreCallsKept, calls_of}
use Rattle.heap_report.specs.KeptObjects as kept
use Rattle.heap_report.specs.KeptAccounts as accounts
use Rattle.heap_report.specs.declared.reading.Reading.{Reading}

-- there was an entry
abbrev pub has_begun : List Turn → Bool
has_begun [] = false
has_begun (u ∷ us) = true

-- A reading keeps what these turns tell of calls, of objects, and of the accounts of the owners
-- that it lists.
pub record Reads (r : Reading) (us : List Turn) : Type 0 where
  pub threads : (t : ℕ) → AreCallsKept (calls_of r.threads.items t) (open_calls us t)
  pub objects : (o : ℕ) → kept.told (kept.record_at r.objects.rows.items o) ≡ kept.told_at us o
  pub made : r.objects.made ≡ objects_made us
  pub counted : kept.IsCounted r.objects.rows.items r.objects.made
  pub accounts : (w : Owner) → accounts.lists r.accounts w → accounts.told (accounts.account_of r.accounts w) ≡ account us w
  pub begun : r.begun ≡ has_begun us

-- what is read goes on from any turns to these
abbrev pub ReadsOn : Reading → Reading → (List Turn → List Turn) → Type 0
ReadsOn old new next = (us : List Turn) → Reads old us → Reads new (next us)

-- an entry begins a turn
abbrev pub begins : Entry → List Turn → List Turn
begins e us = record { entry = e; frees = [] } ∷ us

-- the accounts of so many clients and instances are kept
abbrev pub ListsOwners : ℕ → ℕ → Reading → Type 0
ListsOwners clients instances r = (length r.accounts.clients.items ≡ clients) × (length r.accounts.instances.items ≡ instances)

-- an entry says nothing of open calls, of who has an object, or of where it hangs
abbrev pub is_quiet : Entry → Bool
is_quiet (entry.Reload t x i left) = true
is_quiet (entry.Trap t i cause) = true
is_quiet (entry.Kill t i) = true
is_quiet (entry.Set t o place values) = true
is_quiet (entry.Wput t i place v) = true
is_quiet (entry.Take t i slot o) = true
is_quiet (entry.Put t i slot o) = true
is_quiet (entry.DevGet t o block) = true
is_quiet (entry.DevPut t block o) = true
is_quiet (entry.Show t o values) = true
is_quiet (entry.Skip t k) = true
is_quiet (entry.Done t) = true
is_quiet _ = false

-- what is kept after so many entries has room for more
pub record AccountsHaveRoom (r : Reading) (n : ℕ) : Type 0 where
  pub made : r.objects.made ≤ n
  pub accounts : accounts.AtMost r.accounts (accounts.most n)

-- accounts of the same owners are kept
pub record SameOwners (old new : Reading) : Type 0 where
  pub clients : length new.accounts.clients.items ≡ length old.accounts.clients.items
  pub instances : length new.accounts.instances.items ≡ length old.accounts.instances.items
