-- Accounts, as they are kept.
use Rattle.std.specs.Prelude.{◌≡◌, ℕ, zero, suc, ◌+◌, ◌<◌, ◌≤◌, ◌^◌, ◌==◌, replicate, Bool, if◌then◌else◌, ◌*◌, List, length}
use Rattle.std.specs.List.{slice_index_or}
use Rattle.machine_defs.specs.declared.values.Owner.{Owner}
use Rattle.machine_defs.specs.declared.values.Owner.TheVariants as owner
use Rattle.machine_defs.specs.Report as report
pub use Rattle.heap_report.specs.declared.accounts.Account.{Account}
use Rattle.heap_report.specs.declared.accounts.Accounts.{Accounts}

-- an account with nothing in it
abbrev pub nothing : Account
nothing = record { made = 0; received = 0; passed = 0; freed = 0 }

-- what an account tells
abbrev pub told : Account → report.Account
told a = record { made = a.made; received = a.received; passed = a.passed; freed = a.freed }

-- two accounts together
abbrev pub plus : Account → Account → Account
plus a b = record { made = a.made + b.made; received = a.received + b.received; passed = a.passed + b.passed; freed = a.freed + b.freed }

-- each sum can be kept
pub record SumsFit (a b : Account) : Type 0 where
  pub made : a.made + b.made < 2 ^ 64
  pub received : a.received + b.received < 2 ^ 64
  pub passed : a.passed + b.passed < 2 ^ 64
  pub freed : a.freed + b.freed < 2 ^ 64

-- accounts of so many clients and instances, with nothing in them
abbrev pub HasNothing : ℕ → ℕ → Accounts → Type 0
HasNothing clients instances a = (a.clients.items ≡ replicate clients nothing) × (a.instances.items ≡ replicate instances nothing)

-- the account with a number, from 1
abbrev pub account_at : List Account → ℕ → Account
account_at rows zero = nothing
account_at rows (suc k) = slice_index_or rows k nothing

-- the account of an owner
abbrev pub account_of : Accounts → Owner → Account
account_of a (owner.Client t) = account_at a.clients.items t
account_of a (owner.Instance i) = account_at a.instances.items i

-- an account is kept for the number
abbrev pub has_number : List Account → ℕ → Type 0
has_number rows n = (1 ≤ n) × (n ≤ length rows)

-- an account is kept for the owner
abbrev pub lists : Accounts → Owner → Type 0
lists a (owner.Client t) = has_number a.clients.items t
lists a (owner.Instance i) = has_number a.instances.items i

-- an account has no more than another
pub record IsAtMost (a b : Account) : Type 0 where
  pub made : a.made ≤ b.made
  pub received : a.received ≤ b.received
  pub passed : a.passed ≤ b.passed
  pub freed : a.freed ≤ b.freed

-- no account of these has more than this
abbrev pub AtMost : Accounts → Account → Type 0
AtMost a b = (w : Owner) → IsAtMost (account_of a w) b

-- after so many entries no account has more than this
abbrev pub most : ℕ → Account
most n = record { made = n * 2 ^ 33; received = n * 2 ^ 33; passed = n * 2 ^ 33; freed = n * 2 ^ 33 }

-- what an owner has of an amount
abbrev pub share : Bool → Account → Account
share b a = if b then a else nothing

-- each account with a number has its share of an amount more
abbrev pub AddsTo : List Account → List Account → ℕ → Account → Type 0
AddsTo old new number more = (n : ℕ) → has_number old n → account_at new n ≡ plus (account_at old n) (share (number == n) more)

-- Each listed owner's account has this more than before, and the same owners are listed.
pub record AccountsGrow (old new : Accounts) (more : Owner → Account) : Type 0 where
  pub accounts : (w : Owner) → lists old w → account_of new w ≡ plus (account_of old w) (more w)
  pub clients : length new.clients.items ≡ length old.clients.items
  pub instances : length new.instances.items ≡ length old.instances.items
