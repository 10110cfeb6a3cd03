-- Each object has one owner until it is given up, which happens once.
use Rattle.std.specs.Prelude.{◌≡◌, ℕ, ◌<◌, ◌≤◌, ◌⊎◌, [], ◌∷◌, ◌++◌, false, List, None, true, suc, Some}
use Rattle.machine_defs.specs.declared.entry.Entry.TheVariants as entry
use Rattle.rl_defs.specs.declared.load.LoadRows.{LoadRows}
use Rattle.machine_defs.specs.declared.entry.Entry.{Entry}
use Rattle.machine_defs.specs.Steps.{Turn}
use Rattle.machine_defs.specs.History.{objects_made, gone_at, actor_at, parent_at, owner_at, loans_at, OpenCall, open_calls, cell_at, dropped}
use Rattle.machine_defs.specs.Arguments.{has, lent_of, moved_of, objects_in}
use Rattle.machine_defs.specs.Loans.{count}

-- the object was made, and isn't gone
pub record IsThere (us : List Turn) (o : ℕ) : Type 0 where
  pub some : 0 < o
  pub made : o ≤ objects_made us
  pub stays : gone_at us o ≡ false

-- who acts for the thread owns the object, which hangs in no other and is lent to nobody
pub record Owns (L : LoadRows) (us : List Turn) (t o : ℕ) : Type 0 where
  pub mine : actor_at us t ≡ owner_at us o
  pub unlent : loans_at L us o ≡ 0
  pub loose : parent_at us o ≡ None

-- the object was lent to the thread's newest open call
abbrev pub IsLentTo : List Turn → ℕ → ℕ → Type 0
IsLentTo us t o = (call : OpenCall) × (others : List OpenCall) × (open_calls us t ≡ call ∷ others) × (has (lent_of call.args) o ≡ true)

-- who acts for the thread owns the object, or it was lent to it; and it hangs in no other
pub record MayLend (us : List Turn) (t o : ℕ) : Type 0 where
  pub loose : parent_at us o ≡ None
  pub mine : (actor_at us t ≡ owner_at us o) ⊎ IsLentTo us t o

abbrev pub Each : (ℕ → Type 0) → List ℕ → Type 0
Each Holds os = (o : ℕ) → has os o ≡ true → Holds o

-- what each entry asks of the objects that it takes, moves, lends, changes or reads
abbrev pub OwnedEntry : LoadRows → List Turn → Entry → Type 0
OwnedEntry L us (entry.Call t c x i m args) = Each (Owns L us t) (moved_of args) × Each (MayLend us t) (lent_of args)
OwnedEntry L us (entry.Refuse t c why x m args) = Each (Owns L us t) (moved_of args)
OwnedEntry L us (entry.Ret t c results) = Each (Owns L us t) (objects_in results)
OwnedEntry L us (entry.New t w o ty values) = (o ≡ suc (objects_made us)) × (w ≡ actor_at us t)
OwnedEntry L us (entry.Drop t o) = Owns L us t o
OwnedEntry L us (entry.Set t o at values) = Owns L us t o
OwnedEntry L us (entry.Take t i slot o) = Owns L us t o
OwnedEntry L us (entry.Put t i slot o) = Owns L us t o
OwnedEntry L us (entry.DevGet t o b) = Owns L us t o
OwnedEntry L us (entry.DevPut t b o) = MayLend us t o
OwnedEntry L us (entry.Hang t o place v) = Owns L us t o × Owns L us t v × (cell_at us o place ≡ None)
OwnedEntry L us (entry.Unhang t o place v) = Owns L us t o × (cell_at us o place ≡ Some v)
OwnedEntry L us (entry.Show t o values) = Owns L us t o
OwnedEntry L us _ = Unit {0}

-- the objects that an entry names, but for the one that it makes
abbrev pub named : Entry → List ℕ
named (entry.Call t c x i m args) = moved_of args ++ lent_of args
named (entry.Refuse t c why x m args) = moved_of args ++ lent_of args
named (entry.Ret t c results) = objects_in results
named (entry.Drop t o) = o ∷ []
named (entry.Set t o at values) = o ∷ []
named (entry.Take t i slot o) = o ∷ []
named (entry.Put t i slot o) = o ∷ []
named (entry.DevGet t o b) = o ∷ []
named (entry.DevPut t b o) = o ∷ []
named (entry.Hang t o place v) = o ∷ v ∷ []
named (entry.Unhang t o place v) = o ∷ v ∷ []
named (entry.Show t o values) = o ∷ objects_in values
named _ = []

-- Whoever takes an object owns it; an entry names only objects that were made and aren't gone; and
-- what is freed was still there, and is freed once.
pub record OwnedOnce (L : LoadRows) (us : List Turn) (u : Turn) : Type 0 where
  pub rights : OwnedEntry L us u.entry
  pub names : Each (IsThere us) (named u.entry)
  pub drops_once : (o : ℕ) → count o (dropped u.entry) ≤ 1
  pub frees : Each (IsThere (record u { frees = [] } ∷ us)) u.frees
  pub frees_once : (o : ℕ) → count o u.frees ≤ 1
