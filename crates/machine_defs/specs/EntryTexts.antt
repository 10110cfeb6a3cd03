-- The law that no two entries of one load share a text, and which entries it speaks of.
use Rattle.std.specs.Prelude.{◌≡◌, ◌<◌, ◌^◌, ℕ, ⊤, IsTrue, List, All, Some, length, true}
use Rattle.rl_defs.specs.declared.load.LoadRows.{LoadRows}
use Rattle.rl_defs.specs.declared.tables.MethodRow.{MethodRow}
use Rattle.rl_defs.specs.declared.values.Value.{Value}
use Rattle.rl_defs.specs.declared.values.Value.TheVariants as value
use Rattle.machine_defs.specs.declared.values.Arg.{Arg}
use Rattle.machine_defs.specs.declared.values.Arg.TheVariants as arg
use Rattle.machine_defs.specs.declared.values.Owner.{Owner}
use Rattle.machine_defs.specs.declared.values.Owner.TheVariants as owner
use Rattle.machine_defs.specs.declared.entry.Entry.{Entry}
use Rattle.machine_defs.specs.declared.entry.Entry.TheVariants as entry
use Rattle.rl_defs.specs.Words.{is_word}
use Rattle.rl_defs.specs.Domains.{method_of}
use Rattle.rl_defs.specs.Rows.{is_target}
use Rattle.rl_defs.specs.Valid.{Valid}
use Rattle.machine_defs.specs.State.{State}
use Rattle.machine_defs.specs.Runs.{Run}
use Rattle.machine_defs.specs.Texts.{entry_text, history_text}

abbrev pub IsWord : List ℕ → Type 0
IsWord name = IsTrue (is_word name)

-- Loads, shadows, structs and methods are named by words, as each value of the type `Name` is one.
pub record HasWords (L : LoadRows) : Type 0 where
  pub loads : All (λ l. IsWord l.name) L.loads
  pub shadows : All (λ x. IsWord x.name) L.shadows
  pub structs : All (λ s. IsWord s.name) L.tables.structs
  pub methods : All (λ t. All (λ m. IsWord m.name) t.methods) L.tables.traits

-- a number of 64 bits
abbrev pub Fits64 : ℕ → Type 0
Fits64 n = n < 2 ^ 64

abbrev pub IsTarget : LoadRows → ℕ → Type 0
IsTarget L x = is_target L x ≡ true

-- the target's trait has a method of this number
abbrev pub IsMethod : LoadRows → ℕ → ℕ → Type 0
IsMethod L x m = (row : MethodRow) × (method_of L x m ≡ Some row)

-- ---- what an entry writes

abbrev pub OwnerFits64 : Owner → Type 0
OwnerFits64 (owner.Client t) = Fits64 t
OwnerFits64 (owner.Instance i) = Fits64 i

abbrev pub ArgFits64 : Arg → Type 0
ArgFits64 (arg.Num n) = Fits64 n
ArgFits64 (arg.Moved o) = Fits64 o
ArgFits64 (arg.Lent o) = Fits64 o
ArgFits64 (arg.Cap x) = ⊤

abbrev pub ValueFits64 : Value → Type 0
ValueFits64 (value.Num n) = Fits64 n
ValueFits64 (value.Obj o) = Fits64 o
ValueFits64 (value.Cap x) = ⊤

-- The numbers that an entry's text writes have at most 64 bits, and its slot is a word, as in each
-- value of the type `Entry`.
abbrev pub IsWritten : Entry → Type 0
IsWritten (entry.Call t c x i m args) = Fits64 t × Fits64 c × Fits64 i × All ArgFits64 args
IsWritten (entry.Refuse t c k x m args) = Fits64 t × Fits64 c × All ArgFits64 args
IsWritten (entry.Ret t c results) = Fits64 t × Fits64 c × All ValueFits64 results
IsWritten (entry.Unwound t c) = Fits64 t × Fits64 c
IsWritten (entry.Reload t x i left) = Fits64 t × Fits64 i × Fits64 left
IsWritten (entry.Again t c x i) = Fits64 t × Fits64 c × Fits64 i
IsWritten (entry.Trap t i k) = Fits64 t × Fits64 i
IsWritten (entry.Kill t i) = Fits64 t × Fits64 i
IsWritten (entry.New t w o ty values) = Fits64 t × OwnerFits64 w × Fits64 o × All Fits64 values
IsWritten (entry.Drop t o) = Fits64 t × Fits64 o
IsWritten (entry.Set t o place values) = Fits64 t × Fits64 o × Fits64 place × All Fits64 values
IsWritten (entry.Wput t i place v) = Fits64 t × Fits64 i × Fits64 place × Fits64 v
IsWritten (entry.Take t i slot o) = Fits64 t × Fits64 i × IsWord slot × Fits64 o
IsWritten (entry.Put t i slot o) = Fits64 t × Fits64 i × IsWord slot × Fits64 o
IsWritten (entry.DevGet t o block) = Fits64 t × Fits64 o × Fits64 block
IsWritten (entry.DevPut t block o) = Fits64 t × Fits64 block × Fits64 o
IsWritten (entry.Hang t o place v) = Fits64 t × Fits64 o × Fits64 place × Fits64 v
IsWritten (entry.Unhang t o place v) = Fits64 t × Fits64 o × Fits64 place × Fits64 v
IsWritten (entry.Show t o values) = Fits64 t × Fits64 o × All ValueFits64 values
IsWritten (entry.Skip t k) = Fits64 t × Fits64 k
IsWritten (entry.Done t) = Fits64 t
IsWritten (entry.Free o) = Fits64 o

-- ---- which rows it names

-- a target, and a method of its trait
abbrev pub NamesMethod : LoadRows → ℕ → ℕ → Type 0
NamesMethod L x m = IsTarget L x × IsMethod L x m

abbrev pub ArgNamesRows : LoadRows → Arg → Type 0
ArgNamesRows L (arg.Cap x) = IsTarget L x
ArgNamesRows L _ = ⊤

abbrev pub ValueNamesRows : LoadRows → Value → Type 0
ValueNamesRows L (value.Cap x) = IsTarget L x
ValueNamesRows L _ = ⊤

-- The targets, methods and structs of an entry are rows of the load.
abbrev pub NamesRows : LoadRows → Entry → Type 0
NamesRows L (entry.Call t c x i m args) = NamesMethod L x m × All (ArgNamesRows L) args
NamesRows L (entry.Refuse t c k x m args) = NamesMethod L x m × All (ArgNamesRows L) args
NamesRows L (entry.Ret t c results) = All (ValueNamesRows L) results
NamesRows L (entry.Reload t x i left) = IsTarget L x
NamesRows L (entry.Again t c x i) = IsTarget L x
NamesRows L (entry.New t w o ty values) = ty < length L.tables.structs
NamesRows L (entry.Show t o values) = All (ValueNamesRows L) values
NamesRows L _ = ⊤

-- ---- the laws

-- an entry that is written so and names rows of the load
pub record IsEntryOf (L : LoadRows) (e : Entry) : Type 0 where
  pub written : IsWritten e
  pub rows : NamesRows L e

-- No two entries of a load have one text.
abbrev pub TextsAreApart : Type 0
TextsAreApart = (L : LoadRows) (e f : Entry) → Valid L → HasWords L → IsEntryOf L e → IsEntryOf L f → entry_text L e ≡ entry_text L f → e ≡ f

-- No two histories of a load have one text.
abbrev pub HistoriesAreApart : Type 0
HistoriesAreApart = (L : LoadRows) (H G : List Entry) → Valid L → HasWords L → All (IsEntryOf L) H → All (IsEntryOf L) G → history_text L H ≡ history_text L G → H ≡ G

-- Each entry of each run names rows of its load.
abbrev pub RunsNameRows : Type 0
RunsNameRows = (L : LoadRows) (H : List Entry) (s : State) → Valid L → Run L H s → All (NamesRows L) H

-- Two runs of a load whose histories have one text have one history.
abbrev pub RunsAreTold : LoadRows → Type 0
RunsAreTold L = (H G : List Entry) (s z : State) → Run L H s → Run L G z → All IsWritten H → All IsWritten G → history_text L H ≡ history_text L G → H ≡ G
