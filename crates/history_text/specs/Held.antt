-- Which entries a line may be: those that the type `Entry` holds and that name rows of the load.
use Rattle.std.specs.Prelude.{ℕ, ◌<◌, ◌≤◌, ◌^◌, IsTrue, List, All, length}
use Rattle.rl_defs.specs.declared.load.LoadRows.{LoadRows}
use Rattle.machine_defs.specs.declared.values.Owner.{Owner}
use Rattle.machine_defs.specs.declared.values.Owner.TheVariants as owner
use Rattle.rl_defs.specs.declared.values.Value.{Value}
use Rattle.rl_defs.specs.declared.values.Value.TheVariants as value
use Rattle.machine_defs.specs.declared.values.Arg.{Arg}
use Rattle.machine_defs.specs.declared.values.Arg.TheVariants as arg
use Rattle.machine_defs.specs.declared.entry.Entry.{Entry}
use Rattle.machine_defs.specs.declared.entry.Entry.TheVariants as entry
use Rattle.rl_defs.specs.Words.{is_name}
use Rattle.machine_defs.specs.EntryTexts.{Fits64, NamesRows}

-- a number of 32 bits
abbrev pub Fits32 : ℕ → Type 0
Fits32 n = n < 2 ^ 32

abbrev pub OwnerIsHeld : Owner → Type 0
OwnerIsHeld (owner.Client t) = Fits32 t
OwnerIsHeld (owner.Instance i) = Fits32 i

abbrev pub ArgIsHeld : Arg → Type 0
ArgIsHeld (arg.Num n) = Fits64 n
ArgIsHeld (arg.Moved o) = Fits64 o
ArgIsHeld (arg.Lent o) = Fits64 o
ArgIsHeld (arg.Cap x) = Fits32 x

abbrev pub ValueIsHeld : Value → Type 0
ValueIsHeld (value.Num n) = Fits64 n
ValueIsHeld (value.Obj o) = Fits64 o
ValueIsHeld (value.Cap x) = Fits32 x

-- Each number is as wide as its field, a slot is a name, and there are at most 8 arguments and 4
-- results.
abbrev pub IsHeld : Entry → Type 0
IsHeld (entry.Call t c x i m args) = Fits32 t × Fits32 c × Fits32 x × Fits32 i × Fits32 m × (length args ≤ 8) × All ArgIsHeld args
IsHeld (entry.Refuse t c k x m args) = Fits32 t × Fits32 c × Fits32 x × Fits32 m × (length args ≤ 8) × All ArgIsHeld args
IsHeld (entry.Ret t c results) = Fits32 t × Fits32 c × (length results ≤ 4) × All ValueIsHeld results
IsHeld (entry.Unwound t c) = Fits32 t × Fits32 c
IsHeld (entry.Reload t x i left) = Fits32 t × Fits32 x × Fits32 i × Fits32 left
IsHeld (entry.Again t c x i) = Fits32 t × Fits32 c × Fits32 x × Fits32 i
IsHeld (entry.Trap t i k) = Fits32 t × Fits32 i
IsHeld (entry.Kill t i) = Fits32 t × Fits32 i
IsHeld (entry.New t w o ty values) = Fits32 t × OwnerIsHeld w × Fits64 o × Fits32 ty × All Fits64 values
IsHeld (entry.Drop t o) = Fits32 t × Fits64 o
IsHeld (entry.Set t o place values) = Fits32 t × Fits64 o × Fits32 place × All Fits64 values
IsHeld (entry.Wput t i place v) = Fits32 t × Fits32 i × Fits32 place × Fits64 v
IsHeld (entry.Take t i slot o) = Fits32 t × Fits32 i × IsTrue (is_name slot) × Fits64 o
IsHeld (entry.Put t i slot o) = Fits32 t × Fits32 i × IsTrue (is_name slot) × Fits64 o
IsHeld (entry.DevGet t o block) = Fits32 t × Fits64 o × Fits64 block
IsHeld (entry.DevPut t block o) = Fits32 t × Fits64 block × Fits64 o
IsHeld (entry.Hang t o place v) = Fits32 t × Fits64 o × Fits32 place × Fits64 v
IsHeld (entry.Unhang t o place v) = Fits32 t × Fits64 o × Fits32 place × Fits64 v
IsHeld (entry.Show t o values) = Fits32 t × Fits64 o × All ValueIsHeld values
IsHeld (entry.Skip t k) = Fits32 t × Fits32 k
IsHeld (entry.Done t) = Fits32 t
IsHeld (entry.Free o) = Fits64 o

-- an entry of a load, as the type `Entry` holds it
pub record IsLoggable (L : LoadRows) (e : Entry) : Type 0 where
  pub held : IsHeld e
  pub rows : NamesRows L e
