-- What a search for an RRef knows.
use Rattle.std.specs.Prelude.{◌≡◌, ℕ, ◌+◌, ◌*◌, ◌<◌, ◌≤◌, ◌⊎◌, Bool, true, false, List, [], ◌∷◌, ◌++◌, Some, slice_get, length}
use Rattle.rl_defs.specs.Interfaces.{Lines, struct_names}
use Rattle.rl_defs.specs.Holding.{HasField, Reaches, HasRRef, HoldsRRef}

-- no field of the struct is an RRef, and the structs that they hold were seen
pub record IsClean (lines : Lines) (seen : List Bool) (s : ℕ) : Type 0 where
  pub none : HasRRef lines s → ⊥
  pub closed : (t : ℕ) → HasField lines s t → slice_get seen t ≡ Some true

-- a number stands in a list
abbrev pub StandsIn : List ℕ → ℕ → Type 0
StandsIn xs s = (i : ℕ) × (slice_get xs i ≡ Some s)

-- a struct that was seen is clean, or is still to be looked at
pub record Searching (lines : Lines) (seen : List Bool) (waiting : List ℕ) : Type 0 where
  pub count : length seen ≡ length (struct_names lines)
  pub clean : (s : ℕ) → slice_get seen s ≡ Some true → StandsIn waiting s ⊎ IsClean lines seen s
  pub below : (s : ℕ) → StandsIn waiting s → s < length seen

-- what is to be looked at is the first struct, or the first leads to it
abbrev pub AllLead : Lines → List ℕ → ℕ → Type 0
AllLead lines waiting first = (s : ℕ) → StandsIn waiting s → (s ≡ first) ⊎ Reaches lines first s

abbrev pub unmarked : Bool → ℕ
unmarked true = 0
unmarked false = 1

-- how many structs weren't seen
abbrev pub unmarked_count : List Bool → ℕ
unmarked_count [] = 0
unmarked_count (x ∷ xs) = unmarked x + unmarked_count xs

-- A struct was marked: it is to be looked at, unless it was seen before.
pub record Marks (old new : List Bool) (waiting after : List ℕ) (held : ℕ) : Type 0 where
  pub here : slice_get new held ≡ Some true
  pub stays : (s : ℕ) → slice_get old s ≡ Some true → slice_get new s ≡ Some true
  pub only : (s : ℕ) → slice_get new s ≡ Some true → (slice_get old s ≡ Some true) ⊎ StandsIn after s
  pub kept : (s : ℕ) → StandsIn waiting s → StandsIn after s
  pub more : (s : ℕ) → StandsIn after s → StandsIn waiting s ⊎ (s ≡ held)
  pub count : length new ≡ length old
  pub falls : 2 * unmarked_count new + length after ≤ 2 * unmarked_count old + length waiting

-- the fields of a struct were looked at, and none is an RRef
pub record Scanned (lines : Lines) (old new : List Bool) (waiting after : List ℕ) (number : ℕ) : Type 0 where
  pub searching : Searching lines new after
  pub leads : (first : ℕ) → AllLead lines (waiting ++ number ∷ []) first → AllLead lines after first
  pub stays : (s : ℕ) → slice_get old s ≡ Some true → slice_get new s ≡ Some true
  pub falls : 2 * unmarked_count new + length after ≤ 2 * unmarked_count old + length waiting

abbrev pub IsScan : Lines → List Bool → List Bool → List ℕ → List ℕ → ℕ → Bool → Type 0
IsScan lines old new waiting after number true = HasRRef lines number
IsScan lines old new waiting after number false = Scanned lines old new waiting after number

-- whether the struct holds an RRef; where it holds none, all that was seen is clean
abbrev pub IsSearch : Lines → List Bool → ℕ → Bool → Type 0
IsSearch lines seen first true = HoldsRRef lines first
IsSearch lines seen first false = Searching lines seen [] × (HoldsRRef lines first → ⊥)
