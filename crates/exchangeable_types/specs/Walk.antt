-- What a walk through the structs of a part knows.
use Rattle.std.specs.Prelude.{◌≡◌, ℕ, Bool, true, false, ◌+◌, ◌*◌, ◌<◌, List, [], ◌∷◌, ◌++◌, Some, slice_get, slice_set, length, drop}
use Rattle.rl_defs.specs.declared.idl.TypeText.{TypeText}
use Rattle.rl_defs.specs.declared.idl.IdlLine.TheVariants as form
use Rattle.rl_defs.specs.Interfaces.{Lines, structs_of, fields_of, types_of, types_at, struct_names}
use Rattle.rl_defs.specs.Holding.{HasField, Reaches, IsEndless}
use Rattle.exchangeable_types.specs.declared.cells.Cells.{Cells}
use Rattle.exchangeable_types.specs.declared.walk.State.{State}
use Rattle.exchangeable_types.specs.declared.walk.State.TheVariants.{New, Open, Endless, Ended}
use Rattle.exchangeable_types.specs.declared.walk.Visit.{Visit}
use Rattle.exchangeable_types.specs.Capped.{CellsOf}

-- a struct that has ended has the cells that its fields flatten to
abbrev pub KnowsCells : Lines → List State → Type 0
KnowsCells lines states = (s : ℕ) (cells : Cells) → slice_get states s ≡ Some (Ended cells) → CellsOf lines 512 (types_at lines s) cells

-- A visit has the cells of the fields that it has passed, and goes on at a line.
pub record IsVisit (lines : Lines) (visit : Visit) : Type 0 where
  pub passed : List TypeText
  pub split : types_at lines visit.number ≡ passed ++ types_of (fields_of (drop visit.at lines))
  pub cells : CellsOf lines 512 passed visit.cells

-- The open structs are those on the stack, each at its place; those above hold what leads on from those below.
pub record Walking (lines : Lines) (states : List State) (stack : List Visit) : Type 0 where
  pub count : length states ≡ length (struct_names lines)
  pub knows : KnowsCells lines states
  pub endless : (s : ℕ) → slice_get states s ≡ Some Endless → IsEndless lines s
  pub opened : (s i : ℕ) → slice_get states s ≡ Some (Open i) → (v : Visit) × (slice_get stack i ≡ Some v) × (v.number ≡ s)
  pub visits : (i : ℕ) (v : Visit) → slice_get stack i ≡ Some v → IsVisit lines v × (slice_get states v.number ≡ Some (Open i))
  pub trail : (i j : ℕ) (v w : Visit) → i < j → slice_get stack i ≡ Some v → slice_get stack j ≡ Some w → Reaches lines v.number w.number

-- no struct that was visited is new again
abbrev pub StaysVisited : List State → List State → Type 0
StaysVisited old new = (s : ℕ) → slice_get new s ≡ Some New → slice_get old s ≡ Some New

-- the struct holds t by value, and t hasn't ended
pub record WaitsFor (lines : Lines) (states : List State) (number t : ℕ) : Type 0 where
  pub field : HasField lines number t
  pub there : t < length states
  pub unended : (cells : Cells) → slice_get states t ≡ Some (Ended cells) → ⊥

-- one visit more, of a struct that was new
pub record Entered (lines : Lines) (old new : List State) (stack higher : List Visit) (number : ℕ) : Type 0 where
  pub walking : Walking lines new higher
  pub states : new ≡ slice_set old number (Open (length stack))
  pub more : length higher ≡ length stack + 1

-- the struct of this number begins at the line at this place
pub record StartsAt (lines : Lines) (number place : ℕ) : Type 0 where
  pub line : ℕ
  pub name : List ℕ
  pub here : slice_get lines place ≡ Some (record { line = line; form = form.Struct name })
  pub text : slice_get (structs_of lines) number ≡ Some (record { line = line; name = name; fields = fields_of (drop (place + 1) lines) })

abbrev pub is_new : State → Bool
is_new New = true
is_new _ = false

-- how many structs are new
abbrev pub unseen : State → ℕ
unseen New = 1
unseen _ = 0

abbrev pub fresh : List State → ℕ
fresh [] = 0
fresh (x ∷ xs) = unseen x + fresh xs

-- one step of a walk, after the top was taken off the stack
pub record Stepped (lines : Lines) (old new : List State) (stack after : List Visit) : Type 0 where
  pub walking : Walking lines new after
  pub visited : StaysVisited old new
  pub falls : 2 * fresh new + length after < 2 * fresh old + (length stack + 1)

-- a struct was visited, and all that it reaches
pub record Visited (lines : Lines) (old new : List State) (number : ℕ) : Type 0 where
  pub walking : Walking lines new []
  pub visited : StaysVisited old new
  pub here : slice_get new number ≡ Some New → ⊥

-- all structs were visited
pub record Walked (lines : Lines) (states : List State) : Type 0 where
  pub walking : Walking lines states []
  pub visited : (s : ℕ) → slice_get states s ≡ Some New → ⊥

-- the structs below a number were visited
pub record WalkedTo (lines : Lines) (states : List State) (number : ℕ) : Type 0 where
  pub walking : Walking lines states []
  pub visited : (s : ℕ) → s < number → slice_get states s ≡ Some New → ⊥
