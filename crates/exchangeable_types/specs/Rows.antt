-- What is answered for each struct, and for all of them.
use Rattle.std.specs.Prelude.{◌≡◌, ℕ, ◌<◌, ◌≤◌, ◌⊎◌, Bool, true, false, List, [], Some, slice_get, length, take, Result, Ok, Err}
use Rattle.rl_defs.specs.declared.LoadFault.{LoadFault}
use Rattle.rl_defs.specs.declared.LoadFault.TheVariants.{Refused, Memory}
use Rattle.rl_defs.specs.declared.tables.Kind.{Kind}
use Rattle.rl_defs.specs.declared.tables.Kind.TheVariants as kind
use Rattle.rl_defs.specs.declared.tables.StructRow.{StructRow}
use Rattle.rl_defs.specs.Refusals.{Failing}
use Rattle.rl_defs.specs.Interfaces.{Lines, FieldText, StructText, structs_of, types_at, struct_names}
use Rattle.rl_defs.specs.Flattening.{Flattens}
use Rattle.rl_defs.specs.Holding.{IsEndless, HoldsRRef}
use Rattle.rl_defs.specs.TypeRules.{StructAt, AreStructRows}
use Rattle.exchangeable_types.specs.declared.cells.Cells.{Cells}
use Rattle.exchangeable_types.specs.declared.walk.State.{State}
use Rattle.exchangeable_types.specs.declared.walk.State.TheVariants.{New, Open, Endless, Ended}
use Rattle.exchangeable_types.specs.declared.rows.Head.{Head}
use Rattle.exchangeable_types.specs.Capped.{CellsOf}
use Rattle.exchangeable_types.specs.Search.{Searching}

-- rule 12 at the struct of this number
pub record Overflows (lines : Lines) (s : ℕ) : Type 0 where
  pub ends : IsEndless lines s → ⊥
  pub cells : List Kind
  pub flat : Flattens lines (types_at lines s) cells
  pub many : 512 < length cells

-- rule 13 at the struct of this number
pub record Nests (lines : Lines) (s : ℕ) : Type 0 where
  pub ends : IsEndless lines s → ⊥
  pub cells : List Kind
  pub flat : Flattens lines (types_at lines s) cells
  pub few : length cells ≤ 512
  pub place : ℕ
  pub held : ℕ
  pub cell : slice_get cells place ≡ Some (kind.Own held)
  pub nested : HoldsRRef lines held

-- which of the rules 11 to 13 fail at the struct of this number
abbrev pub FailsStruct : Lines → ℕ → ℕ → Type 0
FailsStruct lines s rule = ((rule ≡ 11) × IsEndless lines s) ⊎ (((rule ≡ 12) × Overflows lines s) ⊎ ((rule ≡ 13) × Nests lines s))

-- which of the rules 11 to 13 fail at which lines
abbrev pub FailsStructs : Lines → Failing
FailsStructs lines n rule = (s : ℕ) × StructAt lines n s × FailsStruct lines s rule

-- the row of the struct of this number
pub record IsRowAt (lines : Lines) (s : ℕ) (row : StructRow) : Type 0 where
  pub text : StructText
  pub here : slice_get (structs_of lines) s ≡ Some text
  pub name : row.name ≡ text.name
  pub flat : Flattens lines (types_at lines s) row.flat
  pub few : length row.flat ≤ 512

-- no rule fails at the struct and this is its row, or the lowest rule that fails at it
pub record RowRefused (lines : Lines) (s line rule : ℕ) : Type 0 where
  pub here : StructAt lines line s
  pub fails : FailsStruct lines s rule
  pub lowest : (r : ℕ) → FailsStruct lines s r → rule ≤ r

abbrev pub IsRowAnswer : Lines → ℕ → Result StructRow LoadFault → Type 0
IsRowAnswer lines s (Ok row) = ((r : ℕ) → FailsStruct lines s r → ⊥) × IsRowAt lines s row
IsRowAnswer lines s (Err (Refused at)) = RowRefused lines s at.line at.rule
IsRowAnswer lines s (Err Memory) = Unit {0}

-- what the walk knows of a struct, once it has ended
pub record StateAt (lines : Lines) (s : ℕ) (state : State) : Type 0 where
  pub known : (cells : Cells) → state ≡ Ended cells → CellsOf lines 512 (types_at lines s) cells
  pub endless : state ≡ Endless → IsEndless lines s
  pub old : state ≡ New → ⊥
  pub closed : (i : ℕ) → state ≡ Open i → ⊥

-- the first line of a struct: its number and the struct's name
pub record IsHead (lines : Lines) (s : ℕ) (head : Head) : Type 0 where
  pub fields : List FieldText
  pub here : slice_get (structs_of lines) s ≡ Some (record { line = head.line; name = head.name; fields = fields })

-- whether a cell is an RRef of a struct that holds an RRef; where none is, all that was seen is clean
pub record NestedCell (lines : Lines) (kinds : List Kind) : Type 0 where
  pub place : ℕ
  pub held : ℕ
  pub cell : slice_get kinds place ≡ Some (kind.Own held)
  pub nested : HoldsRRef lines held

abbrev pub IsNested : Lines → List Kind → List Bool → Bool → Type 0
IsNested lines kinds seen true = NestedCell lines kinds
IsNested lines kinds seen false = Searching lines seen [] × (NestedCell lines kinds → ⊥)

-- the rows of the first structs, none of which is refused
pub record RowsTo (lines : Lines) (rows : List StructRow) (number : ℕ) : Type 0 where
  pub count : length rows ≡ number
  pub are : AreStructRows lines (take number (structs_of lines)) rows
  pub none : (s r : ℕ) → s < number → FailsStruct lines s r → ⊥
  pub few : (k : ℕ) (row : StructRow) → slice_get rows k ≡ Some row → length row.flat ≤ 512

-- all rows of the structs of a part, each with at most 512 cells
pub record AllRows (lines : Lines) (rows : List StructRow) : Type 0 where
  pub are : AreStructRows lines (structs_of lines) rows
  pub few : (k : ℕ) (row : StructRow) → slice_get rows k ≡ Some row → length row.flat ≤ 512

-- the structs below a number have their rows, and the walk knows the others
pub record Rowing (lines : Lines) (states : List State) (seen : List Bool) (rows : List StructRow) (number : ℕ) : Type 0 where
  pub count : length states ≡ length (struct_names lines)
  pub rest : (s : ℕ) (x : State) → number ≤ s → slice_get states s ≡ Some x → StateAt lines s x
  pub searching : Searching lines seen []
  pub to : RowsTo lines rows number
