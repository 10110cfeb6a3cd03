-- Whether what stands in memory fits a domain.
use Rattle.std.specs.Prelude.{ℕ, ◌==◌, ◌&&◌, nat_le, Bool, true, false, List, [], ◌∷◌, length, Option, Some, None}
use Rattle.rl_defs.specs.declared.tables.Kind.{Kind}
use Rattle.rl_defs.specs.declared.tables.Kind.TheVariants as kind
use Rattle.rl_defs.specs.declared.tables.Tables.{Tables}
use Rattle.code_machine.specs.declared.act.Act.{Act}
use Rattle.code_machine.specs.declared.act.Act.TheVariants as act
use Rattle.rl_defs.specs.DomainValue.{Domain}
use Rattle.rl_defs.specs.CodeNames.{Declared, slots, imports, struct_number, trait_number, cells_of}
use Rattle.rl_defs.specs.Registers.{Typing}
use Rattle.code_runs.specs.declared.view.Cell.{Cell}
use Rattle.code_runs.specs.declared.view.Cell.TheVariants as cell
use Rattle.code_runs.specs.declared.view.SeenObject.{SeenObject}
use Rattle.code_runs.specs.declared.view.MemoryView.{MemoryView}
use Rattle.code_runs.specs.Seen.{types_of}

-- a cell holds what its kind says: a number, or an object of the struct, or none
abbrev pub cell_suits : Typing → Cell → Kind → Bool
cell_suits types (cell.Num n) (kind.Num w) = true
cell_suits types cell.Empty (kind.Own s) = true
cell_suits types (cell.Holds o) (kind.Own s) = types.struct_of o == s
cell_suits types _ _ = false

-- as many of the one kind as of the other, and each suits the other one at its place
abbrev pub all_suit : {A B : Type 0} → (A → B → Bool) → List A → List B → Bool
all_suit suit [] [] = true
all_suit suit (x ∷ xs) (y ∷ ys) = suit x y && all_suit suit xs ys
all_suit suit _ _ = false

abbrev pub cells_suit : Typing → List Cell → List Kind → Bool
cells_suit types cells kinds = all_suit (cell_suits types) cells kinds

-- each object has the cells of its struct
abbrev pub objects_suit : Typing → Tables → List SeenObject → Bool
objects_suit types tables [] = true
objects_suit types tables (o ∷ os) = cells_suit types o.cells (cells_of tables o.of) && objects_suit types tables os

-- a slot is empty, or holds an object of the slot's struct
abbrev pub slot_suits : Typing → ℕ → Option ℕ → Bool
slot_suits types s None = true
slot_suits types s (Some o) = types.struct_of o == s

abbrev pub slot_suits_as : Typing → Tables → Option ℕ → Declared → Bool
slot_suits_as types tables held d = slot_suits types (struct_number tables d.ty) held

abbrev pub slots_suit : Typing → Tables → List (Option ℕ) → List Declared → Bool
slots_suit types tables held declared = all_suit (slot_suits_as types tables) held declared

-- a target of the import's trait is bound to each import
abbrev pub bind_suits_as : Typing → Tables → ℕ → Declared → Bool
bind_suits_as types tables x d = types.trait_of x == trait_number tables d.ty

abbrev pub binds_suit : Typing → Tables → List ℕ → List Declared → Bool
binds_suit types tables bound declared = all_suit (bind_suits_as types tables) bound declared

-- a view fits a domain
abbrev pub suits : MemoryView → Domain → Bool
suits v d =
    nat_le (length v.words) 4096
    && objects_suit (types_of v) d.tables v.objects
    && slots_suit (types_of v) d.tables v.slots (slots d.lines)
    && binds_suit (types_of v) d.tables v.binds (imports d.lines)

-- this object is held
abbrev pub is_held : Option ℕ → ℕ → Bool
is_held None o = false
is_held (Some v) o = v == o

-- an act ends its frame, so that nothing is answered
abbrev pub ends : Act → Bool
ends (act.Trap c) = true
ends (act.Ret values) = true
ends _ = false
