-- What it is that a frame fits its domain, and an answer its action.
use Rattle.std.specs.Prelude.{◌≡◌, ℕ, ◌<◌, ◌≤◌, ◌&&◌, [], ◌∷◌, true, length, Some, slice_get, Bool, false, Option, None, is_some, List}
use Rattle.rl_defs.specs.declared.code.RegKind.TheVariants as held
use Rattle.rl_defs.specs.declared.code.DomainLine.TheVariants as line
use Rattle.machine_defs.specs.declared.frame.FrameBody.TheVariants as body
use Rattle.rl_defs.specs.declared.tables.Kind.TheVariants as kind
use Rattle.rl_defs.specs.declared.code.Instr.TheVariants as instr
use Rattle.machine_defs.specs.declared.frame.Answer.TheVariants as answer
use Rattle.machine_defs.specs.declared.frame.FrameBody.{FrameBody}
use Rattle.rl_defs.specs.declared.code.Instr.{Instr}
use Rattle.rl_defs.specs.declared.tables.Kind.{Kind}
use Rattle.rl_defs.specs.declared.values.Value.{Value}
use Rattle.machine_defs.specs.declared.frame.Answer.{Answer}
use Rattle.rl_defs.specs.Registers.{Stand, Typing, Fits, fits_kind}
use Rattle.rl_defs.specs.DomainValue.{Domain}
use Rattle.rl_defs.specs.CodeNames.{function_at, struct_number, cells_of, slots, imports, type_at, trait_number, slot_struct, results_of}
use Rattle.rl_defs.specs.CodeKinds.{kinds_at, left, hung_at, as_register, Kinds, kind_in, method_called}
use Rattle.rl_defs.specs.CodeRules.{is_inside, is_reached}
use Rattle.machine_defs.specs.Sight.{Sight}

-- where a code frame stands (a native frame stands nowhere)
abbrev pub stand_of : {N : Type 0} → FrameBody N → Stand
stand_of (body.Code line regs) = record { at = line; regs = regs }
stand_of (body.Native held state) = record { at = 0; regs = [] }

-- a frame stands at a line of a function that is reached from the line before it, with registers of
-- the kinds that the line has
pub record FitsStand (types : Typing) (d : Domain) (s : Stand) : Type 0 where
  pub inside : is_inside (function_at d.lines s.at) ≡ true
  pub reached : is_reached d s.at ≡ true
  pub within : s.at < length d.lines
  pub regs : Fits types (kinds_at d s.at) s.regs

-- a frame that waits for a call stands at the call's line, without the objects that it moved
pub record FitsWaiting (types : Typing) (d : Domain) (i : Instr) (s : Stand) : Type 0 where
  pub number : ℕ
  pub here : slice_get d.lines s.at ≡ Some (record { line = number; form = line.Code i })
  pub inside : is_inside (function_at d.lines s.at) ≡ true
  pub regs : Fits types (left (kinds_at d s.at) i) s.regs

-- a cell of an object is there, and is a number cell, as its struct says
abbrev pub is_number_cell : Option Kind → Bool
is_number_cell (Some (kind.Num w)) = true
is_number_cell _ = false

-- What a frame sees is of these types, and says so: an object has the number cells of its struct;
-- what hangs in a cell, what is in a slot, and the target that is bound to an import are of their
-- types; a domain has at most 4,096 words.
pub record FitsSight (types : Typing) (d : Domain) (sight : Sight) : Type 0 where
  pub types_same : sight.types ≡ types
  pub cells : (o at : ℕ) → is_some (sight.cell o at) ≡ is_number_cell (slice_get (cells_of d.tables (types.struct_of o)) at)
  pub words : (at : ℕ) → 4096 ≤ at → sight.word at ≡ None
  pub slots : (k o : ℕ) → sight.slot k ≡ Some o → types.struct_of o ≡ struct_number d.tables (type_at (slots d.lines) (Some k))
  pub hung : (o at v : ℕ) → sight.hung o at ≡ Some v → hung_at d.tables (held.Own (types.struct_of o)) at ≡ Some (types.struct_of v)
  pub bound : (k : ℕ) → k < length (imports d.lines) → types.trait_of (sight.bound k) ≡ trait_number d.tables (type_at (imports d.lines) (Some k))

-- values are of these kinds, each
abbrev pub are_values : Typing → List Kind → List Value → Bool
are_values types [] [] = true
are_values types (k ∷ kinds) (v ∷ values) = fits_kind types (as_register k) (Some v) && are_values types kinds values
are_values types _ _ = false

-- What may be answered to the action of an instruction: an object of its struct, that it was done,
-- or the results of its method or a code.
abbrev pub FitsAnswer : Typing → Domain → Kinds → Instr → Answer → Type 0
FitsAnswer types d kinds (instr.New a ty) (answer.Made o) = types.struct_of o ≡ struct_number d.tables ty
FitsAnswer types d kinds (instr.Take a slot) (answer.Made o) = types.struct_of o ≡ slot_struct d slot
FitsAnswer types d kinds (instr.Unhang a o place) (answer.Made v) = hung_at d.tables (kind_in kinds o) place ≡ Some (types.struct_of v)
FitsAnswer types d kinds (instr.Drop a) answer.Went = Unit {0}
FitsAnswer types d kinds (instr.Set o i v) answer.Went = Unit {0}
FitsAnswer types d kinds (instr.Wput i v) answer.Went = Unit {0}
FitsAnswer types d kinds (instr.Put slot a) answer.Went = Unit {0}
FitsAnswer types d kinds (instr.DevGet o k) answer.Went = Unit {0}
FitsAnswer types d kinds (instr.DevPut k o) answer.Went = Unit {0}
FitsAnswer types d kinds (instr.Hang o place v) answer.Went = Unit {0}
FitsAnswer types d kinds (instr.Call c method args results e label) (answer.Back values) = are_values types (results_of (method_called d.tables (kind_in kinds c) method)) values ≡ true
FitsAnswer types d kinds (instr.Call c method args results e label) (answer.Failed failure) = Unit {0}
FitsAnswer types d kinds _ _ = ⊥
