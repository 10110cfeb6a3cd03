-- What the code of a frame writes into cells fits them, and blocks go with objects that hold one.
use Rattle.std.proofs.Common.{◌≡◌, unwrap_or, refl, sym, ◌∙◌, ap, subst, ℕ, ◌==◌, Bool, true, false, ◌&&◌, [], ◌∷◌, drop, Option, Some, None, slice_get, is_some}
use Rattle.std.specs.Prelude.{if◌then◌else◌}
use Rattle.machine_defs.specs.declared.values.Cause.{Cause}
use Rattle.machine_defs.specs.declared.values.Cause.TheVariants as cause
use Rattle.machine_defs.specs.declared.frame.Action.{Action}
use Rattle.machine_defs.specs.declared.frame.Action.TheVariants as action
use Rattle.rl_defs.specs.declared.code.Register.{Register}
use Rattle.rl_defs.specs.declared.code.Instr.{Instr}
use Rattle.rl_defs.specs.declared.code.Instr.TheVariants as instr
use Rattle.rl_defs.specs.declared.code.DomainLine.TheVariants as line
use Rattle.rl_defs.specs.declared.tables.Width.TheVariants as width
use Rattle.rl_defs.specs.declared.tables.Kind.{Kind}
use Rattle.rl_defs.specs.declared.tables.Kind.TheVariants as kind
use Rattle.machine_defs.specs.Sight.{Sight}
use Rattle.rl_defs.specs.DomainValue.{Domain}
use Rattle.rl_defs.specs.CodeNames.{cells_of, struct_number}
use Rattle.rl_defs.specs.CodeKinds.{Kinds, kinds_at, kind_in, Owned, Object, Number}
use Rattle.rl_defs.specs.CodeRules.{meets, reads_are_met, holds_block, operands_suit}
use Rattle.rl_defs.specs.CodeKinds.{object_struct}
use Rattle.rl_defs.specs.CodeRules.{KeepsRules}
use Rattle.rl_defs.specs.Registers.{Typing, Fits}
use Rattle.machine_defs.specs.CodeFits.{FitsStand, FitsSight, is_number_cell}
use Rattle.machine_defs.specs.CodeLaws.{StandsAt}
use Rattle.rl_defs.specs.NativeShapes.{has_cells}
use Rattle.rl_defs.specs.Widths.{numbers_suit}
use Rattle.rl_defs.specs.Registers.{Registers, value_in, Stand}
use Rattle.machine_defs.specs.Instructions.{object, object_in, number_in, number_fits as within_width, struct_in, cell_kind, Outcome, Works, Jumps, Would, number_or_trap, unless_trap, setting, calculate, meaning, work}
use Rattle.rl_defs.specs.CodeNames.{slot_number}
use Rattle.machine_defs.proofs.CodeTypes.{object_is, owned_object}
use Rattle.machine_defs.proofs.CodeRegisters.{and_left, and_right}
use Rattle.machine_defs.proofs.CodeSafe.{work_is, finds}
use Rattle.machine_defs.proofs.CodeStands.{keeps_at}
use Rattle.machine_laws.proofs.OwnWork.{met_at}
use Rattle.machine_laws.proofs.CellsFit.{one_suits}

-- numbers suit the cells that they are put into, and an object that goes with a block has the cells of one
abbrev pub WriteFits : Typing → Domain → Action → Type 0
WriteFits types d (action.Set o place values) = numbers_suit (drop place (cells_of d.tables (types.struct_of o))) values ≡ true
WriteFits types d (action.DevGet o block) = has_cells 64 width.W64 (cells_of d.tables (types.struct_of o)) ≡ true
WriteFits types d (action.DevPut block o) = has_cells 64 width.W64 (cells_of d.tables (types.struct_of o)) ≡ true
WriteFits types d act = Unit {0}

abbrev WritesWhen : Typing → Domain → Outcome → Type 0
WritesWhen types d (Would act) = WriteFits types d act
WritesWhen types d o = Unit {0}

unless_writes : (types : Typing) (d : Domain) (allowed : Bool) (c : Cause) (act : Action) → (allowed ≡ true → WriteFits types d act) → WritesWhen types d (unless_trap allowed c act)
unless_writes types d true c act fits = fits refl
unless_writes types d false c act fits = tt

number_writes : (types : Typing) (d : Domain) (regs : Registers) (a : Register) (c : Cause) (o : Option ℕ) → WritesWhen types d (number_or_trap regs a c o)
number_writes types d regs a c None = tt
number_writes types d regs a c (Some v) = tt

jz_writes : (types : Typing) (d : Domain) (regs : Registers) (b : Bool) → WritesWhen types d (if b then Jumps regs else Works regs)
jz_writes types d regs true = tt
jz_writes types d regs false = tt

number_kind : (k : Option Kind) (v : ℕ) → is_number_cell k ≡ true → within_width (unwrap_or k (kind.Num width.W64)) v ≡ true → (j : Kind) × (k ≡ Some j) × (Rattle.rl_defs.specs.Widths.number_suits j v ≡ true)
number_kind (Some (kind.Num w)) v number fits = (kind.Num w, refl, fits)
number_kind (Some (kind.Own s)) v number fits = absurd (cc)
number_kind (Some (kind.Lent s)) v number fits = absurd (cc)
number_kind (Some (kind.Cap t)) v number fits = absurd (cc)
number_kind None v number fits = absurd (cc)

set_writes : (types : Typing) (d : Domain) (sight : Sight) (k q place v : ℕ) (cell : Option ℕ) → FitsSight types d sight → k ≡ types.struct_of q → sight.cell q place ≡ cell → WritesWhen types d (setting cell (cell_kind d.tables k place) q place v)
set_writes types d sight k q place v None sees struct is = tt
set_writes types d sight k q place v (Some old) sees struct is =
    unless_writes types d (within_width (cell_kind d.tables k place) v) cause.Range (action.Set q place (v ∷ [])) (λ width.
    (let number : is_number_cell (slice_get (cells_of d.tables (types.struct_of q)) place) ≡ true = sym (sees.cells q place) ∙ ap is_some is in
    let fits : within_width (cell_kind d.tables (types.struct_of q) place) v ≡ true = ap (λ x. within_width (cell_kind d.tables x place) v) (sym struct) ∙ width in
    let r = number_kind (slice_get (cells_of d.tables (types.struct_of q)) place) v number fits in
    one_suits (cells_of d.tables (types.struct_of q)) place r.0 v r.1 r.2))

-- what is known at an instruction
record Knows (types : Typing) (d : Domain) (n : ℕ) (sight : Sight) (kinds : Kinds) (regs : Registers) (i : Instr) : Type 0 where
  sees : FitsSight types d sight
  fits : Fits types kinds regs
  met : reads_are_met kinds i ≡ true
  suits : operands_suit d n kinds i ≡ true

holds : (types : Typing) (d : Domain) (kinds : Kinds) (regs : Registers) (o : Register) → Fits types kinds regs → meets Object (kind_in kinds o) ≡ true → holds_block d (object_struct (kind_in kinds o)) ≡ true → has_cells 64 width.W64 (cells_of d.tables (types.struct_of (object_in regs o))) ≡ true
holds types d kinds regs o fit m h =
    let is = object_is types (kind_in kinds o) (value_in regs o) m (fit.each o.number) in
    let e : holds_block d (Some (types.struct_of (object (value_in regs o)))) ≡ true = ap (holds_block d) (sym is) ∙ h in
    e

writes : (types : Typing) (d : Domain) (n : ℕ) (kinds : Kinds) (sight : Sight) (live : ℕ) (regs : Registers) (i : Instr) → Knows types d n sight kinds regs i → WritesWhen types d (meaning d n sight live regs i)
writes types d n kinds sight live regs (instr.Math o a b c) knows = number_writes types d regs a cause.Divide (calculate o (number_in regs b) (number_in regs c))
writes types d n kinds sight live regs (instr.Jz a label) knows = jz_writes types d regs (number_in regs a == 0)
writes types d n kinds sight live regs (instr.Get a o i) knows = number_writes types d regs a cause.Bounds _
writes types d n kinds sight live regs (instr.Wget a i) knows = number_writes types d regs a cause.Bounds _
writes types d n kinds sight live regs (instr.New a ty) knows = unless_writes types d _ cause.HeapFull (action.New (struct_number d.tables ty)) (λ e. tt)
writes types d n kinds sight live regs (instr.Drop a) knows = tt
writes types d n kinds sight live regs (instr.Set o i v) knows =
    let is = ap (λ (seen : Typing). seen.struct_of (object_in regs o)) knows.sees.types_same in
    set_writes types d sight (struct_in sight regs o) (object_in regs o) (number_in regs i) (number_in regs v) (sight.cell (object_in regs o) (number_in regs i)) knows.sees is refl
writes types d n kinds sight live regs (instr.Wput i v) knows = unless_writes types d _ cause.Bounds (action.Wput (number_in regs i) (number_in regs v)) (λ e. tt)
writes types d n kinds sight live regs (instr.Take a slot) knows = unless_writes types d _ cause.Empty (action.Take (slot_number d slot)) (λ e. tt)
writes types d n kinds sight live regs (instr.Put slot a) knows = unless_writes types d _ cause.Full (action.Put (slot_number d slot) (object_in regs a)) (λ e. tt)
writes types d n kinds sight live regs (instr.DevGet o k) knows =
    let owned = owned_object (kind_in kinds o) (and_left (meets Owned (kind_in kinds o)) (meets Number (kind_in kinds k) && true) knows.met) in
    unless_writes types d _ cause.Device (action.DevGet (object_in regs o) (number_in regs k)) (λ e. holds types d kinds regs o knows.fits owned knows.suits)
writes types d n kinds sight live regs (instr.DevPut k o) knows =
    let known = and_left (meets Object (kind_in kinds o)) true (and_right (meets Number (kind_in kinds k)) (meets Object (kind_in kinds o) && true) knows.met) in
    unless_writes types d _ cause.Device (action.DevPut (number_in regs k) (object_in regs o)) (λ e. holds types d kinds regs o knows.fits known knows.suits)
writes types d n kinds sight live regs (instr.Hang o place v) knows = unless_writes types d _ cause.Full (action.Hang (object_in regs o) place (object_in regs v)) (λ e. tt)
writes types d n kinds sight live regs (instr.Unhang a o place) knows = unless_writes types d _ cause.Empty (action.Unhang (object_in regs o) place) (λ e. tt)
writes types d n kinds sight live regs (instr.Call c method args results e label) knows = unless_writes types d _ cause.Range (action.Call _ _ _) (λ e. tt)
writes types d n kinds sight live regs (instr.Ret results) knows = unless_writes types d _ cause.Range (action.Ret _) (λ e. tt)
writes types d n kinds sight live regs i knows = tt

pub act_writes : (d : Domain) (types : Typing) (sight : Sight) (live : ℕ) (i : Instr) (s : Stand) (act : Action) → KeepsRules d → FitsSight types d sight → FitsStand types d s → StandsAt d i s → work d sight live s ≡ Would act → WriteFits types d act
act_writes d types sight live i s act keeps sees stand at is =
    let kinds = kinds_at d s.at in
    let kept = keeps_at d s.at at.number (line.Code i) keeps at.here in
    let means : meaning d s.at sight live s.regs i ≡ Would act = sym (work_is d sight live s at.number i at.here (finds d types s at.number i keeps stand at.here)) ∙ is in
    subst (WritesWhen types d) means
    (writes types d s.at kinds sight live s.regs i (record {
      sees = sees;
      fits = stand.regs;
      met = met_at d s.at at.number i keeps at.here;
      suits = and_right (reads_are_met kinds i) (operands_suit d s.at kinds i) kept.kinds;
    }))
