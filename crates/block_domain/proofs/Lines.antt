-- What the driver's lines come to: where a `read` begins, and what it wants at each of its three lines.
use Rattle.std.proofs.Common.{◌≡◌, ℕ, zero, suc, nat_lt, ◌⊎◌, inl, inr, Bool, true, false, not, List, [], ◌∷◌, map, Option, Some, slice_get, refl, ap, sym, subst, ◌∙◌, codes}
use Rattle.std.specs.List.{list_all}
use Rattle.std.proofs.lemmas.Bool.{and_parts}
use Rattle.rl_defs.specs.declared.code.CallArg.{CallArg}
use Rattle.rl_defs.specs.declared.code.DomainLine.{DomainLine}
use Rattle.rl_defs.specs.declared.code.DomainLine.TheVariants as line
use Rattle.rl_defs.specs.declared.code.Instr.{Instr}
use Rattle.rl_defs.specs.declared.code.Instr.TheVariants as instr
use Rattle.rl_defs.specs.declared.code.Register.{Register}
use Rattle.rl_defs.specs.declared.load.LoadRows.{LoadRows}
use Rattle.rl_defs.specs.declared.tables.Tables.{Tables}
use Rattle.rl_defs.specs.declared.values.Value.{Value}
use Rattle.rl_defs.specs.declared.values.Value.TheVariants as value
use Rattle.rl_defs.specs.CodeNames.{results_of, method_at, struct_number}
use Rattle.rl_defs.specs.DomainValue.{Domain}
use Rattle.rl_defs.specs.Domains.{Lines, is_native, body_of_function}
use Rattle.rl_defs.specs.Parts.{forms_of}
use Rattle.rl_defs.specs.Registers.{Registers, Stand, value_in, with_value, behind_heads}
use Rattle.rl_defs.specs.Rows.{domain_of_load}
use Rattle.machine_defs.specs.declared.frame.Action.{Action}
use Rattle.machine_defs.specs.declared.frame.Action.TheVariants as action
use Rattle.machine_defs.specs.declared.values.Arg.{Arg}
use Rattle.machine_defs.specs.declared.values.Cause.{Cause}
use Rattle.machine_defs.specs.declared.values.Cause.TheVariants as cause
use Rattle.machine_defs.specs.Arguments.{entry_registers}
use Rattle.machine_defs.specs.Frames.{instr_at, instr_of_form}
use Rattle.machine_defs.specs.Instructions.{Would, Stuck, Nowhere, Before, settle, work, go_on, unless_trap, values_fit}
use Rattle.machine_defs.specs.Sight.{Sight}
use Rattle.machine_laws.proofs.Parts.{instr_of_line}
use Rattle.block_domain.specs.Driver.{r0, r1, driver_forms, RunsDriver}

-- lines of these forms, with any numbers
abbrev pub first_number : List ℕ → ℕ
first_number [] = 0
first_number (n ∷ ns) = n

abbrev pub later_numbers : List ℕ → List ℕ
later_numbers [] = []
later_numbers (n ∷ ns) = ns

abbrev pub numbered_by : List ℕ → List DomainLine → Lines
numbered_by ns [] = []
numbered_by ns (form ∷ forms) = record { line = first_number ns; form = form } ∷ numbered_by (later_numbers ns) forms

abbrev pub numbers_of : Lines → List ℕ
numbers_of lines = map (λ l. l.line) lines

renumbered : (lines : Lines) → lines ≡ numbered_by (numbers_of lines) (forms_of lines)
renumbered [] = refl
renumbered (l ∷ lines) = ap (λ (ls : Lines). l ∷ ls) (renumbered lines)

-- the driver's domain, with any numbers of its lines and any tables
abbrev pub driver : List ℕ → Tables → Domain
driver ns tables = record { lines = numbered_by ns driver_forms; tables = tables }

pub is_driver : (L : LoadRows) (k : ℕ) → RunsDriver L k → domain_of_load L k ≡ driver (numbers_of (domain_of_load L k).lines) (domain_of_load L k).tables
is_driver L k runs =
    let d : Domain = domain_of_load L k in
    ap (λ (lines : Lines). record d { lines = lines }) (renumbered d.lines ∙ ap (numbered_by (numbers_of d.lines)) runs)

-- it has no native body, and it never calls
pub not_native : (ns : List ℕ) (tables : Tables) → is_native (driver ns tables).lines ≡ true → ⊥
not_native ns tables is = absurd cc

abbrev is_call : Instr → Bool
is_call (instr.Call target name args results code label) = true
is_call _ = false

abbrev form_calls : DomainLine → Bool
form_calls (line.Code i) = is_call i
form_calls _ = false

no_call : (form : DomainLine) (i : Instr) → not (form_calls form) ≡ true → instr_of_form form ≡ Some i → not (is_call i) ≡ true
no_call (line.Code j) i none is = let same : j ≡ i = cc in subst (λ (x : Instr). not (is_call x) ≡ true) same none
no_call other i none is = absurd cc

no_call_at : (lines : Lines) (at : ℕ) (i : Instr) → list_all (λ l. not (form_calls l.form)) lines ≡ true → instr_of_line (slice_get lines at) ≡ Some i → not (is_call i) ≡ true
no_call_at [] at i none is = absurd cc
no_call_at (l ∷ lines) zero i none is = no_call l.form i (and_parts (not (form_calls l.form)) (list_all (λ x. not (form_calls x.form)) lines) none).0 is
no_call_at (l ∷ lines) (suc at) i none is = no_call_at lines at i (and_parts (not (form_calls l.form)) (list_all (λ x. not (form_calls x.form)) lines) none).1 is

pub never_calls : (ns : List ℕ) (tables : Tables) (at : ℕ) (target : Register) (name : List ℕ) (args : List CallArg) (results : List Register) (code : Register) (label : List ℕ) → instr_at (driver ns tables) at ≡ Some (instr.Call target name args results code label) → ⊥
never_calls ns tables at target name args results code label is = let e = no_call_at (driver ns tables).lines at (instr.Call target name args results code label) refl is in cc

-- a `read` begins at its first line
pub read_begins : (ns : List ℕ) (tables : Tables) → body_of_function (driver ns tables).lines (codes "read") ≡ 6
read_begins ns tables = refl

-- Register work at an instruction that acts ends there, and traps where there is no fuel.
abbrev pub IsTrap : Action → Type 0
IsTrap act = (c : Cause) × (act ≡ action.Trap c)

module _ (d : Domain) (sight : Sight) (live at : ℕ) (regs : Registers) (no_head : behind_heads d (record { at = at; regs = regs }) ≡ record { at = at; regs = regs }) where
  abbrev stand_here : Stand
  stand_here = record { at = at; regs = regs }

  would_end : (out : Action) (fuel : ℕ) (act : Action) (rest : ℕ) (stand : Stand) → work d sight live stand_here ≡ Would out → settle d sight live fuel stand_here ≡ Before act rest stand → (stand ≡ stand_here) × (IsTrap act ⊎ (act ≡ out))
  would_end out zero act rest stand would is =
      let is' : Before (action.Trap cause.Fuel) 0 stand_here ≡ Before act rest stand = rw no_head at is in
      let a : action.Trap cause.Fuel ≡ act = cc in
      let here : stand_here ≡ stand = cc in
      (sym here, inl (cause.Fuel, sym a))
  would_end out (suc fuel) act rest stand would is =
      let is' : go_on d (work d sight live stand_here) (settle d sight live fuel) (suc fuel) stand_here ≡ Before act rest stand = rw no_head at is in
      let is'' : Before out (suc fuel) stand_here ≡ Before act rest stand = rw would at is' in
      let a : out ≡ act = cc in
      let here : stand_here ≡ stand = cc in
      (sym here, inr (sym a))

  stuck_end : (fuel : ℕ) (act : Action) (rest : ℕ) (stand : Stand) → work d sight live stand_here ≡ Stuck → settle d sight live fuel stand_here ≡ Before act rest stand → (stand ≡ stand_here) × IsTrap act
  stuck_end zero act rest stand stuck is =
      let is' : Before (action.Trap cause.Fuel) 0 stand_here ≡ Before act rest stand = rw no_head at is in
      let a : action.Trap cause.Fuel ≡ act = cc in
      let here : stand_here ≡ stand = cc in
      (sym here, (cause.Fuel, sym a))
  stuck_end (suc fuel) act rest stand stuck is =
      let is' : go_on d (work d sight live stand_here) (settle d sight live fuel) (suc fuel) stand_here ≡ Before act rest stand = rw no_head at is in
      absurd (let is'' : Nowhere ≡ Before act rest stand = rw stuck at is' in cc)

-- an action, or a trap in its place
abbrev acted : Bool → Cause → Action → Action
acted true c out = out
acted false c out = action.Trap c

acts : (b : Bool) (c : Cause) (out : Action) → unless_trap b c out ≡ Would (acted b c out)
acts true c out = refl
acts false c out = refl

unless_it : (b : Bool) (c : Cause) (out act : Action) → (IsTrap act ⊎ (act ≡ acted b c out)) → IsTrap act ⊎ (act ≡ out)
unless_it b c out act (inl trap) = inl trap
unless_it true c out act (inr is) = inr is
unless_it false c out act (inr is) = inl (c, is)

-- the registers of a `read` once it has made its object
abbrev pub read_registers : List Arg → ℕ → Registers
read_registers args o = with_value (entry_registers args) r1 (Some (value.Obj o))

module _ (ns : List ℕ) (tables : Tables) (sight : Sight) (live fuel : ℕ) (act : Action) (rest : ℕ) (stand : Stand) where
  -- at its first line a `read` makes an object
  pub wants_new : (regs : Registers) → settle (driver ns tables) sight live fuel (record { at = 6; regs = regs }) ≡ Before act rest stand
      → (stand ≡ record { at = 6; regs = regs }) × (IsTrap act ⊎ ((ty : ℕ) × (act ≡ action.New ty)))
  wants_new regs is =
      let out : Action = action.New (struct_number tables (codes "Block")) in
      let few : Bool = nat_lt live 65536 in
      let r = would_end (driver ns tables) sight live 6 regs refl (acted few cause.HeapFull out) fuel act rest stand (acts few cause.HeapFull out) is in (
        r.0,
        elim (unless_it few cause.HeapFull out act r.1) [
          | inl trap ↦ inl trap
          | inr new ↦ inr (struct_number tables (codes "Block"), new)
        ],
      )

  -- at its second it puts the block of the number in its first register into its object
  pub wants_block : (regs : Registers) (o : ℕ) → value_in regs r1 ≡ Some (value.Obj o) → settle (driver ns tables) sight live fuel (record { at = 7; regs = regs }) ≡ Before act rest stand
      → (stand ≡ record { at = 7; regs = regs }) × (IsTrap act ⊎ ((b : ℕ) × (value_in regs r0 ≡ Some (value.Num b)) × (act ≡ action.DevGet o b)))
  wants_block regs o object is = by_number (value_in regs r0) refl
    where
      by_number : (v : Option Value) → value_in regs r0 ≡ v → (stand ≡ (record { at = 7; regs = regs })) × (IsTrap act ⊎ ((b : ℕ) × (value_in regs r0 ≡ Some (value.Num b)) × (act ≡ action.DevGet o b)))
      by_number (Some (value.Num b)) e =
          let out : Action = action.DevGet o b in
          let inside : Bool = nat_lt b sight.blocks in
          let would : work (driver ns tables) sight live (record { at = 7; regs = regs }) ≡ Would (acted inside cause.Device out) = rw (object, e) (acts inside cause.Device out) in
          let r = would_end (driver ns tables) sight live 7 regs refl (acted inside cause.Device out) fuel act rest stand would is in (
            r.0,
            elim (unless_it inside cause.Device out act r.1) [
              | inl trap ↦ inl trap
              | inr get ↦ inr (b, e, get)
            ],
          )
      by_number other e =
          let stuck : work (driver ns tables) sight live (record { at = 7; regs = regs }) ≡ Stuck = rw (object, e) refl in
          let r = stuck_end (driver ns tables) sight live 7 regs refl fuel act rest stand stuck is in
          (r.0, inl r.1)

  -- at its third it returns its object
  pub wants_ret : (regs : Registers) (o : ℕ) → value_in regs r1 ≡ Some (value.Obj o) → settle (driver ns tables) sight live fuel (record { at = 8; regs = regs }) ≡ Before act rest stand
      → (stand ≡ record { at = 8; regs = regs }) × (IsTrap act ⊎ (act ≡ action.Ret (value.Obj o ∷ [])))
  wants_ret regs o object is =
      let out : Action = action.Ret (value.Obj o ∷ []) in
      let fit : Bool = values_fit (results_of (method_at (driver ns tables) 8)) (value.Obj o ∷ []) in
      let would : work (driver ns tables) sight live (record { at = 8; regs = regs }) ≡ Would (acted fit cause.Range out) = rw object (acts fit cause.Range out) in
      let r = would_end (driver ns tables) sight live 8 regs refl (acted fit cause.Range out) fuel act rest stand would is in
      (r.0, unless_it fit cause.Range out act r.1)
