-- What a frame makes is an object of a struct of the load, whether it runs code or a native body.
use Rattle.std.proofs.Common.{◌≡◌, ℕ, ◌<◌, ◌==◌, unwrap_or, refl, sym, ◌∙◌, ap, subst, Bool, true, false, List, [], ◌∷◌, length, map, All, Option, Some, None, inl, inr, arith}
use Rattle.std.specs.Prelude.{if◌then◌else◌, slice_get}
use Rattle.std.specs.List.{Contains}
use Rattle.std.proofs.lemmas.List.{length-map}
use Rattle.std.proofs.lemmas.List.Elements.{All-head}
use Rattle.machine_defs.specs.declared.values.Cause.{Cause}
use Rattle.machine_defs.specs.declared.values.Cause.TheVariants as cause
use Rattle.machine_defs.specs.declared.frame.Action.{Action}
use Rattle.machine_defs.specs.declared.frame.Action.TheVariants as action
use Rattle.machine_defs.specs.declared.frame.FrameBody.{FrameBody}
use Rattle.machine_defs.specs.declared.frame.FrameBody.TheVariants as body
use Rattle.rl_defs.specs.declared.bundle.Numbered.{Numbered}
use Rattle.rl_defs.specs.declared.code.Register.{Register}
use Rattle.rl_defs.specs.declared.code.Instr.{Instr}
use Rattle.rl_defs.specs.declared.code.Instr.TheVariants as instr
use Rattle.rl_defs.specs.declared.code.DomainLine.{DomainLine}
use Rattle.rl_defs.specs.declared.code.DomainLine.TheVariants as line
use Rattle.rl_defs.specs.declared.load.LoadRows.{LoadRows}
use Rattle.rl_defs.specs.declared.tables.Tables.{Tables}
use Rattle.rl_defs.specs.declared.tables.StructRow.{StructRow}
use Rattle.rl_defs.specs.declared.tables.Kind.{Kind}
use Rattle.machine_defs.specs.Sight.{Sight}
use Rattle.rl_defs.specs.DomainValue.{Domain}
use Rattle.rl_defs.specs.CodeNames.{struct_number, slot_number, structs_used}
use Rattle.rl_defs.specs.CodeRules.{KeepsRules}
use Rattle.rl_defs.specs.Registers.{Registers, Stand, Typing}
use Rattle.rl_defs.specs.Rows.{domain_of_load}
use Rattle.rl_defs.specs.Valid.{Valid}
use Rattle.rl_defs.proofs.Lists.{in_list, at_contained, contains_at}
use Rattle.rl_defs.proofs.NamePlaces.{place_there, there_place}
use Rattle.rl_defs.proofs.ValidFacts.{each_domain, domain_tables}
use Rattle.machine_defs.specs.CodeFits.{FitsStand}
use Rattle.machine_defs.specs.CodeLaws.{StandsAt, Acts as ActsAt}
use Rattle.machine_defs.specs.Instructions.{object_in, number_in, struct_in, cell_kind, Outcome, Works, Jumps, Would, number_or_trap, unless_trap, setting, calculate, number_fits, meaning, work}
use Rattle.machine_defs.specs.State.{State, StackFrame, instance_load}
use Rattle.machine_defs.specs.Seen.{domain_of_instance, seen, types_of}
use Rattle.machine_defs.specs.NativeFits.{CanChoose}
use Rattle.machine_defs.specs.Wants.{Acts, by_body}
use Rattle.machine_defs.proofs.CodeSafe.{work_is, finds}
use Rattle.machine_laws.specs.Shape.{Laid}
use Rattle.machine_laws.specs.Fitting.{CodeRuns, BodyFits, Fitting}
use Rattle.machine_laws.proofs.Acting.{ActsAs}
use Rattle.machine_laws.proofs.Sights.{sees}
use Rattle.machine_laws.proofs.OwnWork.{settle_keeps}
use Rattle.machine_laws.proofs.OwnDoing.{native_kept}
use Rattle.machine_laws.proofs.CodeDoing.{NotTrap, settles_so, keeps_rules, body_fits}

-- ---- the instruction

-- an object is made by a `new` of its struct's name
abbrev MakesNamed : Domain → Instr → Action → Type 0
MakesNamed d i (action.New ty) = (a : Register) × (name : List ℕ) × (i ≡ instr.New a name) × (ty ≡ struct_number d.tables name)
MakesNamed d i act = Unit {0}

abbrev MakesWhen : Domain → Instr → Outcome → Type 0
MakesWhen d i (Would act) = MakesNamed d i act
MakesWhen d i o = Unit {0}

unless_makes : (d : Domain) (i : Instr) (allowed : Bool) (c : Cause) (act : Action) → MakesNamed d i act → MakesWhen d i (unless_trap allowed c act)
unless_makes d i true c act makes = makes
unless_makes d i false c act makes = tt

number_makes : (d : Domain) (i : Instr) (regs : Registers) (a : Register) (c : Cause) (o : Option ℕ) → MakesWhen d i (number_or_trap regs a c o)
number_makes d i regs a c None = tt
number_makes d i regs a c (Some v) = tt

jump_makes : (d : Domain) (i : Instr) (regs : Registers) (b : Bool) → MakesWhen d i (if b then Jumps regs else Works regs)
jump_makes d i regs true = tt
jump_makes d i regs false = tt

set_makes : (d : Domain) (i : Instr) (k : Kind) (q place v : ℕ) (cell : Option ℕ) → MakesWhen d i (setting cell k q place v)
set_makes d i k q place v None = tt
set_makes d i k q place v (Some old) = unless_makes d i (number_fits k v) cause.Range (action.Set q place (v ∷ [])) tt

makes : (d : Domain) (n : ℕ) (sight : Sight) (live : ℕ) (regs : Registers) (i : Instr) → MakesWhen d i (meaning d n sight live regs i)
makes d n sight live regs (instr.Math o a b c) = number_makes d (instr.Math o a b c) regs a cause.Divide (calculate o (number_in regs b) (number_in regs c))
makes d n sight live regs (instr.Jz a label) = jump_makes d (instr.Jz a label) regs (number_in regs a == 0)
makes d n sight live regs (instr.Get a o i) = number_makes d (instr.Get a o i) regs a cause.Bounds _
makes d n sight live regs (instr.Wget a i) = number_makes d (instr.Wget a i) regs a cause.Bounds _
makes d n sight live regs (instr.New a ty) = unless_makes d (instr.New a ty) _ cause.HeapFull (action.New (struct_number d.tables ty)) (a, ty, refl, refl)
makes d n sight live regs (instr.Set o i v) = set_makes d (instr.Set o i v) (cell_kind d.tables (struct_in sight regs o) (number_in regs i)) (object_in regs o) (number_in regs i) (number_in regs v) (sight.cell (object_in regs o) (number_in regs i))
makes d n sight live regs (instr.Wput i v) = unless_makes d (instr.Wput i v) _ cause.Bounds (action.Wput (number_in regs i) (number_in regs v)) tt
makes d n sight live regs (instr.Take a slot) = unless_makes d (instr.Take a slot) _ cause.Empty (action.Take (slot_number d slot)) tt
makes d n sight live regs (instr.Put slot a) = unless_makes d (instr.Put slot a) _ cause.Full (action.Put (slot_number d slot) (object_in regs a)) tt
makes d n sight live regs (instr.DevGet o k) = unless_makes d (instr.DevGet o k) _ cause.Device (action.DevGet (object_in regs o) (number_in regs k)) tt
makes d n sight live regs (instr.DevPut k o) = unless_makes d (instr.DevPut k o) _ cause.Device (action.DevPut (number_in regs k) (object_in regs o)) tt
makes d n sight live regs (instr.Hang o place v) = unless_makes d (instr.Hang o place v) _ cause.Full (action.Hang (object_in regs o) place (object_in regs v)) tt
makes d n sight live regs (instr.Unhang a o place) = unless_makes d (instr.Unhang a o place) _ cause.Empty (action.Unhang (object_in regs o) place) tt
makes d n sight live regs (instr.Call c method args results e label) = unless_makes d (instr.Call c method args results e label) _ cause.Range (action.Call _ _ _) tt
makes d n sight live regs (instr.Ret results) = unless_makes d (instr.Ret results) _ cause.Range (action.Ret _) tt
makes d n sight live regs i = tt

act_makes : (d : Domain) (types : Typing) (sight : Sight) (live : ℕ) (i : Instr) (s : Stand) (act : Action) → KeepsRules d → FitsStand types d s → StandsAt d i s → work d sight live s ≡ Would act → MakesNamed d i act
act_makes d types sight live i s act keeps stand at is =
    let means : meaning d s.at sight live s.regs i ≡ Would act = sym (work_is d sight live s at.number i at.here (finds d types s at.number i keeps stand at.here)) ∙ is in
    subst (MakesWhen d i) means (makes d s.at sight live s.regs i)

-- ---- the struct's name

-- the structs that a domain's lines name are there
abbrev StructsThere : LoadRows → Domain → Type 0
StructsThere L d = (l : Numbered DomainLine) → Contains d.lines l → All (Contains (map (λ (s : StructRow). s.name) L.tables.structs)) (structs_used l.form)

structs_there : (L : LoadRows) → Valid L → (k : ℕ) → StructsThere L (domain_of_load L k)
structs_there L valid k = each_domain L valid (StructsThere L) (λ l among. let at = at_contained [] l among in absurd (let never = at.1 in cc)) (λ d is. is.structs) k

number_within : (tables : Tables) (name : List ℕ) → Contains (map (λ (s : StructRow). s.name) tables.structs) name → struct_number tables name < length tables.structs
number_within tables name among =
    let names = map (λ (s : StructRow). s.name) tables.structs in
    let at = at_contained names name among in
    let place = there_place name names at.0 at.1 in
    let within = in_list names place.0 name (place_there name names place.0 place.1) in
    let number : struct_number tables name ≡ place.0 = ap (λ (o : Option ℕ). unwrap_or o 0) place.1 in
    omega (arith, within, number, length-map tables.structs (λ (s : StructRow). s.name))

-- what a line that stands there names, if its instruction is this `new`
new_named : (L : LoadRows) (d : Domain) (at number : ℕ) (i : Instr) (a : Register) (name : List ℕ) → StructsThere L d → slice_get d.lines at ≡ Some (record { line = number; form = line.Code i }) → i ≡ instr.New a name → Contains (map (λ (s : StructRow). s.name) L.tables.structs) name
new_named L d at number i a name there here is =
    let l : Numbered DomainLine = record { line = number; form = line.Code (instr.New a name) } in
    let line_is : slice_get d.lines at ≡ Some l = subst (λ (j : Instr). slice_get d.lines at ≡ Some (record { line = number; form = line.Code j })) is here in
    All-head (Contains (map (λ (s : StructRow). s.name) L.tables.structs)) name [] (there l (contains_at d.lines at l line_is))

-- ---- the frame

new_no_trap : (ty : ℕ) → NotTrap (action.New ty)
new_no_trap ty c e = cc

pub frame_makes : (L : LoadRows) (s : State) → Valid L → Laid L s → Fitting L s → (t ty fuel : ℕ) (frame : StackFrame) → ActsAs L s t (action.New ty) fuel frame → ty < length L.tables.structs
frame_makes L s valid laid fits t ty fuel frame doing = go doing.f.body refl where
  would : (d : Domain) (sight : Sight) (live : ℕ) (stand : Stand) → ActsAt d sight live fuel stand (action.New ty) → work d sight live stand ≡ Would (action.New ty)
  would d sight live stand (inl a) = absurd (new_no_trap ty cause.Fuel a.1)
  would d sight live stand (inr w) = w

  go : (b : FrameBody Action) → doing.f.body ≡ b → ty < length L.tables.structs
  go (body.Code at regs) is =
      let f : StackFrame = doing.f in
      let d : Domain = domain_of_instance L s f.instance in
      let keeps = keeps_rules L s f.instance valid fits doing.lives in
      let sight = sees L s f.instance valid laid fits doing.lives in
      let by : by_body L s doing.thread.fuel f (body.Code at regs) ≡ Acts (action.New ty) fuel frame = subst (λ b. by_body L s doing.thread.fuel f b ≡ Acts (action.New ty) fuel frame) is doing.by in
      let at_rest = settles_so L s f at doing.thread.fuel regs (action.New ty) fuel frame by in
      let runs : CodeRuns L s f at regs = (subst (BodyFits L s f []) is (body_fits L s valid valid.tables laid fits t (action.New ty) fuel frame doing)).1 in
      let settled = settle_keeps d (types_of L s) f.lent (seen L s f.instance) _ doing.thread.fuel (record { at = at; regs = regs }) (action.New ty) fuel at_rest.stand keeps sight runs.stands runs.parted at_rest.settles in
      let works = would d (seen L s f.instance) _ at_rest.stand settled.acts in
      let made = act_makes d (types_of L s) (seen L s f.instance) _ settled.instr at_rest.stand (action.New ty) keeps settled.fits settled.at works in
      let among = new_named L d at_rest.stand.at settled.at.number settled.instr made.0 made.1 (structs_there L valid (instance_load s f.instance)) settled.at.here made.2 in
      let same : ty ≡ struct_number L.tables made.1 = made.3 ∙ ap (λ (tables : Tables). struct_number tables made.1) (domain_tables L valid (instance_load s f.instance)) in
      let less = number_within L.tables made.1 among in
      omega (arith, same, less)
  go (body.Native holds kept) is =
      let kept' = native_kept L s doing.f doing.thread.fuel holds kept (action.New ty) fuel frame (subst (λ b. by_body L s doing.thread.fuel doing.f b ≡ Acts (action.New ty) fuel frame) is doing.by) (new_no_trap ty) in
      let can = (subst (BodyFits L s doing.f []) is (body_fits L s valid valid.tables laid fits t (action.New ty) fuel frame doing)).1 in
      let new : CanChoose L s doing.f holds (action.New ty) = subst (CanChoose L s doing.f holds) (sym kept'.1) can in
      in_list L.tables.structs ty new.struct new.row
