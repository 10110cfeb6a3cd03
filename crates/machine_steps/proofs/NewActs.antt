-- A frame makes an object.
use Rattle.std.proofs.Common.{◌≡◌, ℕ, zero, suc, ◌+◌, ◌-◌, ◌<◌, ◌⊎◌, Bool, true, false, List, [], ◌∷◌, ◌++◌, length, map, replicate, Option, Some, None, slice_get, unwrap_or, refl, sym, ap, subst, ◌∙◌, arith, inl, inr, ltb-true}
use Rattle.std.specs.List.{slice_index_or, list_any, All, Contains}
use Rattle.std.specs.Option.{option_and_then}
use Rattle.std.proofs.lemmas.List.{length-append, length-map}
use Rattle.rl_defs.specs.declared.bundle.Numbered.{Numbered}
use Rattle.rl_defs.specs.declared.code.Instr.{Instr}
use Rattle.rl_defs.specs.declared.code.Instr.TheVariants as instr
use Rattle.rl_defs.specs.declared.code.DomainLine.{DomainLine}
use Rattle.rl_defs.specs.declared.code.DomainLine.TheVariants as line
use Rattle.rl_defs.specs.declared.code.Register.{Register}
use Rattle.rl_defs.specs.declared.load.LoadRows.{LoadRows}
use Rattle.rl_defs.specs.declared.tables.Kind.{Kind}
use Rattle.rl_defs.specs.declared.tables.StructRow.{StructRow}
use Rattle.rl_defs.specs.CodeKinds.{Kinds, kinds_at}
use Rattle.rl_defs.specs.CodeNames.{cells_of, flat_of, slot_number, struct_number, structs_used}
use Rattle.rl_defs.specs.DomainValue.{Domain}
use Rattle.rl_defs.specs.Registers.{Registers, Stand, Typing}
use Rattle.rl_defs.specs.Rows.{row, domain_of_load}
use Rattle.rl_defs.specs.Valid.{Valid}
use Rattle.rl_defs.proofs.Lists.{all_at, at_contained, contains_at, in_list, list_at}
use Rattle.rl_defs.proofs.NamePlaces.{place_there, there_place}
use Rattle.rl_defs.proofs.ValidFacts.{domain_tables, each_domain}
use Rattle.machine_defs.specs.declared.values.Cause.{Cause}
use Rattle.machine_defs.specs.declared.values.Cause.TheVariants as cause
use Rattle.machine_defs.specs.declared.values.Owner.{Owner}
use Rattle.machine_defs.specs.declared.values.Owner.TheVariants as owner
use Rattle.machine_defs.specs.declared.entry.Entry.TheVariants as entry
use Rattle.machine_defs.specs.declared.frame.Action.{Action}
use Rattle.machine_defs.specs.declared.frame.Action.TheVariants as action
use Rattle.machine_defs.specs.declared.frame.Answer.TheVariants as answer
use Rattle.machine_defs.specs.declared.frame.FrameBody.{FrameBody}
use Rattle.machine_defs.specs.declared.frame.FrameBody.TheVariants as body
use Rattle.machine_defs.specs.LogValue.{LogValue}
use Rattle.machine_defs.specs.Sight.{Sight}
use Rattle.machine_defs.specs.Calling.{is_undone}
use Rattle.machine_defs.specs.CodeFits.{FitsAnswer}
use Rattle.machine_defs.specs.CodeLaws.{StandsAt}
use Rattle.machine_defs.specs.Frames.{instr_of_form}
use Rattle.machine_defs.specs.Instructions.{Would, meaning, object_in, unless_trap}
use Rattle.machine_defs.specs.Loans.{loans, object_of}
use Rattle.machine_defs.specs.Objects.{fresh_object, with_new}
use Rattle.machine_defs.specs.ObjectRows.{FrameMakes}
use Rattle.machine_defs.specs.Seen.{domain_of_instance, seen, types_of}
use Rattle.machine_defs.specs.Sound.{Sound}
use Rattle.machine_defs.specs.State.{State, Object, StackFrame, Thread, Root, instance_load, is_live}
use Rattle.machine_defs.specs.Steps.{Row}
use Rattle.machine_defs.specs.Wants.{Acts, by_body}
use Rattle.machine_laws.proofs.CallSteps.{not_waiting}
use Rattle.machine_laws.proofs.FrameRows.{actor, actor_inside, doing}
use Rattle.machine_laws.proofs.FrameSteps.{new_answer, new_load}
use Rattle.machine_laws.proofs.Instances.{live_there}
use Rattle.machine_laws.proofs.Objects.{found_number}
use Rattle.machine_laws.proofs.OwnDoing.{acting_code, native_kept}
use Rattle.machine_laws.proofs.OwnEntries.{stand_retyped}
use Rattle.machine_laws.proofs.Rows.{row_within}
use Rattle.rref_heap.specs.Changing.{new_row, with_new_object}
use Rattle.rref_heap.specs.HeapValue.{HeapRow, HeapRows, HeapValue, Room, heap_objects, is_rref, room_of, row_of}
use Rattle.rref_heap.proofs.Objects.{objects_append}
use Rattle.trampolines.specs.Laid.{Laid}
use Rattle.code_machine.specs.Fitting.{Awaits, standing}
use Rattle.machine_steps.specs.declared.machine.Machine.TheInside.{Inside}
use Rattle.machine_steps.specs.declared.standing.Standing.{Standing}
use Rattle.machine_steps.specs.Kept.{MayStep, Agrees, AgreesAt}
use Rattle.machine_steps.specs.Inside.{state_of, kept, IsKept}
use Rattle.machine_steps.specs.Known.{Known}
use Rattle.machine_steps.specs.Acting.{WouldAct, at_standing, domain_in}
use Rattle.machine_steps.proofs.Stepping.{Stepped, goes_quietly}
use Rattle.machine_steps.proofs.Acting.{CodeActs, code_acts, answered_state, does, same_parts, holds, ledger}
use Rattle.machine_steps.proofs.ActSteps.{GoneOn, frames_so, threads_so, logged_so}
use Rattle.machine_steps.proofs.Meanings.{MeansAct, means_act, line_same}

-- ---- the struct of the new object

-- an instruction that makes an object of a struct names it
pub record NamesStruct (d : Domain) (i : Instr) (ty : ℕ) : Type 0 where
  pub register : Register
  pub name : List ℕ
  pub said : i ≡ instr.New register name
  pub is : ty ≡ struct_number d.tables name

-- what may also trap is no other action
other_act : (allowed : Bool) (c : Cause) (act other : Action) → unless_trap allowed c act ≡ Would other → (act ≡ other → ⊥) → (action.Trap c ≡ other → ⊥) → ⊥
other_act true c act other is no_act no_trap = no_act (let e : act ≡ other = cc in e)
other_act false c act other is no_act no_trap = no_trap (let e : action.Trap c ≡ other = cc in e)

new_said : (ty : ℕ) (made : Action) (allowed : Bool) (c : Cause) (named : ℕ) → made ≡ action.New named → unless_trap allowed c made ≡ Would (action.New ty) → ty ≡ named
new_said ty made true c named same is = let e : action.New named ≡ action.New ty = sym same ∙ cc in cc
new_said ty made false c named same is = absurd cc

names_struct : (d : Domain) (n : ℕ) (sight : Sight) (live : ℕ) (regs : Registers) (kinds : Kinds) (ty : ℕ) (i : Instr) → meaning d n sight live regs i ≡ Would (action.New ty)
    → ((other : Typing) (o : ℕ) → other.struct_of o ≡ ty → FitsAnswer other d kinds i (answer.Made o)) → NamesStruct d i ty
names_struct d n sight live regs kinds ty (instr.New a name) means fits = record { register = a; name = name; said = refl; is = new_said ty (action.New (struct_number d.tables name)) _ cause.HeapFull (struct_number d.tables name) refl means }
names_struct d n sight live regs kinds ty (instr.Take a slot) means fits = absurd (other_act _ cause.Empty (action.Take (slot_number d slot)) (action.New ty) means (λ e. cc) (λ e. cc))
names_struct d n sight live regs kinds ty (instr.Unhang a o place) means fits = absurd (other_act _ cause.Empty (action.Unhang (object_in regs o) place) (action.New ty) means (λ e. cc) (λ e. cc))
names_struct d n sight live regs kinds ty i means fits = absurd (fits (record { struct_of = λ o. ty; trait_of = λ x. 0 }) 0 refl)

-- each struct that a line of a load's domain names is one of the tables
abbrev NamesKnown : LoadRows → Domain → Type 0
NamesKnown L d = (at : ℕ) (x : Numbered DomainLine) → slice_get d.lines at ≡ Some x → All (Contains (map (λ s. s.name) L.tables.structs)) (structs_used x.form)

names_known : (L : LoadRows) → Valid L → (load : ℕ) → NamesKnown L (domain_of_load L load)
names_known L valid load = each_domain L valid (NamesKnown L) (λ at x e. absurd cc) (λ d is at x e. is.structs x (contains_at d.lines at x e)) load

same_instr : {d : Domain} {i j : Instr} {x : Stand} → StandsAt d i x → StandsAt d j x → i ≡ j
same_instr {d} {i} {j} {x} a b = let e : Some i ≡ Some j = ap (λ l. option_and_then (λ y. instr_of_form y.form) l) (sym a.here ∙ b.here) in cc

same_instance : {i j : ℕ} → owner.Instance i ≡ owner.Instance j → i ≡ j
same_instance same = cc

same_acts : {a b : Action} {m n : ℕ} {f g : StackFrame} → Acts a m f ≡ Acts b n g → f ≡ g
same_acts same = cc

-- ---- the row of the new object

index_append : (rows : HeapRows) (x : Option HeapRow) (j : ℕ) (r : HeapRow) → slice_index_or (rows ++ x ∷ []) j None ≡ Some r → (slice_index_or rows j None ≡ Some r) ⊎ ((j ≡ length rows) × (x ≡ Some r))
index_append [] x zero r is = inr (refl, is)
index_append [] x (suc j) r is = absurd cc
index_append (y ∷ rows) x zero r is = inl is
index_append (y ∷ rows) x (suc j) r is = elim (index_append rows x j r is) [ inl old ↦ inl old | inr new ↦ inr (omega (arith, new.0), new.1) ]

pub row_append : (rows : HeapRows) (x : Option HeapRow) (o : ℕ) (r : HeapRow) → row_of (rows ++ x ∷ []) o ≡ Some r → (row_of rows o ≡ Some r) ⊎ ((o ≡ length rows + 1) × (x ≡ Some r))
row_append rows x zero r is = absurd cc
row_append rows x (suc j) r is = elim (index_append rows x j r is) [ inl old ↦ inl old | inr new ↦ inr (omega (arith, new.0), new.1) ]

abbrev blank_object : ℕ → ℕ → Owner → ℕ → Object
blank_object o ty v n = record { number = o; ty = ty; placement = Root v; cells = replicate n 0 }

pub new_object : (L : LoadRows) (o ty : ℕ) (v : Owner) (kinds : List Kind) → cells_of L.tables ty ≡ kinds → (new_row o ty v (room_of kinds)).object ≡ fresh_object L o ty v []
new_object L o ty v kinds same =
    let n : length kinds ≡ length (cells_of L.tables ty) - 0 = (let e : length (cells_of L.tables ty) ≡ length kinds = ap length same in omega (arith, e)) in
    ap (blank_object o ty v) n

-- the heap with one more object
abbrev pub grown_heap : HeapValue → ℕ → Owner → List Kind → HeapValue
grown_heap heap ty v kinds = record heap { rows = heap.rows ++ Some (new_row (length heap.rows + 1) ty v (room_of kinds)) ∷ []; ready = None }

module _ {w : Inside} (k : IsKept w) (known : Known) where
  -- what isn't there yet isn't lent
  pub next_unlent : loans (state_of w) (length w.heap.rows + 1) ≡ 0
  next_unlent = go (loans (state_of w) (length w.heap.rows + 1)) refl
    where
      sound : Sound w.load (state_of w)
      sound = known.sound w.load w.log.entries (state_of w) k.valid k.run

      go : (n : ℕ) → loans (state_of w) (length w.heap.rows + 1) ≡ n → n ≡ 0
      go zero is = refl
      go (suc n) is =
          let root = sound.lent.roots (length w.heap.rows + 1) (omega (arith, is)) in
          let number : root.1.0.number ≡ length w.heap.rows + 1 = found_number (length w.heap.rows + 1) (state_of w).objects root.1.0 root.1.1 in
          let below = (sound.numbers.objects root.1.0 (ap (object_of (state_of w)) number ∙ root.1.1)).1 in
          absurd (omega (arith, number, below))

  pub agrees_grown : (z : State) (ty : ℕ) (v : Owner) (kinds : List Kind) → cells_of w.load.tables ty ≡ kinds → ((o : ℕ) → loans z o ≡ loans (state_of w) o) → Agrees w.load z (grown_heap w.heap ty v kinds).rows
  agrees_grown z ty v kinds same lent o r here = elim (row_append w.heap.rows (Some (new_row (length w.heap.rows + 1) ty v (room_of kinds))) o r here) [
    | inl old ↦ let at = k.agrees o r old in record { lent = at.lent ∙ sym (lent o); nests = at.nests; stays = at.stays }
    | inr new ↦
        let is : new_row (length w.heap.rows + 1) ty v (room_of kinds) ≡ r = cc in
        let none : loans z o ≡ 0 = lent o ∙ (ap (loans (state_of w)) new.0 ∙ next_unlent) in
        subst (AgreesAt w.load z o) is (record { lent = sym none; nests = ap (list_any is_rref) (sym same); stays = refl })
  ]

  -- where no memory was got the room that was reserved is gone, or there is room for an object
  pub kept_ready : {heap : HeapValue} (ready : Option Room) → heap ≡ record w.heap { ready = ready } → IsKept (record w { heap = heap })
  kept_ready ready is =
      subst (λ h. IsKept (record w { heap = h })) (sym is) (record {
        valid = k.valid;
        run = k.run;
        turns = k.turns;
        agrees = k.agrees;
        rooms = record { log = k.rooms.log; counts = k.rooms.counts; clients = k.rooms.clients; owners = k.rooms.owners };
        found = k.found;
        code = k.code;
      })

module _ {w : Inside} (k : IsKept w) (t i ty : ℕ) (stand : Standing) (would : WouldAct (kept w) t i (action.New ty) stand) where
  pub new_acts : CodeActs w t i (action.New ty) stand
  new_acts = code_acts k t i (action.New ty) stand would (λ c same. cc)

  abbrev next : ℕ
  next = length w.heap.rows + 1

  abbrev new_made : State
  new_made = with_new w.load ty (owner.Instance i) [] (answered_state w new_acts.on (answer.Made next))

  abbrev new_makes : FrameMakes w.load (state_of w) t (owner.Instance i) next ty [] new_made
  new_makes = record { inside = i; mine = refl; blank = refl; does = does new_acts (answer.Made next) (with_new w.load ty (owner.Instance i) []) (λ m. refl) }

  pub new_row_of : Row w.load (state_of w) (entry.New t (owner.Instance i) next ty []) new_made
  new_row_of = record { number = refl; makes = inr new_makes }

  -- the struct is one of the tables
  new_named : (m : MeansAct w.load (state_of w) i (action.New ty) (standing stand.line stand.registers)) → NamesStruct (domain_in w.load w.instances i) m.instr ty
  new_named m =
      let same : new_acts.instr ≡ m.instr = same_instr new_acts.here m.here in
      let d : Domain = domain_in w.load w.instances i in
      names_struct d stand.line (seen w.load (state_of w) i) (length (state_of w).objects) stand.registers (kinds_at d stand.line) ty m.instr m.means
      (λ other o is. subst (λ x. FitsAnswer other d (kinds_at d stand.line) x (answer.Made o)) same (new_acts.can.1 other o is))

  new_within : (m : MeansAct w.load (state_of w) i (action.New ty) (standing stand.line stand.registers)) → NamesStruct (domain_in w.load w.instances i) m.instr ty → ty < length w.load.tables.structs
  new_within m n =
      let names : List (List ℕ) = map (λ (x : StructRow). x.name) w.load.tables.structs in
      let tables = domain_tables w.load k.valid (instance_load (state_of w) i) in
      let here : slice_get (domain_in w.load w.instances i).lines stand.line ≡ Some (record { line = m.here.number; form = line.Code (instr.New n.register n.name) }) = m.here.here ∙ ap (λ x. Some (record { line = m.here.number; form = line.Code x })) n.said in
      let used = names_known w.load k.valid (instance_load (state_of w) i) stand.line (record { line = m.here.number; form = line.Code (instr.New n.register n.name) }) here in
      let at = at_contained names n.name (all_at (Contains names) (n.name ∷ []) 0 n.name used refl) in
      let p = there_place n.name names at.0 at.1 in
      let few = in_list names p.0 n.name (place_there n.name names p.0 p.1) in
      let is : ty ≡ p.0 = n.is ∙ (ap (λ x. struct_number x n.name) tables ∙ ap (λ (x : Option ℕ). unwrap_or x 0) p.1) in
      omega (arith, is, few, length-map w.load.tables.structs (λ (x : StructRow). x.name))

  pub new_struct : (of : StructRow) × (slice_get w.load.tables.structs ty ≡ Some of)
  new_struct =
      let m = means_act k t i (action.New ty) stand would (λ c same. cc) in
      list_at w.load.tables.structs ty (new_within m (new_named m))

  -- the frame may get the number of the new object
  pub new_awaits : MayStep (kept w) t → Awaits (domain_in w.load w.instances i) (standing stand.line stand.registers) (answer.Made next)
  new_awaits may = go frame.body refl
    where
      L : LoadRows
      L = w.load

      s : State
      s = state_of w

      undone : is_undone (row s.threads t) ≡ true
      undone = (not_waiting L s t may.enabled).0

      frame : StackFrame
      frame = actor (holds k).laid undone new_makes.does

      inside : frame.instance ≡ i
      inside = same_instance (actor_inside (holds k).laid undone new_makes.does)

      same_frame : new_makes.does.frame ≡ at_standing new_acts.on.frame stand
      same_frame = same_acts (sym new_makes.does.wants ∙ new_acts.on.wants)

      go : (b : FrameBody Action) → frame.body ≡ b → Awaits (domain_in w.load w.instances i) (standing stand.line stand.registers) (answer.Made next)
      go (body.Code at regs) is =
          let load' = new_load L s new_made t k.valid k.valid.tables (holds k).laid (ledger k).owned (holds k).fits undone (owner.Instance i) next ty [] refl new_makes in
          let a = new_answer L s new_made t k.valid k.valid.tables (holds k).laid (ledger k).owned (holds k).fits undone (owner.Instance i) next ty [] refl new_makes at regs is in
          let c = acting_code k.valid k.valid.tables (holds k).laid (ledger k).owned (holds k).fits undone new_makes.does tt load' at regs is in
          let stands : c.at_rest.stand ≡ standing stand.line stand.registers = sym (line_same (ap (λ f. f.body) (sym same_frame ∙ c.at_rest.frame_is))) in
          let d : Domain = domain_of_instance L s frame.instance in
          let here : Awaits d c.at_rest.stand (answer.Made next) = record { types = a.types; instr = c.instr; at = c.here; fits = inl (stand_retyped (types_of L s) a.types d c.at_rest.stand a.re c.fits); answer = a.fits } in
          subst (λ j. Awaits (domain_of_instance L s j) (standing stand.line stand.registers) (answer.Made next)) inside (subst (λ x. Awaits d x (answer.Made next)) stands here)
      go (body.Native held chosen') is =
          let on = doing (holds k).laid undone new_makes.does in
          let kept' = native_kept L s frame on.thread.fuel held chosen' (action.New ty) new_makes.does.fuel new_makes.does.frame (subst (λ b. by_body L s on.thread.fuel frame b ≡ Acts (action.New ty) new_makes.does.fuel new_makes.does.frame) is on.by) (λ c same. cc) in
          absurd (let e : ◌≡◌ {A = FrameBody Action} (body.Code stand.line stand.registers) (body.Native held chosen') = ap (λ f. f.body) (sym same_frame ∙ kept'.0) ∙ is in cc)

  -- there is room for one more object of this owner
  pub new_few : length (heap_objects w.heap.rows) < 65536
  new_few = ltb-true (length (heap_objects w.heap.rows)) 65536 new_acts.can.0

  pub new_owner : i < w.heap.instances
  new_owner =
      let lives : is_live (state_of w) i ≡ true = subst (λ j. is_live (state_of w) j ≡ true) (ap (λ f. f.instance) new_acts.on.same ∙ sym new_acts.on.inside) new_acts.on.acts.lives in
      let x = live_there (state_of w) i lives in
      let within = (row_within w.instances i x.0 x.1).1 in
      omega (arith, within, k.rooms.owners)

  pub new_goes : Known → MayStep (kept w) t → {of : StructRow} {ready after : HeapValue} {log : LogValue} {stacks : Laid Action} {threads : List Thread}
      → slice_get w.load.tables.structs ty ≡ Some of → ready ≡ record w.heap { ready = Some (room_of of.flat) } → after ≡ with_new_object ready ty (owner.Instance i)
      → {o : ℕ} {values : List ℕ} → o ≡ next → values ≡ [] → GoneOn w t i stand (answer.Made o) (entry.New t (owner.Instance i) o ty values) log stacks threads
      → Stepped w (record w { log = log; heap = after; stacks = stacks; threads = threads }) (entry.New t (owner.Instance i) next ty [])
  new_goes known may {of} {ready} {after} {log} {stacks} {threads} struct reserved made {o} {values} number none gone =
      let on : GoneOn w t i stand (answer.Made next) (entry.New t (owner.Instance i) next ty []) log stacks threads =
      subst (λ n. GoneOn w t i stand (answer.Made n) (entry.New t (owner.Instance i) n ty []) log stacks threads) number
      (subst (λ vs. GoneOn w t i stand (answer.Made o) (entry.New t (owner.Instance i) o ty vs) log stacks threads) none gone) in
      let same : cells_of w.load.tables ty ≡ of.flat = ap flat_of struct in
      let is : after ≡ grown_heap w.heap ty (owner.Instance i) of.flat = made ∙ ap (λ h. with_new_object h ty (owner.Instance i)) reserved in
      let row : HeapRow = new_row next ty (owner.Instance i) (room_of of.flat) in
      let objects : heap_objects after.rows ≡ heap_objects w.heap.rows ++ fresh_object w.load next ty (owner.Instance i) [] ∷ [] =
      ap (λ h. heap_objects h.rows) is ∙ (objects_append w.heap.rows row ∙ ap (λ x. heap_objects w.heap.rows ++ x ∷ []) (new_object w.load next ty (owner.Instance i) of.flat same)) in
      let count : length (w.heap.rows ++ Some row ∷ []) ≡ length w.heap.rows + 1 = length-append w.heap.rows (Some row ∷ []) in
      let many : length after.rows + 1 ≡ length w.heap.rows + 1 + 1 = ap (λ h. length h.rows + 1) is ∙ ap (λ n. n + 1) count in
      let clients : after.clients ≡ w.heap.clients = ap (λ h. h.clients) is in
      let owners : after.instances ≡ w.heap.instances = ap (λ h. h.instances) is in
      let lent = known.loans w.load w.log.entries (state_of w) new_made (entry.New t (owner.Instance i) next ty []) k.valid k.run may.enabled new_row_of in
      goes_quietly known (entry.New t (owner.Instance i) next ty []) new_made k may new_row_of refl
      (same_parts refl objects (frames_so k new_acts on) (threads_so k new_acts on) refl refl many refl)
      (logged_so k new_acts on (omega (arith, clients)) (omega (arith, owners)) refl)
      (subst (λ h. Agrees w.load new_made h.rows) (sym is) (agrees_grown k known new_made ty (owner.Instance i) of.flat same lent))
