-- What the instruction of a frame of domain code means that would make an action, and the slot that it names.
use Rattle.std.proofs.Common.{◌≡◌, ℕ, ◌==◌, Bool, true, false, List, [], ◌∷◌, length, map, Option, Some, None, slice_get, is_some, unwrap_or, refl, sym, ap, subst, ◌∙◌, inl, inr}
use Rattle.std.specs.Prelude.{if◌then◌else◌}
use Rattle.std.specs.Option.{option_and_then}
use Rattle.rl_defs.specs.declared.load.LoadRows.{LoadRows}
use Rattle.rl_defs.specs.declared.tables.Kind.{Kind}
use Rattle.rl_defs.specs.declared.code.Register.{Register}
use Rattle.rl_defs.specs.declared.code.Instr.{Instr}
use Rattle.rl_defs.specs.declared.code.Instr.TheVariants as instr
use Rattle.rl_defs.specs.declared.code.DomainLine.{DomainLine}
use Rattle.rl_defs.specs.declared.code.DomainLine.TheVariants as line
use Rattle.rl_defs.specs.DomainValue.{Domain}
use Rattle.rl_defs.specs.Domains.{Lines, slots_of, with_slot as with_slot_name}
use Rattle.rl_defs.specs.CodeNames.{slot_of_form, slots as slots_declared, place_in, slot_number}
use Rattle.rl_defs.specs.CodeRules.{KeepsRules, declares}
use Rattle.rl_defs.specs.Registers.{Registers, Stand, Typing}
use Rattle.machine_defs.specs.declared.frame.Action.{Action}
use Rattle.machine_defs.specs.declared.frame.Action.TheVariants as action
use Rattle.machine_defs.specs.declared.frame.FrameBody.{FrameBody}
use Rattle.machine_defs.specs.declared.frame.FrameBody.TheVariants as body
use Rattle.machine_defs.specs.declared.values.Cause.{Cause}
use Rattle.machine_defs.specs.declared.values.Cause.TheVariants as cause
use Rattle.machine_defs.specs.Sight.{Sight}
use Rattle.machine_defs.specs.CodeFits.{FitsStand, stand_of}
use Rattle.machine_defs.specs.CodeLaws.{StandsAt, ComesTo, Acts as ActsAt}
use Rattle.machine_defs.specs.Frames.{instr_of_form}
use Rattle.machine_defs.specs.Instructions.{Outcome, Works, Jumps, Would, Settled, Before, number_or_trap, unless_trap, setting, calculate, meaning, work, number_in, object_in, cell_kind, struct_in}
use Rattle.machine_defs.specs.Seen.{domain_of_instance, seen, types_of}
use Rattle.machine_defs.specs.State.{State}
use Rattle.machine_defs.specs.Wants.{Acts, by_body}
use Rattle.machine_defs.proofs.CodeSafe.{settles, work_is, finds}
use Rattle.machine_defs.proofs.CodeStands.{keeps_at}
use Rattle.machine_laws.specs.Fitting.{BodyFits, CodeRuns}
use Rattle.machine_laws.proofs.CodeDoing.{NotTrap, keeps_rules, settles_so, body_fits}
use Rattle.machine_laws.proofs.OwnDoing.{native_kept}
use Rattle.machine_laws.proofs.OwnFits.{place_holds}
use Rattle.machine_laws.proofs.Sights.{sees}
use Rattle.code_machine.specs.Fitting.{standing}
use Rattle.machine_steps.specs.declared.machine.Machine.TheInside.{Inside}
use Rattle.machine_steps.specs.declared.standing.Standing.{Standing}
use Rattle.machine_steps.specs.Inside.{state_of, kept, IsKept}
use Rattle.machine_steps.specs.Acting.{WouldAct, at_standing}
use Rattle.machine_steps.specs.Slots.{slot_of_instr, slot_named}
use Rattle.machine_steps.proofs.Acting.{OnTop, on_top_of, holds}

-- an instruction stands there, its names are declared, and its meaning is that the action would be made
pub record MeansAct (L : LoadRows) (s : State) (i : ℕ) (act : Action) (x : Stand) : Type 0 where
  pub instr : Instr
  pub here : StandsAt (domain_of_instance L s i) instr x
  pub declared : declares (domain_of_instance L s i) (line.Code instr) ≡ true
  pub means : meaning (domain_of_instance L s i) x.at (seen L s i) (length s.objects) x.regs instr ≡ Would act

moved : (L : LoadRows) (s : State) {j i : ℕ} {made act : Action} {x y z : Stand} → j ≡ i → made ≡ act → x ≡ y → y ≡ z → MeansAct L s j made x → MeansAct L s i act z
moved L s {j} {i} {made} {act} {x} {y} {z} inside same stays stands m = subst (λ n. MeansAct L s n act z) inside (subst (λ v. MeansAct L s j act v) stands (subst (λ v. MeansAct L s j act v) stays (subst (λ a. MeansAct L s j a x) same m)))

same_ends : {found : Settled} {a b : Action} {m n : ℕ} {x y : Stand} → found ≡ Before a m x → found ≡ Before b n y → (a ≡ b) × (x ≡ y)
same_ends {found} {a} {b} {m} {n} {x} {y} is also = let e : Before a m x ≡ Before b n y = sym is ∙ also in (cc, cc)

means_so : (d : Domain) (types : Typing) (sight : Sight) (live : ℕ) (x : Stand) (i : Instr) (act : Action) → KeepsRules d → FitsStand types d x → StandsAt d i x → work d sight live x ≡ Would act → meaning d x.at sight live x.regs i ≡ Would act
means_so d types sight live x i act keeps fits at is = sym (work_is d sight live x at.number i at.here (finds d types x at.number i keeps fits at.here)) ∙ is

pub line_same : {at bt : ℕ} {regs rest : Registers} → ◌≡◌ {A = FrameBody Action} (body.Code at regs) (body.Code bt rest) → ◌≡◌ {A = Stand} (record { at = at; regs = regs }) (record { at = bt; regs = rest })
line_same same = ap stand_of same

module _ {w : Inside} (k : IsKept w) (t i : ℕ) (act : Action) (stand : Standing) (would : WouldAct (kept w) t i act stand) (no_trap : NotTrap act) where
  abbrev top_on : OnTop w t i act stand
  top_on = on_top_of k t i act stand would

  pub means_act : MeansAct w.load (state_of w) i act (standing stand.line stand.registers)
  means_act = go top_on.acts.f.body refl
    where
      L : LoadRows
      L = w.load

      s : State
      s = state_of w

      inside : top_on.acts.f.instance ≡ i
      inside = ap (λ f. f.instance) top_on.same ∙ sym top_on.inside

      works : (d : Domain) (sight : Sight) (fuel : ℕ) (x : Stand) (made : Action) → made ≡ act → ActsAt d sight (length s.objects) fuel x made → work d sight (length s.objects) x ≡ Would made
      works d sight fuel x made same (inl fails) = absurd (no_trap cause.Fuel (sym same ∙ fails.1))
      works d sight fuel x made same (inr would) = would

      go : (b : FrameBody Action) → top_on.acts.f.body ≡ b → MeansAct L s i act (standing stand.line stand.registers)
      go (body.Code at regs) is =
          let on = top_on.acts in
          let d : Domain = domain_of_instance L s on.f.instance in
          let sight : Sight = seen L s on.f.instance in
          let keeps = keeps_rules L s on.f.instance k.valid (holds k).fits on.lives in
          let by : by_body L s on.thread.fuel on.f (body.Code at regs) ≡ Acts act stand.fuel (at_standing top_on.frame stand) = subst (λ b. by_body L s on.thread.fuel on.f b ≡ Acts act stand.fuel (at_standing top_on.frame stand)) is on.by in
          let at_rest = settles_so L s on.f at on.thread.fuel regs act stand.fuel (at_standing top_on.frame stand) by in
          let runs : CodeRuns L s on.f at regs = (subst (BodyFits L s on.f []) is (body_fits L s k.valid k.valid.tables (holds k).laid (holds k).fits t act stand.fuel (at_standing top_on.frame stand) on)).1 in
          let c : ComesTo (types_of L s) d sight (length s.objects) on.thread.fuel (record { at = at; regs = regs }) = settles d (types_of L s) sight (length s.objects) on.thread.fuel (record { at = at; regs = regs }) keeps (sees L s on.f.instance k.valid (holds k).laid (holds k).fits on.lives) runs.stands in
          let same = same_ends c.settles at_rest.settles in
          let stands : at_rest.stand ≡ standing stand.line stand.registers = sym (line_same (ap (λ f. f.body) at_rest.frame_is)) in
          let works' = works d sight c.rest c.stand c.act same.0 c.acts in
          let means = means_so d (types_of L s) sight (length s.objects) c.stand c.instr c.act keeps c.fits c.at works' in
          let there : MeansAct L s on.f.instance c.act c.stand = record { instr = c.instr; here = c.at; declared = (keeps_at d c.stand.at c.at.number (line.Code c.instr) keeps c.at.here).declared; means = means } in
          moved L s inside same.0 same.1 stands there
      go (body.Native held chosen') is =
          let kept' = native_kept L s top_on.acts.f top_on.acts.thread.fuel held chosen' act stand.fuel (at_standing top_on.frame stand) (subst (λ b. by_body L s top_on.acts.thread.fuel top_on.acts.f b ≡ Acts act stand.fuel (at_standing top_on.frame stand)) is top_on.acts.by) no_trap in
          absurd (let e : ◌≡◌ {A = FrameBody Action} (body.Code stand.line stand.registers) (body.Native held chosen') = ap (λ f. f.body) kept'.0 ∙ is in cc)

-- ---- slots

-- the names of the slots, in the order of the text
slot_names : (lines : Lines) → map (λ d. d.name) (slots_declared lines) ≡ slots_of lines
slot_names [] = refl
slot_names (l ∷ ls) = by_form l.form (slot_names ls)
  where
    by_form : (form : DomainLine) → map (λ d. d.name) (slots_declared ls) ≡ slots_of ls → map (λ d. d.name) (slot_of_form form (slots_declared ls)) ≡ with_slot_name form (slots_of ls)
    by_form (line.Slot name ty) same = ap (λ names. name ∷ names) same
    by_form other same = same

slot_is : (d : Domain) (slot : List ℕ) → is_some (place_in slot (slots_declared d.lines)) ≡ true → slice_get (slots_of d.lines) (slot_number d slot) ≡ Some slot
slot_is d slot there = go (place_in slot (slots_declared d.lines)) refl there
  where
    go : (k : Option ℕ) → place_in slot (slots_declared d.lines) ≡ k → is_some k ≡ true → slice_get (slots_of d.lines) (slot_number d slot) ≡ Some slot
    go None is some = absurd cc
    go (Some k) is some =
        let number : slot_number d slot ≡ k = ap (λ o. unwrap_or o 0) is in
        rw number (subst (λ names. slice_get names k ≡ Some slot) (slot_names d.lines) (place_holds slot (map (λ x. x.name) (slots_declared d.lines)) k is))

-- the instruction names the slot of its action
pub record NamesSlot (d : Domain) (i : Instr) (slot : ℕ) : Type 0 where
  pub name : List ℕ
  pub said : slot_of_instr i ≡ Some name
  pub is : slice_get (slots_of d.lines) slot ≡ Some name

abbrev pub ActNames : Domain → Instr → Action → Type 0
ActNames d i (action.Take slot) = NamesSlot d i slot
ActNames d i (action.Put slot o) = NamesSlot d i slot
ActNames d i act = Unit {0}

abbrev WhenNames : Domain → Instr → Outcome → Type 0
WhenNames d i (Would act) = ActNames d i act
WhenNames d i other = Unit {0}

number_names : (d : Domain) (i : Instr) (regs : Registers) (a : Register) (c : Cause) (o : Option ℕ) → WhenNames d i (number_or_trap regs a c o)
number_names d i regs a c None = tt
number_names d i regs a c (Some v) = tt

unless_names : (d : Domain) (i : Instr) (allowed : Bool) (c : Cause) (act : Action) → ActNames d i act → WhenNames d i (unless_trap allowed c act)
unless_names d i true c act names = names
unless_names d i false c act names = tt

jump_names : (d : Domain) (i : Instr) (regs : Registers) (b : Bool) → WhenNames d i (if b then Jumps regs else Works regs)
jump_names d i regs true = tt
jump_names d i regs false = tt

set_names : (d : Domain) (i : Instr) (cell : Option ℕ) (k : Kind) (q place value : ℕ) → WhenNames d i (setting cell k q place value)
set_names d i None k q place value = tt
set_names d i (Some old) k q place value = unless_names d i _ cause.Range (action.Set q place (value ∷ [])) tt

meaning_names : (d : Domain) (n : ℕ) (sight : Sight) (live : ℕ) (regs : Registers) (i : Instr) → declares d (line.Code i) ≡ true → WhenNames d i (meaning d n sight live regs i)
meaning_names d n sight live regs (instr.Math o a b c) there = number_names d (instr.Math o a b c) regs a cause.Divide (calculate o (number_in regs b) (number_in regs c))
meaning_names d n sight live regs (instr.Jz a label) there = jump_names d (instr.Jz a label) regs (number_in regs a == 0)
meaning_names d n sight live regs (instr.Get a o i) there = number_names d (instr.Get a o i) regs a cause.Bounds _
meaning_names d n sight live regs (instr.Wget a i) there = number_names d (instr.Wget a i) regs a cause.Bounds _
meaning_names d n sight live regs (instr.New a ty) there = unless_names d (instr.New a ty) _ cause.HeapFull _ tt
meaning_names d n sight live regs (instr.Set o i v) there = set_names d (instr.Set o i v) (sight.cell (object_in regs o) (number_in regs i)) (cell_kind d.tables (struct_in sight regs o) (number_in regs i)) (object_in regs o) (number_in regs i) (number_in regs v)
meaning_names d n sight live regs (instr.Wput i v) there = unless_names d (instr.Wput i v) _ cause.Bounds _ tt
meaning_names d n sight live regs (instr.Take a slot) there = unless_names d (instr.Take a slot) _ cause.Empty (action.Take (slot_number d slot)) (record { name = slot; said = refl; is = slot_is d slot there })
meaning_names d n sight live regs (instr.Put slot a) there = unless_names d (instr.Put slot a) _ cause.Full (action.Put (slot_number d slot) (object_in regs a)) (record { name = slot; said = refl; is = slot_is d slot there })
meaning_names d n sight live regs (instr.DevGet o k) there = unless_names d (instr.DevGet o k) _ cause.Device _ tt
meaning_names d n sight live regs (instr.DevPut k o) there = unless_names d (instr.DevPut k o) _ cause.Device _ tt
meaning_names d n sight live regs (instr.Hang o place v) there = unless_names d (instr.Hang o place v) _ cause.Full _ tt
meaning_names d n sight live regs (instr.Unhang a o place) there = unless_names d (instr.Unhang a o place) _ cause.Empty _ tt
meaning_names d n sight live regs (instr.Call c method args results e label) there = unless_names d (instr.Call c method args results e label) _ cause.Range _ tt
meaning_names d n sight live regs (instr.Ret results) there = unless_names d (instr.Ret results) _ cause.Range _ tt
meaning_names d n sight live regs i there = tt

-- so does the instruction that stands there
pub means_names : {L : LoadRows} {s : State} {i : ℕ} {act : Action} {x : Stand} (m : MeansAct L s i act x) → ActNames (domain_of_instance L s i) m.instr act
means_names {L} {s} {i} {act} {x} m = subst (WhenNames (domain_of_instance L s i) m.instr) m.means (meaning_names (domain_of_instance L s i) x.at (seen L s i) (length s.objects) x.regs m.instr m.declared)

pub named_so : {L : LoadRows} {s : State} {i : ℕ} {act : Action} {x : Stand} (m : MeansAct L s i act x) → slot_named (domain_of_instance L s i) x.at ≡ slot_of_instr m.instr
named_so m = ap (λ l. option_and_then slot_of_instr (option_and_then (λ y. instr_of_form y.form) l)) m.here.here
