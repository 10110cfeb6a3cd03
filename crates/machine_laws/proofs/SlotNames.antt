-- The slots that domain code takes from and puts into have names.
use Rattle.std.proofs.Common.{◌≡◌, refl, sym, ◌∙◌, ap, subst, ℕ, ◌==◌, Bool, true, false, List, [], ◌∷◌, map, Option, Some, None, slice_get, is_some, unwrap_or}
use Rattle.std.specs.Prelude.{if◌then◌else◌}
use Rattle.rl_defs.specs.declared.tables.Kind.{Kind}
use Rattle.rl_defs.specs.declared.code.Register.{Register}
use Rattle.rl_defs.specs.declared.code.Instr.{Instr}
use Rattle.rl_defs.specs.declared.code.Instr.TheVariants as instr
use Rattle.rl_defs.specs.declared.code.DomainLine.{DomainLine}
use Rattle.rl_defs.specs.declared.code.DomainLine.TheVariants as line
use Rattle.rl_defs.specs.Domains.{Lines, slots_of, with_slot}
use Rattle.rl_defs.specs.DomainValue.{Domain}
use Rattle.rl_defs.specs.CodeNames.{slot_of_form, slots, place_in, slot_number}
use Rattle.rl_defs.specs.CodeRules.{KeepsRules, declares}
use Rattle.rl_defs.specs.Registers.{Typing, Registers, Stand}
use Rattle.machine_defs.specs.declared.frame.Action.{Action}
use Rattle.machine_defs.specs.declared.frame.Action.TheVariants as action
use Rattle.machine_defs.specs.declared.values.Cause.{Cause}
use Rattle.machine_defs.specs.declared.values.Cause.TheVariants as cause
use Rattle.machine_defs.specs.Sight.{Sight}
use Rattle.machine_defs.specs.CodeFits.{FitsStand}
use Rattle.machine_defs.specs.CodeLaws.{StandsAt}
use Rattle.machine_defs.specs.Instructions.{Outcome, Works, Jumps, Would, number_or_trap, unless_trap, setting, calculate, meaning, work, number_in, object_in, cell_kind, struct_in}
use Rattle.machine_defs.proofs.CodeSafe.{work_is, finds}
use Rattle.machine_defs.proofs.CodeStands.{keeps_at}
use Rattle.machine_laws.proofs.OwnFits.{place_holds}

-- the names of the slots, in the order of the text
slot_names : (lines : Lines) → map (λ d. d.name) (slots lines) ≡ slots_of lines
slot_names [] = refl
slot_names (l ∷ ls) = by_form l.form (slot_names ls)
  where
    by_form : (form : DomainLine) → map (λ d. d.name) (slots ls) ≡ slots_of ls → map (λ d. d.name) (slot_of_form form (slots ls)) ≡ with_slot form (slots_of ls)
    by_form (line.Slot name ty) same = ap (λ names. name ∷ names) same
    by_form other same = same

slot_named : (d : Domain) (slot : List ℕ) → is_some (place_in slot (slots d.lines)) ≡ true → slice_get (slots_of d.lines) (slot_number d slot) ≡ Some slot
slot_named d slot there = go (place_in slot (slots d.lines)) refl there
  where
    go : (k : Option ℕ) → place_in slot (slots d.lines) ≡ k → is_some k ≡ true → slice_get (slots_of d.lines) (slot_number d slot) ≡ Some slot
    go None is some = absurd cc
    go (Some k) is some =
        let number : slot_number d slot ≡ k = ap (λ o. unwrap_or o 0) is in
        rw number (subst (λ names. slice_get names k ≡ Some slot) (slot_names d.lines) (place_holds slot (map (λ x. x.name) (slots d.lines)) k is))

-- an action's slot has a name
abbrev pub IsNamed : Domain → Action → Type 0
IsNamed d (action.Take k) = (name : List ℕ) × (slice_get (slots_of d.lines) k ≡ Some name)
IsNamed d (action.Put k o) = (name : List ℕ) × (slice_get (slots_of d.lines) k ≡ Some name)
IsNamed d act = Unit {0}

abbrev NamedWhen : Domain → Outcome → Type 0
NamedWhen d (Would act) = IsNamed d act
NamedWhen d other = Unit {0}

number_named : (d : Domain) (regs : Registers) (a : Register) (c : Cause) (o : Option ℕ) → NamedWhen d (number_or_trap regs a c o)
number_named d regs a c None = tt
number_named d regs a c (Some v) = tt

unless_named : (d : Domain) (allowed : Bool) (c : Cause) (act : Action) → IsNamed d act → NamedWhen d (unless_trap allowed c act)
unless_named d true c act named = named
unless_named d false c act named = tt

jz_named : (d : Domain) (regs : Registers) (b : Bool) → NamedWhen d (if b then Jumps regs else Works regs)
jz_named d regs true = tt
jz_named d regs false = tt

set_named : (d : Domain) (cell : Option ℕ) (k : Kind) (q place value : ℕ) → NamedWhen d (setting cell k q place value)
set_named d None k q place value = tt
set_named d (Some old) k q place value = unless_named d _ cause.Range (action.Set q place (value ∷ [])) tt

named : (d : Domain) (n : ℕ) (sight : Sight) (live : ℕ) (regs : Registers) (i : Instr) → declares d (line.Code i) ≡ true → NamedWhen d (meaning d n sight live regs i)
named d n sight live regs (instr.Math o a b c) there = number_named d regs a cause.Divide (calculate o (number_in regs b) (number_in regs c))
named d n sight live regs (instr.Jz a label) there = jz_named d regs (number_in regs a == 0)
named d n sight live regs (instr.Get a o i) there = number_named d regs a cause.Bounds _
named d n sight live regs (instr.Wget a i) there = number_named d regs a cause.Bounds _
named d n sight live regs (instr.New a ty) there = unless_named d _ cause.HeapFull _ tt
named d n sight live regs (instr.Set o i v) there = set_named d (sight.cell (object_in regs o) (number_in regs i)) (cell_kind d.tables (struct_in sight regs o) (number_in regs i)) (object_in regs o) (number_in regs i) (number_in regs v)
named d n sight live regs (instr.Wput i v) there = unless_named d _ cause.Bounds _ tt
named d n sight live regs (instr.Take a slot) there = unless_named d _ cause.Empty (action.Take (slot_number d slot)) (slot, slot_named d slot there)
named d n sight live regs (instr.Put slot a) there = unless_named d _ cause.Full (action.Put (slot_number d slot) (object_in regs a)) (slot, slot_named d slot there)
named d n sight live regs (instr.DevGet o k) there = unless_named d _ cause.Device _ tt
named d n sight live regs (instr.DevPut k o) there = unless_named d _ cause.Device _ tt
named d n sight live regs (instr.Hang o place v) there = unless_named d _ cause.Full _ tt
named d n sight live regs (instr.Unhang a o place) there = unless_named d _ cause.Empty _ tt
named d n sight live regs (instr.Call c method args results e label) there = unless_named d _ cause.Range _ tt
named d n sight live regs (instr.Ret results) there = unless_named d _ cause.Range _ tt
named d n sight live regs i there = tt

-- what an instruction of a frame that fits would do, has a named slot
pub act_named : (d : Domain) (types : Typing) (sight : Sight) (live : ℕ) (i : Instr) (s : Stand) (act : Action) → KeepsRules d → FitsStand types d s → StandsAt d i s → work d sight live s ≡ Would act → IsNamed d act
act_named d types sight live i s act keeps stand at is =
    let means : meaning d s.at sight live s.regs i ≡ Would act = sym (work_is d sight live s at.number i at.here (finds d types s at.number i keeps stand at.here)) ∙ is in
    subst (NamedWhen d) means (named d s.at sight live s.regs i (keeps_at d s.at at.number (line.Code i) keeps at.here).declared)
