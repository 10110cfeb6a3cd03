-- An instruction of domain code that keeps the rules leaves registers that fit where it goes on.
use Rattle.std.proofs.Common.{◌≡◌, refl, sym, ◌∙◌, ap, subst, ℕ, zero, suc, ◌+◌, ◌<◌, ◌==◌, Bool, true, false, List, [], ◌∷◌, length, map, Option, Some, None, slice_get, arith, unwrap_or, is_some, inl, inr}
use Rattle.std.specs.Prelude.{if◌then◌else◌, nat_eq}
use Rattle.std.specs.Cmp.Lexicographic.{pointwise}
use Rattle.std.proofs.lemmas.List.{length-map}
use Rattle.std.specs.Option.{option_map}
use Rattle.std.proofs.lemmas.Bool.{eq-eqb}
use Rattle.rl_defs.specs.declared.values.Value.TheVariants as value
use Rattle.machine_defs.specs.declared.values.Cause.{Cause}
use Rattle.machine_defs.specs.declared.values.Cause.TheVariants as cause
use Rattle.machine_defs.specs.declared.frame.Action.{Action}
use Rattle.machine_defs.specs.declared.frame.Action.TheVariants as action
use Rattle.rl_defs.specs.declared.code.Register.{Register}
use Rattle.rl_defs.specs.declared.code.RegKind.{RegKind}
use Rattle.rl_defs.specs.declared.code.RegKind.TheVariants as held
use Rattle.rl_defs.specs.declared.code.Instr.{Instr}
use Rattle.rl_defs.specs.declared.code.Instr.TheVariants as instr
use Rattle.rl_defs.specs.declared.code.DomainLine.TheVariants as line
use Rattle.rl_defs.specs.declared.tables.Kind.{Kind}
use Rattle.machine_defs.specs.Sight.{Sight}
use Rattle.rl_defs.specs.DomainValue.{Domain}
use Rattle.rl_defs.specs.DomainParts.{ends}
use Rattle.rl_defs.specs.Interfaces.{place_of}
use Rattle.rl_defs.specs.CodeNames.{Declared, imports, place_in, type_at, trait_number, import_trait}
use Rattle.rl_defs.specs.CodeKinds.{Kinds, kinds_at, kind_in, with_kind, is_own, Owned, leave, after, at_label}
use Rattle.rl_defs.specs.CodeRules.{meets, reads_are_met, operands_suit, declares}
use Rattle.rl_defs.specs.CodeNames.{label_of}
use Rattle.rl_defs.specs.Registers.{Registers, value_in, with_value, Stand, behind_heads}
use Rattle.machine_defs.specs.Instructions.{with_number, number_in, object_in, struct_in, cell_kind, Outcome, Works, Jumps, Would, Stuck, number_or_trap, unless_trap, setting, calculate, meaning, guarded, line_meaning, work, jumped, go_on, settle, reads_are_held}
use Rattle.rl_defs.specs.CodeRules.{KeepsRules}
use Rattle.rl_defs.specs.Registers.{Typing, Fits}
use Rattle.machine_defs.specs.CodeFits.{FitsStand, FitsSight}
use Rattle.machine_defs.specs.CodeLaws.{ComesTo, NeverStuck, AlwaysSettles}
use Rattle.machine_defs.proofs.CodeRegisters.{and_left, Fine, set_fine, reads_held}
use Rattle.machine_defs.proofs.CodeStands.{keeps_at, FitsCode, comes_to_code, stands_next, stands_jumped}
use Rattle.machine_defs.proofs.CodeWidths.{length-kinds_at}

-- where an outcome leads, the registers fit
abbrev pub Safe : Typing → Domain → Kinds → Instr → Outcome → Type 0
Safe types d kinds i (Works regs) = Fits types (after d kinds i) regs × (ends i ≡ false)
Safe types d kinds i (Jumps regs) = Fits types (at_label kinds i) regs × ((label : List ℕ) × (label_of i ≡ Some label))
Safe types d kinds i (Would act) = Unit {0}
Safe types d kinds i Stuck = ⊥

-- a number is put into a register, where there is one
number_safe : (types : Typing) (d : Domain) (kinds : Kinds) (i : Instr) (regs : Registers) (a : Register) (c : Cause) (n : Option ℕ) → Fine types kinds regs → after d kinds i ≡ with_kind kinds a held.Num → ends i ≡ false → Safe types d kinds i (number_or_trap regs a c n)
number_safe types d kinds i regs a c None fine is goes = tt
number_safe types d kinds i regs a c (Some n) fine is goes = (subst (λ k. Fits types k (with_number regs a n)) (sym is) (set_fine types kinds regs a held.Num (Some (value.Num n)) fine refl).fits, goes)

jz_safe : (types : Typing) (d : Domain) (kinds : Kinds) (a : Register) (label : List ℕ) (regs : Registers) (is_zero : Bool) → Fits types kinds regs → Safe types d kinds (instr.Jz a label) (if is_zero then Jumps regs else Works regs)
jz_safe types d kinds a label regs true fit = (fit, (label, refl))
jz_safe types d kinds a label regs false fit = (fit, refl)

would_safe : (types : Typing) (d : Domain) (kinds : Kinds) (i : Instr) (allowed : Bool) (c : Cause) (act : Action) → Safe types d kinds i (unless_trap allowed c act)
would_safe types d kinds i true c act = tt
would_safe types d kinds i false c act = tt

set_safe : (types : Typing) (d : Domain) (kinds : Kinds) (i : Instr) (old : Option ℕ) (k : Kind) (o place v : ℕ) → Safe types d kinds i (setting old k o place v)
set_safe types d kinds i None k o place v = tt
set_safe types d kinds i (Some old) k o place v = would_safe types d kinds i _ cause.Range _

-- a register that a kind is asked of has it
pub owned_is : (k : RegKind) → meets Owned k ≡ true → is_own k ≡ true
owned_is (held.Own s) m = refl
owned_is k m = cc

leaves : (kinds : Kinds) (r : Register) → is_own (kind_in kinds r) ≡ true → leave kinds r ≡ with_kind kinds r held.Empty
leaves kinds r own = ap (λ (b : Bool). if b then with_kind kinds r held.Empty else kinds) own

pub owned_leaves : (kinds : Kinds) (r : Register) → meets Owned (kind_in kinds r) ≡ true → leave kinds r ≡ with_kind kinds r held.Empty
owned_leaves kinds r m = leaves kinds r (owned_is (kind_in kinds r) m)

move_safe : (types : Typing) (kinds : Kinds) (regs : Registers) (a b : Register) → Fine types kinds regs → meets Owned (kind_in kinds b) ≡ true → Fits types (with_kind (leave kinds b) a (kind_in kinds b)) (with_value (with_value regs b None) a (value_in regs b))
move_safe types kinds regs a b fine m =
    subst (λ k. Fits types (with_kind k a (kind_in kinds b)) (with_value (with_value regs b None) a (value_in regs b))) (sym (owned_leaves kinds b m))
    (set_fine types (with_kind kinds b held.Empty) (with_value regs b None) a (kind_in kinds b) (value_in regs b)
    (set_fine types kinds regs b held.Empty None fine refl) (fine.fits.each b.number)).fits

below_head : (same : Bool) (rest : Option ℕ) (n k : ℕ) → ((j : ℕ) → rest ≡ Some j → j < n) → (if same then Some 0 else option_map (λ k. suc k) rest) ≡ Some k → k < suc n
below_head true rest n k bound h = let e : 0 ≡ k = cc in omega arith
below_head false None n k bound h = absurd (cc)
below_head false (Some j) n k bound h =
    let lt : j < n = bound j refl in
    let e : suc j ≡ k = cc in
    omega arith

-- a name that is among names has its place below their count
pub place_below : (name : List ℕ) (xs : List (List ℕ)) (k : ℕ) → place_of name xs ≡ Some k → k < length xs
place_below name [] k h = absurd (cc)
place_below name (x ∷ xs) k h = below_head (pointwise nat_eq x name) (place_of name xs) (length xs) k (place_below name xs) h

import_safe : (types : Typing) (d : Domain) (kinds : Kinds) (a : Register) (import : List ℕ) (regs : Registers) (sight : Sight) (k : Option ℕ) → place_in import (imports d.lines) ≡ k → Fine types kinds regs → FitsSight types d sight → is_some k ≡ true → Fits types (after d kinds (instr.Cap a import)) (with_value regs a (Some (value.Cap (sight.bound (unwrap_or k 0)))))
import_safe types d kinds a import regs sight None e fine sees there = absurd (cc)
import_safe types d kinds a import regs sight (Some k) e fine sees there =
    let below : k < length (map (λ x. x.name) (imports d.lines)) = place_below import (map (λ x. x.name) (imports d.lines)) k e in
    let within : k < length (imports d.lines) = subst (λ n. k < n) (length-map (imports d.lines) (λ (x : Declared). x.name)) below in
    let same : types.trait_of (sight.bound k) ≡ import_trait d import = sees.bound k within ∙ ap (λ o. trait_number d.tables (type_at (imports d.lines) o)) (sym e) in
    (set_fine types kinds regs a (held.Cap (import_trait d import)) (Some (value.Cap (sight.bound k))) fine (eq-eqb (types.trait_of (sight.bound k)) (import_trait d import) same)).fits

-- each instruction, where its registers fit, and what the rules ask of it is kept
pub safe : (types : Typing) (d : Domain) (n : ℕ) (kinds : Kinds) (sight : Sight) (live : ℕ) (regs : Registers) (i : Instr) → Fine types kinds regs → FitsSight types d sight → reads_are_met kinds i ≡ true → declares d (line.Code i) ≡ true → Safe types d kinds i (meaning d n sight live regs i)
safe types d n kinds sight live regs (instr.Const a k) fine sees met declared = ((set_fine types kinds regs a held.Num (Some (value.Num k)) fine refl).fits, refl)
safe types d n kinds sight live regs (instr.Copy a b) fine sees met declared = ((set_fine types kinds regs a (kind_in kinds b) (value_in regs b) fine (fine.fits.each b.number)).fits, refl)
safe types d n kinds sight live regs (instr.Math o a b c) fine sees met declared = number_safe types d kinds (instr.Math o a b c) regs a cause.Divide (calculate o (number_in regs b) (number_in regs c)) fine refl refl
safe types d n kinds sight live regs (instr.Jmp label) fine sees met declared = (fine.fits, (label, refl))
safe types d n kinds sight live regs (instr.Jz a label) fine sees met declared = jz_safe types d kinds a label regs (number_in regs a == 0) fine.fits
safe types d n kinds sight live regs (instr.Move a b) fine sees met declared = (move_safe types kinds regs a b fine (and_left (meets Owned (kind_in kinds b)) true met), refl)
safe types d n kinds sight live regs (instr.Get a o i) fine sees met declared = number_safe types d kinds (instr.Get a o i) regs a cause.Bounds _ fine refl refl
safe types d n kinds sight live regs (instr.Wget a i) fine sees met declared = number_safe types d kinds (instr.Wget a i) regs a cause.Bounds _ fine refl refl
safe types d n kinds sight live regs (instr.Has a slot) fine sees met declared = ((set_fine types kinds regs a held.Num (Some (value.Num _)) fine refl).fits, refl)
safe types d n kinds sight live regs (instr.Cap a import) fine sees met declared = (import_safe types d kinds a import regs sight (place_in import (imports d.lines)) refl fine sees declared, refl)
safe types d n kinds sight live regs (instr.DevSize a) fine sees met declared = ((set_fine types kinds regs a held.Num (Some (value.Num _)) fine refl).fits, refl)
safe types d n kinds sight live regs (instr.New a ty) fine sees met declared = would_safe types d kinds (instr.New a ty) _ cause.HeapFull _
safe types d n kinds sight live regs (instr.Drop a) fine sees met declared = tt
safe types d n kinds sight live regs (instr.Set o i v) fine sees met declared =
    set_safe types d kinds (instr.Set o i v) (sight.cell (object_in regs o) (number_in regs i)) (cell_kind d.tables (struct_in sight regs o) (number_in regs i)) (object_in regs o) (number_in regs i) (number_in regs v)
safe types d n kinds sight live regs (instr.Wput i v) fine sees met declared = would_safe types d kinds (instr.Wput i v) _ cause.Bounds _
safe types d n kinds sight live regs (instr.Take a slot) fine sees met declared = would_safe types d kinds (instr.Take a slot) _ cause.Empty _
safe types d n kinds sight live regs (instr.Put slot a) fine sees met declared = would_safe types d kinds (instr.Put slot a) _ cause.Full _
safe types d n kinds sight live regs (instr.DevGet o k) fine sees met declared = would_safe types d kinds (instr.DevGet o k) _ cause.Device _
safe types d n kinds sight live regs (instr.DevPut k o) fine sees met declared = would_safe types d kinds (instr.DevPut k o) _ cause.Device _
safe types d n kinds sight live regs (instr.Hang o place v) fine sees met declared = would_safe types d kinds (instr.Hang o place v) _ cause.Full _
safe types d n kinds sight live regs (instr.Unhang a o place) fine sees met declared = would_safe types d kinds (instr.Unhang a o place) _ cause.Empty _
safe types d n kinds sight live regs (instr.Call c method args results e label) fine sees met declared = would_safe types d kinds (instr.Call c method args results e label) _ cause.Range _
safe types d n kinds sight live regs (instr.Ret results) fine sees met declared = would_safe types d kinds (instr.Ret results) _ cause.Range _
safe types d n kinds sight live regs instr.Trap fine sees met declared = tt

-- what an instruction comes to, where what it reads is there
pub work_is : (d : Domain) (sight : Sight) (live : ℕ) (s : Stand) (number : ℕ) (i : Instr) → slice_get d.lines s.at ≡ Some (record { line = number; form = line.Code i }) → reads_are_held s.regs i ≡ true → work d sight live s ≡ meaning d s.at sight live s.regs i
work_is d sight live s number i here are = ap (line_meaning d s.at sight live s.regs) here ∙ ap (λ b. guarded b (meaning d s.at sight live s.regs i)) are

-- a frame that fits finds what its instruction reads
pub finds : (d : Domain) (types : Typing) (s : Stand) (number : ℕ) (i : Instr) → KeepsRules d → FitsStand types d s → slice_get d.lines s.at ≡ Some (record { line = number; form = line.Code i }) → reads_are_held s.regs i ≡ true
finds d types s number i keeps stand here =
    let kept = keeps_at d s.at number (line.Code i) keeps here in
    reads_held types (kinds_at d s.at) s.regs i stand.regs (and_left (reads_are_met (kinds_at d s.at) i) (operands_suit d s.at (kinds_at d s.at) i) kept.kinds)

pub safe_at : (d : Domain) (types : Typing) (sight : Sight) (live : ℕ) (s : Stand) (number : ℕ) (i : Instr) → KeepsRules d → FitsSight types d sight → FitsStand types d s → slice_get d.lines s.at ≡ Some (record { line = number; form = line.Code i }) → Safe types d (kinds_at d s.at) i (work d sight live s)
safe_at d types sight live s number i keeps sees stand here =
    let kept = keeps_at d s.at number (line.Code i) keeps here in
    let kinds = kinds_at d s.at in
    subst (λ o. Safe types d kinds i o) (sym (work_is d sight live s number i here (finds d types s number i keeps stand here)))
    (safe types d s.at kinds sight live s.regs i (record { wide = length-kinds_at d s.at; fits = stand.regs }) sees
    (and_left (reads_are_met kinds i) (operands_suit d s.at kinds i) kept.kinds) kept.declared)

onward : (d : Domain) (types : Typing) (sight : Sight) (live f : ℕ) (s : Stand) (o : Outcome) → KeepsRules d → (code : FitsCode types d (behind_heads d s)) → work d sight live (behind_heads d s) ≡ o → Safe types d (kinds_at d (behind_heads d s).at) code.instr o → ((next : Stand) → FitsStand types d next → ComesTo types d sight live f next) → ComesTo types d sight live (suc f) s
onward d types sight live f s (Works regs) keeps code is safely further =
    let next = further (record { at = (behind_heads d s).at + 1; regs = regs }) (stands_next d types (behind_heads d s).at code.at.number code.instr regs keeps code.stand.inside code.at.here safely.1 safely.0) in
    record {
      act = next.act;
      rest = next.rest;
      stand = next.stand;
      settles = ap (λ q. go_on d q (settle d sight live f) (suc f) (behind_heads d s)) is ∙ next.settles;
      fits = next.fits;
      instr = next.instr;
      at = next.at;
      acts = next.acts;
    }
onward d types sight live f s (Jumps regs) keeps code is safely further =
    let next = further (jumped d (behind_heads d s).at regs) (stands_jumped d types (behind_heads d s).at code.at.number code.instr safely.1.0 regs keeps code.at.here safely.1.1 safely.0) in
    record {
      act = next.act;
      rest = next.rest;
      stand = next.stand;
      settles = ap (λ q. go_on d q (settle d sight live f) (suc f) (behind_heads d s)) is ∙ next.settles;
      fits = next.fits;
      instr = next.instr;
      at = next.at;
      acts = next.acts;
    }
onward d types sight live f s (Would act) keeps code is safely further = record {
  act = act;
  rest = suc f;
  stand = behind_heads d s;
  settles = ap (λ q. go_on d q (settle d sight live f) (suc f) (behind_heads d s)) is;
  fits = code.stand;
  instr = code.instr;
  at = code.at;
  acts = inr is;
}
onward d types sight live f s Stuck keeps code is safely further = absurd safely

pub settles : AlwaysSettles
settles d types sight live zero s keeps sees stand =
    let code = comes_to_code d types s keeps stand in
    record {
      act = action.Trap cause.Fuel;
      rest = 0;
      stand = behind_heads d s;
      settles = refl;
      fits = code.stand;
      instr = code.instr;
      at = code.at;
      acts = inl (refl, refl);
    }
settles d types sight live (suc f) s keeps sees stand =
    let code = comes_to_code d types s keeps stand in
    onward d types sight live f s (work d sight live (behind_heads d s)) keeps code refl
    (safe_at d types sight live (behind_heads d s) code.at.number code.instr keeps sees code.stand code.at.here)
    (λ next stands. settles d types sight live f next keeps sees stands)

pub never_stuck : NeverStuck
never_stuck d types sight live s keeps sees stand is =
    let code = comes_to_code d types s keeps stand in
    let safely = safe_at d types sight live (behind_heads d s) code.at.number code.instr keeps sees code.stand code.at.here in
    subst (λ o. Safe types d (kinds_at d (behind_heads d s).at) code.instr o) is safely
