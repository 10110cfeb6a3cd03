-- Register work leaves a frame its own objects.
use Rattle.std.proofs.Common.{◌≡◌, refl, sym, ◌∙◌, ap, subst, ℕ, zero, suc, ◌+◌, ◌≤◌, ◌==◌, Bool, true, false, ◌&&◌, List, Option, Some, None, slice_get, arith, inl, inr}
use Rattle.std.specs.Prelude.{if◌then◌else◌}
use Rattle.std.specs.List.{list_all}
use Rattle.std.proofs.lemmas.Bool.{not-true}
use Rattle.rl_defs.specs.declared.values.Value.{Value}
use Rattle.rl_defs.specs.declared.values.Value.TheVariants as value
use Rattle.machine_defs.specs.declared.values.Cause.{Cause}
use Rattle.machine_defs.specs.declared.values.Cause.TheVariants as cause
use Rattle.machine_defs.specs.declared.frame.Action.{Action}
use Rattle.rl_defs.specs.declared.code.Register.{Register}
use Rattle.rl_defs.specs.declared.code.RegKind.{RegKind}
use Rattle.rl_defs.specs.declared.code.RegKind.TheVariants as held
use Rattle.rl_defs.specs.declared.code.Instr.{Instr}
use Rattle.rl_defs.specs.declared.code.Instr.TheVariants as instr
use Rattle.rl_defs.specs.declared.code.DomainLine.TheVariants as line
use Rattle.rl_defs.specs.declared.tables.Kind.{Kind}
use Rattle.machine_defs.specs.Sight.{Sight}
use Rattle.rl_defs.specs.DomainValue.{Domain}
use Rattle.machine_defs.specs.Loans.{count}
use Rattle.rl_defs.specs.CodeKinds.{Kinds, kinds_at, kind_in, with_kind, is_own, Copied, Owned, leave, left, after, at_label}
use Rattle.rl_defs.specs.CodeRules.{meets, reads_are_met, operands_suit, written, spares}
use Rattle.rl_defs.specs.CodeRules.{KeepsRules}
use Rattle.rl_defs.specs.Registers.{Typing, Fits}
use Rattle.machine_defs.specs.CodeFits.{FitsStand, FitsSight}
use Rattle.machine_defs.specs.CodeLaws.{StandsAt, Acts}
use Rattle.rl_defs.specs.Registers.{Registers, value_in, with_value, Stand, behind_heads}
use Rattle.machine_defs.specs.Instructions.{with_number, number_in, object_in, struct_in, cell_kind, Outcome, Works, Jumps, Would, Stuck, number_or_trap, unless_trap, setting, calculate, meaning, work, jumped, Settled, Nowhere, Before, go_on, settle}
use Rattle.machine_defs.proofs.CodeRegisters.{and_left, Fine, set_fine}
use Rattle.machine_defs.proofs.CodeSafe.{Safe, safe_at, owned_leaves, work_is, finds, owned_is as owned_own}
use Rattle.machine_defs.proofs.CodeStands.{keeps_at, comes_to_code, stands_next, stands_jumped}
use Rattle.machine_defs.proofs.CodeWidths.{length-kinds_at}
use Rattle.machine_laws.specs.Registers.{own, Parted}
use Rattle.machine_laws.proofs.OwnCounts.{weight}
use Rattle.machine_laws.proofs.OwnMarks.{mark, Marked, mark_set, marked_of, parted_of, spare_in, spare_set, owned_in, owned_set, owned_weight}
use Rattle.machine_laws.proofs.OwnRules.{keeps_own}
use Rattle.machine_laws.proofs.OwnHeads.{heads_own, jumped_own, next_own}

-- registers with the same objects of their frame's own
abbrev pub Same : List ℕ → Registers → Registers → Type 0
Same lent old new = (p : ℕ) → count p (own lent new) ≡ count p (own lent old)

-- where an outcome leads, they are sorted out as the kinds there say
abbrev pub Leaves : List ℕ → Domain → Kinds → Instr → Registers → Outcome → Type 0
Leaves lent d kinds i regs (Works new) = Marked lent (after d kinds i) new × Same lent regs new
Leaves lent d kinds i regs (Jumps new) = Marked lent (at_label kinds i) new × Same lent regs new
Leaves lent d kinds i regs (Would act) = Unit {0}
Leaves lent d kinds i regs Stuck = Unit {0}

put_leaves : (types : Typing) (lent : List ℕ) (kinds : Kinds) (regs : Registers) (a : Register) (k : RegKind) (v : Option Value) → Fits types kinds regs → Marked lent kinds regs → (spares kinds a && true) ≡ true → mark lent k v ≡ true → ((p : ℕ) → weight lent p v ≡ 0) → Marked lent (with_kind kinds a k) (with_value regs a v) × Same lent regs (with_value regs a v)
put_leaves types lent kinds regs a k v fit marked spared m none = (
  mark_set lent kinds regs a.number k v marked m,
  λ p. omega (arith, spare_set types lent kinds regs p a v fit marked (not-true (is_own (kind_in kinds a)) (and_left (spares kinds a) true spared)), none p),
)

number_leaves : (types : Typing) (lent : List ℕ) (d : Domain) (kinds : Kinds) (i : Instr) (regs : Registers) (a : Register) (c : Cause) (n : Option ℕ) → Fits types kinds regs → Marked lent kinds regs → (spares kinds a && true) ≡ true → after d kinds i ≡ with_kind kinds a held.Num → Leaves lent d kinds i regs (number_or_trap regs a c n)
number_leaves types lent d kinds i regs a c None fit marked spared is = tt
number_leaves types lent d kinds i regs a c (Some n) fit marked spared is =
    let put = put_leaves types lent kinds regs a held.Num (Some (value.Num n)) fit marked spared refl (λ p. refl) in
    (subst (λ k. Marked lent k (with_number regs a n)) (sym is) put.0, put.1)

jz_leaves : (lent : List ℕ) (d : Domain) (kinds : Kinds) (a : Register) (label : List ℕ) (regs : Registers) (is_zero : Bool) → Marked lent kinds regs → Leaves lent d kinds (instr.Jz a label) regs (if is_zero then Jumps regs else Works regs)
jz_leaves lent d kinds a label regs true marked = (marked, λ p. refl)
jz_leaves lent d kinds a label regs false marked = (marked, λ p. refl)

would_leaves : (lent : List ℕ) (d : Domain) (kinds : Kinds) (i : Instr) (regs : Registers) (allowed : Bool) (c : Cause) (act : Action) → Leaves lent d kinds i regs (unless_trap allowed c act)
would_leaves lent d kinds i regs true c act = tt
would_leaves lent d kinds i regs false c act = tt

set_leaves : (lent : List ℕ) (d : Domain) (kinds : Kinds) (i : Instr) (regs : Registers) (old : Option ℕ) (k : Kind) (o place v : ℕ) → Leaves lent d kinds i regs (setting old k o place v)
set_leaves lent d kinds i regs None k o place v = tt
set_leaves lent d kinds i regs (Some old) k o place v = would_leaves lent d kinds i regs _ cause.Range _

copied_spare : (k : RegKind) → meets Copied k ≡ true → is_own k ≡ false
copied_spare held.Num m = refl
copied_spare (held.Lent s) m = refl
copied_spare (held.Cap t) m = refl
copied_spare k m = cc

move_leaves : (types : Typing) (lent : List ℕ) (kinds : Kinds) (regs : Registers) (a b : Register) → Fine types kinds regs → Marked lent kinds regs → meets Owned (kind_in kinds b) ≡ true → (spares (leave kinds b) a && true) ≡ true → Marked lent (with_kind (leave kinds b) a (kind_in kinds b)) (with_value (with_value regs b None) a (value_in regs b)) × Same lent regs (with_value (with_value regs b None) a (value_in regs b))
move_leaves types lent kinds regs a b fine marked m spared =
    let is = owned_leaves kinds b m in
    let emptied = with_kind kinds b held.Empty in
    let given = with_value regs b None in
    let fit : Fits types emptied given = (set_fine types kinds regs b held.Empty None fine refl).fits in
    let marks : Marked lent emptied given = mark_set lent kinds regs b.number held.Empty None marked refl in
    let o = owned_in types lent kinds regs b.number fine.fits marked (owned_own (kind_in kinds b) m) in
    let spare : is_own (kind_in emptied a) ≡ false = ap (λ k. is_own (kind_in k a)) (sym is) ∙ not-true (is_own (kind_in (leave kinds b) a)) (and_left (spares (leave kinds b) a) true spared) in (
      subst (λ k. Marked lent (with_kind k a (kind_in kinds b)) (with_value given a (value_in regs b))) (sym is) (mark_set lent emptied given a.number (kind_in kinds b) (value_in regs b) marks (marked b.number)),
      λ p. omega (arith, owned_set types lent kinds regs p b None fine.fits marked o, spare_set types lent emptied given p a (value_in regs b) fit marks spare, owned_weight lent p (value_in regs b) o),
    )

leaves : (types : Typing) (lent : List ℕ) (d : Domain) (n : ℕ) (kinds : Kinds) (sight : Sight) (live : ℕ) (regs : Registers) (i : Instr) → Fine types kinds regs → Marked lent kinds regs → reads_are_met kinds i ≡ true → list_all (spares (left kinds i)) (written i) ≡ true → Leaves lent d kinds i regs (meaning d n sight live regs i)
leaves types lent d n kinds sight live regs (instr.Const a k) fine marked met spared = put_leaves types lent kinds regs a held.Num (Some (value.Num k)) fine.fits marked spared refl (λ p. refl)
leaves types lent d n kinds sight live regs (instr.Copy a b) fine marked met spared =
    put_leaves types lent kinds regs a (kind_in kinds b) (value_in regs b) fine.fits marked spared (marked b.number)
    (λ p. spare_in types lent kinds regs p b.number fine.fits marked (copied_spare (kind_in kinds b) (and_left (meets Copied (kind_in kinds b)) true met)))
leaves types lent d n kinds sight live regs (instr.Math o a b c) fine marked met spared = number_leaves types lent d kinds (instr.Math o a b c) regs a cause.Divide (calculate o (number_in regs b) (number_in regs c)) fine.fits marked spared refl
leaves types lent d n kinds sight live regs (instr.Jmp label) fine marked met spared = (marked, λ p. refl)
leaves types lent d n kinds sight live regs (instr.Jz a label) fine marked met spared = jz_leaves lent d kinds a label regs (number_in regs a == 0) marked
leaves types lent d n kinds sight live regs (instr.Move a b) fine marked met spared = move_leaves types lent kinds regs a b fine marked (and_left (meets Owned (kind_in kinds b)) true met) spared
leaves types lent d n kinds sight live regs (instr.Get a o i) fine marked met spared = number_leaves types lent d kinds (instr.Get a o i) regs a cause.Bounds _ fine.fits marked spared refl
leaves types lent d n kinds sight live regs (instr.Wget a i) fine marked met spared = number_leaves types lent d kinds (instr.Wget a i) regs a cause.Bounds _ fine.fits marked spared refl
leaves types lent d n kinds sight live regs (instr.Has a slot) fine marked met spared = put_leaves types lent kinds regs a held.Num (Some (value.Num _)) fine.fits marked spared refl (λ p. refl)
leaves types lent d n kinds sight live regs (instr.Cap a import) fine marked met spared = put_leaves types lent kinds regs a _ (Some (value.Cap _)) fine.fits marked spared refl (λ p. refl)
leaves types lent d n kinds sight live regs (instr.DevSize a) fine marked met spared = put_leaves types lent kinds regs a held.Num (Some (value.Num _)) fine.fits marked spared refl (λ p. refl)
leaves types lent d n kinds sight live regs (instr.New a ty) fine marked met spared = would_leaves lent d kinds (instr.New a ty) regs _ cause.HeapFull _
leaves types lent d n kinds sight live regs (instr.Drop a) fine marked met spared = tt
leaves types lent d n kinds sight live regs (instr.Set o i v) fine marked met spared =
    set_leaves lent d kinds (instr.Set o i v) regs (sight.cell (object_in regs o) (number_in regs i)) (cell_kind d.tables (struct_in sight regs o) (number_in regs i)) (object_in regs o) (number_in regs i) (number_in regs v)
leaves types lent d n kinds sight live regs (instr.Wput i v) fine marked met spared = would_leaves lent d kinds (instr.Wput i v) regs _ cause.Bounds _
leaves types lent d n kinds sight live regs (instr.Take a slot) fine marked met spared = would_leaves lent d kinds (instr.Take a slot) regs _ cause.Empty _
leaves types lent d n kinds sight live regs (instr.Put slot a) fine marked met spared = would_leaves lent d kinds (instr.Put slot a) regs _ cause.Full _
leaves types lent d n kinds sight live regs (instr.DevGet o k) fine marked met spared = would_leaves lent d kinds (instr.DevGet o k) regs _ cause.Device _
leaves types lent d n kinds sight live regs (instr.DevPut k o) fine marked met spared = would_leaves lent d kinds (instr.DevPut k o) regs _ cause.Device _
leaves types lent d n kinds sight live regs (instr.Hang o place v) fine marked met spared = would_leaves lent d kinds (instr.Hang o place v) regs _ cause.Full _
leaves types lent d n kinds sight live regs (instr.Unhang a o place) fine marked met spared = would_leaves lent d kinds (instr.Unhang a o place) regs _ cause.Empty _
leaves types lent d n kinds sight live regs (instr.Call c method args results e label) fine marked met spared = would_leaves lent d kinds (instr.Call c method args results e label) regs _ cause.Range _
leaves types lent d n kinds sight live regs (instr.Ret results) fine marked met spared = would_leaves lent d kinds (instr.Ret results) regs _ cause.Range _
leaves types lent d n kinds sight live regs instr.Trap fine marked met spared = tt

-- what the rules ask of the reads of an instruction
pub met_at : (d : Domain) (n number : ℕ) (i : Instr) → KeepsRules d → slice_get d.lines n ≡ Some (record { line = number; form = line.Code i }) → reads_are_met (kinds_at d n) i ≡ true
met_at d n number i keeps here = and_left (reads_are_met (kinds_at d n) i) (operands_suit d n (kinds_at d n) i) (keeps_at d n number (line.Code i) keeps here).kinds

leaves_at : (d : Domain) (types : Typing) (lent : List ℕ) (sight : Sight) (live : ℕ) (s : Stand) (number : ℕ) (i : Instr) → KeepsRules d → FitsStand types d s → Marked lent (kinds_at d s.at) s.regs → slice_get d.lines s.at ≡ Some (record { line = number; form = line.Code i }) → Leaves lent d (kinds_at d s.at) i s.regs (work d sight live s)
leaves_at d types lent sight live s number i keeps stand marked here =
    let kinds = kinds_at d s.at in
    subst (λ o. Leaves lent d kinds i s.regs o) (sym (work_is d sight live s number i here (finds d types s number i keeps stand here)))
    (leaves types lent d s.at kinds sight live s.regs i (record { wide = length-kinds_at d s.at; fits = stand.regs }) marked
    (met_at d s.at number i keeps here) (keeps_own d s.at number (line.Code i) keeps here).spares)

-- Register work comes to an action at an instruction, or has no fuel for it. The frame fits there, has the same objects of its own as before,
-- and no more fuel.
pub record SettlesOwn (types : Typing) (lent : List ℕ) (d : Domain) (sight : Sight) (live fuel : ℕ) (regs : Registers) (act : Action) (rest : ℕ) (stand : Stand) : Type 0 where
  pub fits : FitsStand types d stand
  pub parted : Parted lent (kinds_at d stand.at) stand.regs
  pub same : (o : ℕ) → count o (own lent stand.regs) ≡ count o (own lent regs)
  pub less : rest ≤ fuel
  pub instr : Instr
  pub at : StandsAt d instr stand
  pub acts : Acts d sight live rest stand act

abbrev pub EndsOwn : Typing → List ℕ → Domain → Sight → ℕ → ℕ → Registers → Settled → Type 0
EndsOwn types lent d sight live fuel regs Nowhere = ⊥
EndsOwn types lent d sight live fuel regs (Before act rest stand) = SettlesOwn types lent d sight live fuel regs act rest stand

later_own : (types : Typing) (lent : List ℕ) (d : Domain) (sight : Sight) (live fuel : ℕ) (old new : Registers) (q : Settled) → Same lent old new → EndsOwn types lent d sight live fuel new q → EndsOwn types lent d sight live (suc fuel) old q
later_own types lent d sight live fuel old new Nowhere same ends = absurd ends
later_own types lent d sight live fuel old new (Before act rest stand) same ends =
    let less = ends.less in
    record { fits = ends.fits; parted = ends.parted; same = λ o. ends.same o ∙ same o; less = omega arith; instr = ends.instr; at = ends.at; acts = ends.acts }

onward_own : (d : Domain) (types : Typing) (lent : List ℕ) (sight : Sight) (live f : ℕ) (s : Stand) (i : Instr) (o : Outcome) → KeepsRules d → FitsStand types d s → Marked lent (kinds_at d s.at) s.regs → (at : StandsAt d i s) → work d sight live s ≡ o → Safe types d (kinds_at d s.at) i o → Leaves lent d (kinds_at d s.at) i s.regs o → ((next : Stand) → FitsStand types d next → Marked lent (kinds_at d next.at) next.regs → EndsOwn types lent d sight live f next.regs (settle d sight live f next)) → EndsOwn types lent d sight live (suc f) s.regs (go_on d o (settle d sight live f) (suc f) s)
onward_own d types lent sight live f s i (Works regs) keeps stand marked at is safely leave further =
    let next : Stand = record { at = s.at + 1; regs = regs } in
    later_own types lent d sight live f s.regs regs (settle d sight live f next) leave.1
    (further next (stands_next d types s.at at.number i regs keeps stand.inside at.here safely.1 safely.0) (next_own d lent s.at at.number i regs at.here leave.0))
onward_own d types lent sight live f s i (Jumps regs) keeps stand marked at is safely leave further =
    let next = jumped d s.at regs in
    let behind = jumped_own d types lent s.at at.number i safely.1.0 regs keeps at.here safely.1.1 safely.0 leave.0 in
    later_own types lent d sight live f s.regs next.regs (settle d sight live f next) (λ p. behind.same p ∙ leave.1 p)
    (further next (stands_jumped d types s.at at.number i safely.1.0 regs keeps at.here safely.1.1 safely.0) behind.marked)
onward_own d types lent sight live f s i (Would act) keeps stand marked at is safely leave further = record {
  fits = stand;
  parted = parted_of lent (kinds_at d s.at) s.regs marked;
  same = λ o. refl;
  less = omega arith;
  instr = i;
  at = at;
  acts = inr is;
}
onward_own d types lent sight live f s i Stuck keeps stand marked at is safely leave further = absurd safely

from_own : (types : Typing) (lent : List ℕ) (d : Domain) (sight : Sight) (live fuel : ℕ) (old new : Registers) (q : Settled) → Same lent old new → EndsOwn types lent d sight live fuel new q → EndsOwn types lent d sight live fuel old q
from_own types lent d sight live fuel old new Nowhere same ends = absurd ends
from_own types lent d sight live fuel old new (Before act rest stand) same ends =
    record { fits = ends.fits; parted = ends.parted; same = λ o. ends.same o ∙ same o; less = ends.less; instr = ends.instr; at = ends.at; acts = ends.acts }

settles_own : (d : Domain) (types : Typing) (lent : List ℕ) (sight : Sight) (live fuel : ℕ) (s : Stand) → KeepsRules d → FitsSight types d sight → FitsStand types d s → Marked lent (kinds_at d s.at) s.regs → EndsOwn types lent d sight live fuel s.regs (settle d sight live fuel s)
settles_own d types lent sight live zero s keeps sees stand marked =
    let code = comes_to_code d types s keeps stand in
    let behind = heads_own d types lent s keeps stand marked in
    record {
      fits = code.stand;
      parted = parted_of lent (kinds_at d (behind_heads d s).at) (behind_heads d s).regs behind.marked;
      same = behind.same;
      less = omega arith;
      instr = code.instr;
      at = code.at;
      acts = inl (refl, refl);
    }
settles_own d types lent sight live (suc f) s keeps sees stand marked =
    let code = comes_to_code d types s keeps stand in
    let behind = heads_own d types lent s keeps stand marked in
    let t = behind_heads d s in
    from_own types lent d sight live (suc f) s.regs t.regs (go_on d (work d sight live t) (settle d sight live f) (suc f) t) behind.same
    (onward_own d types lent sight live f t code.instr (work d sight live t) keeps code.stand behind.marked code.at refl
    (safe_at d types sight live t code.at.number code.instr keeps sees code.stand code.at.here)
    (leaves_at d types lent sight live t code.at.number code.instr keeps code.stand behind.marked code.at.here)
    (λ next stands marks. settles_own d types lent sight live f next keeps sees stands marks))

pub settle_keeps : (d : Domain) (types : Typing) (lent : List ℕ) (sight : Sight) (live fuel : ℕ) (s : Stand) (act : Action) (rest : ℕ) (stand : Stand) → KeepsRules d → FitsSight types d sight → FitsStand types d s → Parted lent (kinds_at d s.at) s.regs → settle d sight live fuel s ≡ Before act rest stand → SettlesOwn types lent d sight live fuel s.regs act rest stand
settle_keeps d types lent sight live fuel s act rest stand keeps sees fits parted is =
    subst (EndsOwn types lent d sight live fuel s.regs) is (settles_own d types lent sight live fuel s keeps sees fits (marked_of lent (kinds_at d s.at) s.regs parted))
