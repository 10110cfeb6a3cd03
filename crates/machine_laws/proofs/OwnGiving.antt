-- What an instruction moves leaves its frame's own objects, once.
use Rattle.std.proofs.Common.{◌≡◌, refl, sym, ◌∙◌, ap, ℕ, zero, suc, ◌+◌, ◌==◌, Bool, true, false, cond, not, ◌&&◌, ◌||◌, List, [], ◌∷◌, map, Option, Some, None, arith, unwrap_or, inl, inr}
use Rattle.std.specs.Prelude.{if◌then◌else◌, slice_set}
use Rattle.std.specs.List.{slice_index_or, list_all, filter_map, cons_option}
use Rattle.std.proofs.lemmas.Bool.{cases_Bool, eqb-true, not-true, or_parts, eqb-false}
use Rattle.rl_defs.specs.declared.values.Value.{Value}
use Rattle.rl_defs.specs.declared.values.Value.TheVariants as value
use Rattle.rl_defs.specs.declared.code.Register.{Register}
use Rattle.rl_defs.specs.declared.code.RegKind.{RegKind}
use Rattle.rl_defs.specs.declared.code.RegKind.TheVariants as held
use Rattle.rl_defs.specs.declared.code.CallArg.{CallArg}
use Rattle.rl_defs.specs.declared.code.CallArg.TheVariants as arg
use Rattle.rl_defs.specs.declared.code.Instr.{Instr}
use Rattle.rl_defs.specs.declared.code.Instr.TheVariants as instr
use Rattle.rl_defs.specs.declared.code.DomainLine.TheVariants as line
use Rattle.machine_defs.specs.Loans.{count}
use Rattle.machine_defs.specs.Arguments.{moved_of, moved_by}
use Rattle.machine_defs.specs.Arguments.{object_of_value}
use Rattle.machine_defs.specs.Arguments.{objects_in}
use Rattle.machine_defs.specs.Sound.{object_held}
use Rattle.rl_defs.specs.CodeKinds.{Kinds, kind_in, with_kind, is_own, read, Passed, leave, leave_all, passed, moved}
use Rattle.rl_defs.specs.CodeRules.{meets, is_met, owning, is_among, are_distinct, moves_once}
use Rattle.rl_defs.specs.Registers.{Typing, fits_kind}
use Rattle.machine_defs.specs.Instructions.{give_up, given_up, all_given_up}
use Rattle.rl_defs.specs.Registers.{Registers, value_in, with_value}
use Rattle.machine_defs.specs.Instructions.{given_by, passed_value, result_in}
use Rattle.machine_defs.proofs.CodeRegisters.{and_left, and_right, Fine, set_fine, is_given, all_given}
use Rattle.machine_laws.specs.Registers.{own}
use Rattle.machine_laws.proofs.OwnMarks.{Marked, mark_set, mark_emptied, mark_none, owned_in, owned_set}
use Rattle.machine_laws.proofs.OwnHeads.{index_other}
use Rattle.machine_defs.proofs.CodeAnswers.{passed_given}

-- the objects in these registers, one after the other
abbrev pub objects_of : Registers → List Register → List ℕ
objects_of regs rs = filter_map object_held (map (value_in regs) rs)

passed_first : (v : Option Value) (xs : List ℕ) → cons_option (moved_by (passed_value v)) xs ≡ cons_option (object_held v) xs
passed_first None xs = refl
passed_first (Some (value.Num n)) xs = refl
passed_first (Some (value.Obj o)) xs = refl
passed_first (Some (value.Cap x)) xs = refl

-- what the arguments of a call move is what is in their registers
pub moved_objects : (regs : Registers) (args : List CallArg) → moved_of (map (given_by regs) args) ≡ objects_of regs (passed args)
moved_objects regs [] = refl
moved_objects regs (arg.Passed r ∷ args) =
    passed_first (value_in regs r) (moved_of (map (given_by regs) args)) ∙ ap (cons_option (object_held (value_in regs r))) (moved_objects regs args)
moved_objects regs (arg.Lent r ∷ args) = moved_objects regs args

result_first : (v : Option Value) (xs : List ℕ) → cons_option (object_of_value (unwrap_or v (value.Num 0))) xs ≡ cons_option (object_held v) xs
result_first None xs = refl
result_first (Some v) xs = refl

-- and so for the results of a return
pub result_objects : (regs : Registers) (rs : List Register) → objects_in (map (result_in regs) rs) ≡ objects_of regs rs
result_objects regs [] = refl
result_objects regs (r ∷ rs) =
    result_first (value_in regs r) (objects_in (map (result_in regs) rs)) ∙ ap (cons_option (object_held (value_in regs r))) (result_objects regs rs)

-- registers that a register isn't among don't see it change
apart_first : (r q : Register) (rs : List Register) → is_among r (q ∷ rs) ≡ false → r.number ≡ q.number → ⊥
apart_first r q rs e same = eqb-false q.number r.number (or_parts (q.number == r.number) (is_among r rs) e).0 (sym same)

pub other_value : (regs : Registers) (r q : Register) (v : Option Value) → (r.number ≡ q.number → ⊥) → value_in (with_value regs r v) q ≡ value_in regs q
other_value regs r q v ne = index_other regs r.number q.number v None ne

other_kind : (kinds : Kinds) (r q : Register) (k : RegKind) → (r.number ≡ q.number → ⊥) → kind_in (with_kind kinds r k) q ≡ kind_in kinds q
other_kind kinds r q k ne = index_other kinds r.number q.number k held.Empty ne

others_owning : (kinds : Kinds) (r : Register) (k : RegKind) (rs : List Register) → is_among r rs ≡ false → owning (with_kind kinds r k) rs ≡ owning kinds rs
others_owning kinds r k [] e = refl
others_owning kinds r k (q ∷ rs) e =
    ap (λ x. cond (is_own x) (q ∷ owning (with_kind kinds r k) rs) (owning (with_kind kinds r k) rs)) (other_kind kinds r q k (apart_first r q rs e))
    ∙ ap (λ xs. cond (is_own (kind_in kinds q)) (q ∷ xs) xs) (others_owning kinds r k rs (or_parts (q.number == r.number) (is_among r rs) e).1)

others_given : (kinds : Kinds) (r : Register) (k : RegKind) (rs : List Register) → is_among r rs ≡ false → all_given (with_kind kinds r k) rs ≡ all_given kinds rs
others_given kinds r k [] e = refl
others_given kinds r k (q ∷ rs) e =
    ap (λ x. is_given x && all_given (with_kind kinds r k) rs) (other_kind kinds r q k (apart_first r q rs e))
    ∙ ap (λ b. is_given (kind_in kinds q) && b) (others_given kinds r k rs (or_parts (q.number == r.number) (is_among r rs) e).1)

others_objects : (regs : Registers) (r : Register) (v : Option Value) (rs : List Register) → is_among r rs ≡ false → objects_of (with_value regs r v) rs ≡ objects_of regs rs
others_objects regs r v [] e = refl
others_objects regs r v (q ∷ rs) e =
    ap (λ x. cons_option (object_held x) (objects_of (with_value regs r v) rs)) (other_value regs r q v (apart_first r q rs e))
    ∙ ap (cons_option (object_held (value_in regs q))) (others_objects regs r v rs (or_parts (q.number == r.number) (is_among r rs) e).1)

-- a register with an own object is among those that own one, where it is among registers
pub owning_rest : (own rest found : Bool) → (cond own (found || rest) rest) ≡ false → rest ≡ false
owning_rest true rest found e = (or_parts found rest e).1
owning_rest false rest found e = e

among_first : (r q : Register) (b : Bool) (xs : List Register) → is_among r (cond b (q ∷ xs) xs) ≡ cond b ((q.number == r.number) || is_among r xs) (is_among r xs)
among_first r q true xs = refl
among_first r q false xs = refl

pub owning_here : (own same rest : Bool) → own ≡ true → same ≡ true → cond own (same || rest) rest ≡ false → ⊥
owning_here true true rest a b e = cc
owning_here false same rest a b e = cc
owning_here own false rest a b e = cc

pub not_among : (kinds : Kinds) (r : Register) (rs : List Register) → is_own (kind_in kinds r) ≡ true → is_among r (owning kinds rs) ≡ false → is_among r rs ≡ false
not_among kinds r [] o e = refl
not_among kinds r (q ∷ rs) o e =
    let same = q.number == r.number in
    let first : cond (is_own (kind_in kinds q)) (same || is_among r (owning kinds rs)) (is_among r (owning kinds rs)) ≡ false =
    sym (among_first r q (is_own (kind_in kinds q)) (owning kinds rs)) ∙ e in
    elim (cases_Bool (q.number == r.number)) [
      | inl is ↦
          let here : is_own (kind_in kinds q) ≡ true = ap (λ n. is_own (slice_index_or kinds n held.Empty)) (eqb-true q.number r.number is) ∙ o in
          absurd (owning_here (is_own (kind_in kinds q)) same (is_among r (owning kinds rs)) here is first)
      | inr isn't ↦ rw isn't (not_among kinds r rs o (owning_rest (is_own (kind_in kinds q)) (is_among r (owning kinds rs)) same first))
    ]

-- a register that holds no object gives none up
none_held : (types : Typing) (k : RegKind) (v : Option Value) → is_given k ≡ true → is_own k ≡ false → fits_kind types k v ≡ true → object_held v ≡ None
none_held types held.Empty None g o f = refl
none_held types held.Num (Some (value.Num n)) g o f = refl
none_held types (held.Cap t) (Some (value.Cap x)) g o f = refl
none_held types k v g o f = cc

gives_none : (regs : Registers) (r : Register) (v : Option Value) → object_held v ≡ None → give_up regs r v ≡ regs
gives_none regs r None e = refl
gives_none regs r (Some (value.Num n)) e = refl
gives_none regs r (Some (value.Obj o)) e = absurd (cc)
gives_none regs r (Some (value.Cap x)) e = refl

-- what is given up is no longer own, and what is left is as the kinds say
mark_cleared : (lent : List ℕ) (kinds : Kinds) (regs : Registers) (a : ℕ) → Marked lent kinds regs → Marked lent (slice_set kinds a held.Empty) regs
mark_cleared lent [] regs a each r = refl
mark_cleared lent (k ∷ kinds) [] a each r = mark_none lent (slice_index_or (slice_set (k ∷ kinds) a held.Empty) r held.Empty)
mark_cleared lent (k ∷ kinds) (v ∷ regs) zero each zero = refl
mark_cleared lent (k ∷ kinds) (v ∷ regs) zero each (suc r) = each (suc r)
mark_cleared lent (k ∷ kinds) (v ∷ regs) (suc a) each zero = each zero
mark_cleared lent (k ∷ kinds) (v ∷ regs) (suc a) each (suc r) = mark_cleared lent kinds regs a (λ q. each (suc q)) r

mark_given : (lent : List ℕ) (kinds : Kinds) (regs : Registers) (r : Register) (b : Bool) (v : Option Value) → Marked lent kinds regs → Marked lent (if b then with_kind kinds r held.Empty else kinds) (give_up regs r v)
mark_given lent kinds regs r true (Some (value.Obj o)) each = mark_set lent kinds regs r.number held.Empty None each refl
mark_given lent kinds regs r true None each = mark_cleared lent kinds regs r.number each
mark_given lent kinds regs r true (Some (value.Num n)) each = mark_cleared lent kinds regs r.number each
mark_given lent kinds regs r true (Some (value.Cap x)) each = mark_cleared lent kinds regs r.number each
mark_given lent kinds regs r false (Some (value.Obj o)) each = mark_emptied lent kinds regs r.number each
mark_given lent kinds regs r false None each = each
mark_given lent kinds regs r false (Some (value.Num n)) each = each
mark_given lent kinds regs r false (Some (value.Cap x)) each = each

pub marks_given : (lent : List ℕ) (rs : List Register) (kinds : Kinds) (regs : Registers) → Marked lent kinds regs → Marked lent (leave_all rs kinds) (all_given_up rs regs)
marks_given lent [] kinds regs each = each
marks_given lent (r ∷ rs) kinds regs each = marks_given lent rs (leave kinds r) (given_up regs r) (mark_given lent kinds regs r (is_own (kind_in kinds r)) (value_in regs r) each)

-- none of an empty list
distinct_first : (r : Register) (b : Bool) (xs : List Register) → b ≡ true → are_distinct (cond b (r ∷ xs) xs) ≡ true → (is_among r xs ≡ false) × (are_distinct xs ≡ true)
distinct_first r true xs e d = (not-true (is_among r xs) (and_left (not (is_among r xs)) (are_distinct xs) d), and_right (not (is_among r xs)) (are_distinct xs) d)
distinct_first r false xs e d = cc

distinct_rest : (r : Register) (b : Bool) (xs : List Register) → are_distinct (cond b (r ∷ xs) xs) ≡ true → are_distinct xs ≡ true
distinct_rest r true xs d = and_right (not (is_among r xs)) (are_distinct xs) d
distinct_rest r false xs d = d

held_first : (p : ℕ) (v : Option Value) (o : ℕ) (xs : List ℕ) → v ≡ Some (value.Obj o) → count p (cons_option (object_held v) xs) ≡ count p (o ∷ []) + count p xs
held_first p v o xs e = ap (λ x. count p (cons_option (object_held x) xs)) e ∙ omega arith

-- what registers give up is as often their frame's own as it stands in them
pub give_counts : (types : Typing) (lent : List ℕ) (p : ℕ) (rs : List Register) (kinds : Kinds) (regs : Registers) → Fine types kinds regs → Marked lent kinds regs → all_given kinds rs ≡ true → are_distinct (owning kinds rs) ≡ true → count p (own lent (all_given_up rs regs)) + count p (objects_of regs rs) ≡ count p (own lent regs)
give_counts types lent p [] kinds regs fine marked g distinct = omega arith
give_counts types lent p (r ∷ rs) kinds regs fine marked g distinct =
    let given = and_left (is_given (kind_in kinds r)) (all_given kinds rs) g in
    let rest = and_right (is_given (kind_in kinds r)) (all_given kinds rs) g in
    elim (cases_Bool (is_own (kind_in kinds r))) [
      | inl is ↦
          let o = owned_in types lent kinds regs r.number fine.fits marked is in
          let first = distinct_first r (is_own (kind_in kinds r)) (owning kinds rs) is distinct in
          let apart = not_among kinds r rs is first.0 in
          let emptied = with_kind kinds r held.Empty in
          let new = with_value regs r None in
          let gives : given_up regs r ≡ new = ap (give_up regs r) o.is in
          let next = give_counts types lent p rs emptied new (set_fine types kinds regs r held.Empty None fine refl) (mark_set lent kinds regs r.number held.Empty None marked refl)
          (others_given kinds r held.Empty rs apart ∙ rest) (ap are_distinct (others_owning kinds r held.Empty rs apart) ∙ first.1) in
          let same : count p (own lent (all_given_up rs (given_up regs r))) ≡ count p (own lent (all_given_up rs new)) = ap (λ x. count p (own lent (all_given_up rs x))) gives in
          omega (arith, same, next, ap (count p) (others_objects regs r None rs apart), held_first p (value_in regs r) o.object (objects_of regs rs) o.is, owned_set types lent kinds regs p r None fine.fits marked o)
      | inr isn't ↦
          let none = none_held types (kind_in kinds r) (value_in regs r) given isn't (fine.fits.each r.number) in
          let same : count p (own lent (all_given_up rs (given_up regs r))) ≡ count p (own lent (all_given_up rs regs)) = ap (λ x. count p (own lent (all_given_up rs x))) (gives_none regs r (value_in regs r) none) in
          let objects : count p (objects_of regs (r ∷ rs)) ≡ count p (objects_of regs rs) = ap (λ x. count p (cons_option x (objects_of regs rs))) none in
          omega (arith, same, objects, give_counts types lent p rs kinds regs fine marked rest (distinct_rest r (is_own (kind_in kinds r)) (owning kinds rs) distinct))
    ]

other_given : (regs : Registers) (r q : Register) (v : Option Value) → (r.number ≡ q.number → ⊥) → value_in (give_up regs r v) q ≡ value_in regs q
other_given regs r q (Some (value.Obj o)) ne = other_value regs r q None ne
other_given regs r q None ne = refl
other_given regs r q (Some (value.Num n)) ne = refl
other_given regs r q (Some (value.Cap x)) ne = refl

-- a register that isn't among them keeps what it holds
pub others_keep : (rs : List Register) (regs : Registers) (q : Register) → is_among q rs ≡ false → value_in (all_given_up rs regs) q ≡ value_in regs q
others_keep [] regs q e = refl
others_keep (r ∷ rs) regs q e =
    others_keep rs (given_up regs r) q (or_parts (r.number == q.number) (is_among q rs) e).1
    ∙ other_given regs r q (value_in regs r) (eqb-false r.number q.number (or_parts (r.number == q.number) (is_among q rs) e).0)

results_given : (kinds : Kinds) (rs : List Register) → list_all (is_met kinds) (map (λ r. read r Passed) rs) ≡ true → all_given kinds rs ≡ true
results_given kinds [] m = refl
results_given kinds (r ∷ rs) m =
    let rest = list_all (is_met kinds) (map (λ r. read r Passed) rs) in
    rw (passed_given (kind_in kinds r) (and_left (meets Passed (kind_in kinds r)) rest m))
    (results_given kinds rs (and_right (meets Passed (kind_in kinds r)) rest m))

single : (r : Register) (b : Bool) → are_distinct (cond b (r ∷ []) []) ≡ true
single r true = refl
single r false = refl

pub moved_distinct : (kinds : Kinds) (i : Instr) → moves_once kinds (line.Code i) ≡ true → are_distinct (owning kinds (moved i)) ≡ true
moved_distinct kinds (instr.Move a b) once = single b (is_own (kind_in kinds b))
moved_distinct kinds (instr.Drop a) once = single a (is_own (kind_in kinds a))
moved_distinct kinds (instr.Put slot a) once = single a (is_own (kind_in kinds a))
moved_distinct kinds (instr.Hang o place v) once = single v (is_own (kind_in kinds v))
moved_distinct kinds (instr.Call c method args results e label) once = once
moved_distinct kinds (instr.Ret results) once = once
moved_distinct kinds i once = refl
