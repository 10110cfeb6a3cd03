-- A frame of domain code that keeps the rules fits again behind each answer that its action may get.
use Rattle.std.proofs.Common.{◌≡◌, refl, sym, ◌∙◌, ap, subst, ℕ, zero, suc, ◌==◌, true, false, ◌&&◌, List, [], ◌∷◌, length, map, Option, Some, None, slice_get}
use Rattle.std.specs.Prelude.{slice_set}
use Rattle.std.specs.List.{list_all}
use Rattle.std.proofs.Math.ListN.{length-set}
use Rattle.std.proofs.lemmas.Bool.{eqb-true, eq-eqb}
use Rattle.rl_defs.specs.declared.values.Value.{Value}
use Rattle.rl_defs.specs.declared.values.Value.TheVariants as value
use Rattle.machine_defs.specs.declared.values.RpcCode.{RpcCode}
use Rattle.machine_defs.specs.declared.frame.Answer.{Answer}
use Rattle.machine_defs.specs.declared.frame.Answer.TheVariants as answer
use Rattle.rl_defs.specs.declared.code.Register.{Register}
use Rattle.rl_defs.specs.declared.code.RegKind.{RegKind}
use Rattle.rl_defs.specs.declared.code.RegKind.TheVariants as held
use Rattle.rl_defs.specs.declared.code.CallArg.{CallArg}
use Rattle.rl_defs.specs.declared.code.CallArg.TheVariants as arg
use Rattle.rl_defs.specs.declared.code.Instr.{Instr}
use Rattle.rl_defs.specs.declared.code.Instr.TheVariants as instr
use Rattle.rl_defs.specs.declared.code.DomainLine.TheVariants as line
use Rattle.rl_defs.specs.declared.tables.MethodRow.{MethodRow}
use Rattle.rl_defs.specs.DomainValue.{Domain}
use Rattle.rl_defs.specs.DomainParts.{ends}
use Rattle.machine_defs.specs.Entries.{code_number}
use Rattle.rl_defs.specs.CodeNames.{struct_number, slot_struct, function_at, results_of}
use Rattle.rl_defs.specs.CodeKinds.{Kinds, kinds_at, kind_in, with_kind, leave, leave_all, passed, moved, left, after, at_label, read_of_arg, read, Owned, Passed, Target, hung_at, own_kind, method_called}
use Rattle.rl_defs.specs.CodeRules.{meets, is_met, reads_are_met, operands_suit, is_inside, has_counts, has_method}
use Rattle.rl_defs.specs.CodeNames.{label_of}
use Rattle.rl_defs.specs.Registers.{Registers, with_value}
use Rattle.machine_defs.specs.Instructions.{with_number}
use Rattle.rl_defs.specs.CodeRules.{KeepsRules}
use Rattle.rl_defs.specs.Registers.{Typing, fits_kind, Fits}
use Rattle.machine_defs.specs.CodeFits.{FitsStand, FitsAnswer, are_values}
use Rattle.machine_defs.specs.Instructions.{all_given_up, put_values, answered, after_answer_at}
use Rattle.machine_defs.specs.CodeLaws.{AnswersFit, WaitingAnswersFit, GivesUp}
use Rattle.machine_defs.proofs.CodeRegisters.{and_left, and_right, Fine, set_fine, is_given, all_given, give_all_fine, keep_all, left_none, put_fine}
use Rattle.machine_defs.proofs.CodeWidths.{length-kinds_at, length-leave_all}
use Rattle.machine_defs.proofs.CodeSafe.{owned_leaves}
use Rattle.machine_defs.proofs.CodeStands.{keeps_at, stands_next, stands_jumped}

pub passed_given : (k : RegKind) → meets Passed k ≡ true → is_given k ≡ true
passed_given held.Num m = refl
passed_given (held.Own s) m = refl
passed_given (held.Cap t) m = refl
passed_given k m = cc

-- what is passed on is no lent object
pub args_given : (kinds : Kinds) (args : List CallArg) → list_all (is_met kinds) (map read_of_arg args) ≡ true → all_given kinds (passed args) ≡ true
args_given kinds [] m = refl
args_given kinds (arg.Passed r ∷ args) m =
    rw (passed_given (kind_in kinds r) (and_left (meets Passed (kind_in kinds r)) (list_all (is_met kinds) (map read_of_arg args)) m))
    (args_given kinds args (and_right (meets Passed (kind_in kinds r)) (list_all (is_met kinds) (map read_of_arg args)) m))
args_given kinds (arg.Lent r ∷ args) m = args_given kinds args (and_right (is_met kinds (read_of_arg (arg.Lent r))) (list_all (is_met kinds) (map read_of_arg args)) m)

results_given : (kinds : Kinds) (rs : List Register) → list_all (is_met kinds) (map (λ r. record { register = r; need = Passed }) rs) ≡ true → all_given kinds rs ≡ true
results_given kinds [] m = refl
results_given kinds (r ∷ rs) m =
    let rest = list_all (is_met kinds) (map (λ r. record { register = r; need = Passed }) rs) in
    rw (passed_given (kind_in kinds r) (and_left (meets Passed (kind_in kinds r)) rest m))
    (results_given kinds rs (and_right (meets Passed (kind_in kinds r)) rest m))

pub owned_given : (k : RegKind) → meets Owned k ≡ true → (is_given k && true) ≡ true
owned_given (held.Own s) m = refl
owned_given k m = cc

-- an instruction moves no lent object
pub moved_given : (kinds : Kinds) (i : Instr) → reads_are_met kinds i ≡ true → all_given kinds (moved i) ≡ true
moved_given kinds (instr.Move a b) m = owned_given (kind_in kinds b) (and_left (meets Owned (kind_in kinds b)) true m)
moved_given kinds (instr.Drop a) m = owned_given (kind_in kinds a) (and_left (meets Owned (kind_in kinds a)) true m)
moved_given kinds (instr.Put slot a) m = owned_given (kind_in kinds a) (and_left (meets Owned (kind_in kinds a)) true m)
moved_given kinds (instr.Hang o place v) m =
    owned_given (kind_in kinds v) (and_left (meets Owned (kind_in kinds v)) true (and_right (meets Owned (kind_in kinds o)) (meets Owned (kind_in kinds v) && true) m))
moved_given kinds (instr.Call c method args results e label) m = args_given kinds args (and_right (is_met kinds (read c Target)) (list_all (is_met kinds) (map read_of_arg args)) m)
moved_given kinds (instr.Ret results) m = results_given kinds results m
moved_given kinds i m = refl

-- the registers of a frame once the objects that its instruction moves have left
record Given (types : Typing) (kinds : Kinds) (i : Instr) (regs : Registers) : Type 0 where
  wide : length kinds ≡ 32
  fits : Fits types (left kinds i) regs

abbrev given_fine : (types : Typing) (kinds : Kinds) (i : Instr) (regs : Registers) → Given types kinds i regs → Fine types (left kinds i) regs
given_fine types kinds i regs given = record { wide = length-leave_all (moved i) kinds ∙ given.wide; fits = given.fits }

-- Whether they have left or not, they have once they are given up.
both_give : (types : Typing) (kinds : Kinds) (i : Instr) (regs : Registers) → length kinds ≡ 32 → Fits types kinds regs → reads_are_met kinds i ≡ true → Given types kinds i (all_given_up (moved i) regs)
both_give types kinds i regs wide fit met = record { wide = wide; fits = (give_all_fine types (moved i) kinds regs (record { wide = wide; fits = fit }) (moved_given kinds i met)).fits }

stays_given : (types : Typing) (kinds : Kinds) (i : Instr) (regs : Registers) → Given types kinds i regs → reads_are_met kinds i ≡ true → all_given_up (moved i) regs ≡ regs
stays_given types kinds i regs given met = keep_all types (moved i) (left kinds i) regs given.fits (left_none (moved i) kinds (moved_given kinds i met))

pub counts_match : (m : Option MethodRow) (args : List CallArg) (results : List Register) → has_counts m args results ≡ true → length (results_of m) ≡ length results
counts_match None args results h = cc
counts_match (Some m) args results h = eqb-true (length m.results) (length results) (and_right (length m.params == length args) (length m.results == length results) h)

-- the kinds behind an answer
abbrev pub behind_kinds : Domain → Kinds → Instr → Answer → Kinds
behind_kinds d kinds i (answer.Failed failure) = at_label kinds i
behind_kinds d kinds i _ = after d kinds i

went_owned : (types : Typing) (kinds : Kinds) (regs : Registers) (a : Register) → Fine types kinds regs → meets Owned (kind_in kinds a) ≡ true → Fits types (leave kinds a) (with_value regs a None)
went_owned types kinds regs a fine m =
    subst (λ k. Fits types k (with_value regs a None)) (sym (owned_leaves kinds a m))
    (set_fine types kinds regs a held.Empty None fine refl).fits

set_twice : (kinds : Kinds) (a : ℕ) → slice_set (slice_set kinds a held.Empty) a held.Empty ≡ slice_set kinds a held.Empty
set_twice [] a = refl
set_twice (k ∷ kinds) zero = refl
set_twice (k ∷ kinds) (suc a) = ap (λ rest. k ∷ rest) (set_twice kinds a)

-- the same where the object has left already
went_left : (types : Typing) (kinds : Kinds) (regs : Registers) (a : Register) → length kinds ≡ 32 → Fits types (leave kinds a) regs → meets Owned (kind_in kinds a) ≡ true → Fits types (leave kinds a) (with_value regs a None)
went_left types kinds regs a wide fit m =
    let is = owned_leaves kinds a m in
    let fine : Fine types (with_kind kinds a held.Empty) regs = record { wide = length-set kinds a.number held.Empty ∙ wide; fits = subst (λ k. Fits types k regs) is fit } in
    subst (λ k. Fits types k (with_value regs a None)) (set_twice kinds a.number ∙ sym is) (set_fine types (with_kind kinds a held.Empty) regs a held.Empty None fine refl).fits

-- the results of a call, and its code, once the moved objects have left
back_fine : (types : Typing) (d : Domain) (kinds : Kinds) (c : Register) (method : List ℕ) (args : List CallArg) (results : List Register) (e : Register) (label : List ℕ) (values : List Value) (regs : Registers) → Given types kinds (instr.Call c method args results e label) regs → has_counts (method_called d.tables (kind_in kinds c) method) args results ≡ true → are_values types (results_of (method_called d.tables (kind_in kinds c) method)) values ≡ true → Fits types (after d kinds (instr.Call c method args results e label)) (put_values results values regs)
back_fine types d kinds c method args results e label values regs given counts are =
    (put_fine types (results_of (method_called d.tables (kind_in kinds c) method)) results values (leave_all (passed args) kinds) regs
    (counts_match (method_called d.tables (kind_in kinds c) method) args results counts) are (given_fine types kinds (instr.Call c method args results e label) regs given)).fits

failed_fine : (types : Typing) (kinds : Kinds) (c : Register) (method : List ℕ) (args : List CallArg) (results : List Register) (e : Register) (label : List ℕ) (failure : RpcCode) (regs : Registers) → Given types kinds (instr.Call c method args results e label) regs → Fits types (at_label kinds (instr.Call c method args results e label)) (with_number regs e (code_number failure))
failed_fine types kinds c method args results e label failure regs given =
    (set_fine types (leave_all (passed args) kinds) regs e held.Num (Some (value.Num (code_number failure))) (given_fine types kinds (instr.Call c method args results e label) regs given) refl).fits

-- the registers behind an answer
answered_fine : (types : Typing) (d : Domain) (kinds : Kinds) (i : Instr) (a : Answer) (regs : Registers) → Fine types kinds regs → reads_are_met kinds i ≡ true → has_method d kinds (line.Code i) ≡ true → FitsAnswer types d kinds i a → Fits types (behind_kinds d kinds i a) (answered i a regs)
answered_fine types d kinds (instr.New a ty) (answer.Made o) regs fine met counts fits = (set_fine types kinds regs a (held.Own (struct_number d.tables ty)) (Some (value.Obj o)) fine (eq-eqb (types.struct_of o) (struct_number d.tables ty) fits)).fits
answered_fine types d kinds (instr.Take a slot) (answer.Made o) regs fine met counts fits = (set_fine types kinds regs a (held.Own (slot_struct d slot)) (Some (value.Obj o)) fine (eq-eqb (types.struct_of o) (slot_struct d slot) fits)).fits
answered_fine types d kinds (instr.Unhang a o place) (answer.Made v) regs fine met counts fits =
    (set_fine types kinds regs a (own_kind (hung_at d.tables (kind_in kinds o) place)) (Some (value.Obj v)) fine
    (ap (λ s. fits_kind types (own_kind s) (Some (value.Obj v))) fits ∙ eq-eqb (types.struct_of v) (types.struct_of v) refl)).fits
answered_fine types d kinds (instr.Drop a) answer.Went regs fine met counts fits = went_owned types kinds regs a fine (and_left (meets Owned (kind_in kinds a)) true met)
answered_fine types d kinds (instr.Put slot a) answer.Went regs fine met counts fits = went_owned types kinds regs a fine (and_left (meets Owned (kind_in kinds a)) true met)
answered_fine types d kinds (instr.Hang o place v) answer.Went regs fine met counts fits =
    went_owned types kinds regs v fine (and_left (meets Owned (kind_in kinds v)) true (and_right (meets Owned (kind_in kinds o)) (meets Owned (kind_in kinds v) && true) met))
answered_fine types d kinds (instr.Set o i v) answer.Went regs fine met counts fits = fine.fits
answered_fine types d kinds (instr.Wput i v) answer.Went regs fine met counts fits = fine.fits
answered_fine types d kinds (instr.DevGet o k) answer.Went regs fine met counts fits = fine.fits
answered_fine types d kinds (instr.DevPut k o) answer.Went regs fine met counts fits = fine.fits
answered_fine types d kinds (instr.Call c method args results e label) (answer.Back values) regs fine met counts fits =
    back_fine types d kinds c method args results e label values (all_given_up (passed args) regs) (both_give types kinds (instr.Call c method args results e label) regs fine.wide fine.fits met) counts fits
answered_fine types d kinds (instr.Call c method args results e label) (answer.Failed failure) regs fine met counts fits =
    failed_fine types kinds c method args results e label failure (all_given_up (passed args) regs) (both_give types kinds (instr.Call c method args results e label) regs fine.wide fine.fits met)
answered_fine types d kinds i a regs fine met counts fits = absurd fits

-- the same, where the moved objects have left already
waiting_fine : (types : Typing) (d : Domain) (kinds : Kinds) (i : Instr) (a : Answer) (regs : Registers) → Given types kinds i regs → reads_are_met kinds i ≡ true → has_method d kinds (line.Code i) ≡ true → FitsAnswer types d kinds i a → Fits types (behind_kinds d kinds i a) (answered i a regs)
waiting_fine types d kinds (instr.Drop a) answer.Went regs given met counts fits = went_left types kinds regs a given.wide given.fits (and_left (meets Owned (kind_in kinds a)) true met)
waiting_fine types d kinds (instr.Put slot a) answer.Went regs given met counts fits = went_left types kinds regs a given.wide given.fits (and_left (meets Owned (kind_in kinds a)) true met)
waiting_fine types d kinds (instr.Hang o place v) answer.Went regs given met counts fits =
    went_left types kinds regs v given.wide given.fits (and_left (meets Owned (kind_in kinds v)) true (and_right (meets Owned (kind_in kinds o)) (meets Owned (kind_in kinds v) && true) met))
waiting_fine types d kinds (instr.Call c method args results e label) (answer.Back values) regs given met counts fits =
    subst (λ r. Fits types (after d kinds (instr.Call c method args results e label)) (put_values results values r)) (sym (stays_given types kinds (instr.Call c method args results e label) regs given met))
    (back_fine types d kinds c method args results e label values regs given counts fits)
waiting_fine types d kinds (instr.Call c method args results e label) (answer.Failed failure) regs given met counts fits =
    subst (λ r. Fits types (at_label kinds (instr.Call c method args results e label)) (with_number r e (code_number failure))) (sym (stays_given types kinds (instr.Call c method args results e label) regs given met))
    (failed_fine types kinds c method args results e label failure regs given)
waiting_fine types d kinds (instr.New a ty) ans regs given met counts fits = answered_fine types d kinds (instr.New a ty) ans regs (given_fine types kinds (instr.New a ty) regs given) met counts fits
waiting_fine types d kinds (instr.Take a slot) ans regs given met counts fits = answered_fine types d kinds (instr.Take a slot) ans regs (given_fine types kinds (instr.Take a slot) regs given) met counts fits
waiting_fine types d kinds (instr.Unhang a o place) ans regs given met counts fits = answered_fine types d kinds (instr.Unhang a o place) ans regs (given_fine types kinds (instr.Unhang a o place) regs given) met counts fits
waiting_fine types d kinds (instr.Set o i v) ans regs given met counts fits = answered_fine types d kinds (instr.Set o i v) ans regs (given_fine types kinds (instr.Set o i v) regs given) met counts fits
waiting_fine types d kinds (instr.Wput i v) ans regs given met counts fits = answered_fine types d kinds (instr.Wput i v) ans regs (given_fine types kinds (instr.Wput i v) regs given) met counts fits
waiting_fine types d kinds (instr.DevGet o k) ans regs given met counts fits = answered_fine types d kinds (instr.DevGet o k) ans regs (given_fine types kinds (instr.DevGet o k) regs given) met counts fits
waiting_fine types d kinds (instr.DevPut k o) ans regs given met counts fits = answered_fine types d kinds (instr.DevPut k o) ans regs (given_fine types kinds (instr.DevPut k o) regs given) met counts fits
waiting_fine types d kinds i a regs given met counts fits = absurd fits

-- control goes on from what is answered
answer_goes : (types : Typing) (d : Domain) (kinds : Kinds) (i : Instr) (a : Answer) → FitsAnswer types d kinds i a → ends i ≡ false
answer_goes types d kinds (instr.Jmp label) a fits = absurd fits
answer_goes types d kinds (instr.Ret results) a fits = absurd fits
answer_goes types d kinds instr.Trap a fits = absurd fits
answer_goes types d kinds i a fits = refl

-- only a call fails, and it has a label
pub failed_label : (types : Typing) (d : Domain) (kinds : Kinds) (i : Instr) (failure : RpcCode) → FitsAnswer types d kinds i (answer.Failed failure) → (label : List ℕ) × (label_of i ≡ Some label)
failed_label types d kinds (instr.Call c method args results e label) failure fits = (label, refl)
failed_label types d kinds i failure fits = absurd fits

stands_answered : (d : Domain) (types : Typing) (n number : ℕ) (i : Instr) (a : Answer) (regs : Registers) → KeepsRules d → is_inside (function_at d.lines n) ≡ true → slice_get d.lines n ≡ Some (record { line = number; form = line.Code i }) → FitsAnswer types d (kinds_at d n) i a → Fits types (behind_kinds d (kinds_at d n) i a) regs → FitsStand types d (after_answer_at d n a regs)
stands_answered d types n number i (answer.Failed failure) regs keeps inside here fits fit =
    let label = failed_label types d (kinds_at d n) i failure fits in
    stands_jumped d types n number i label.0 regs keeps here label.1 fit
stands_answered d types n number i (answer.Made o) regs keeps inside here fits fit = stands_next d types n number i regs keeps inside here (answer_goes types d (kinds_at d n) i (answer.Made o) fits) fit
stands_answered d types n number i answer.Went regs keeps inside here fits fit = stands_next d types n number i regs keeps inside here (answer_goes types d (kinds_at d n) i answer.Went fits) fit
stands_answered d types n number i (answer.Back values) regs keeps inside here fits fit = stands_next d types n number i regs keeps inside here (answer_goes types d (kinds_at d n) i (answer.Back values) fits) fit

pub answers_fit : AnswersFit
answers_fit d types i a s keeps at stand fits =
    let kinds = kinds_at d s.at in
    let kept = keeps_at d s.at at.number (line.Code i) keeps at.here in
    stands_answered d types s.at at.number i a (answered i a s.regs) keeps stand.inside at.here fits
    (answered_fine types d kinds i a s.regs (record { wide = length-kinds_at d s.at; fits = stand.regs })
    (and_left (reads_are_met kinds i) (operands_suit d s.at kinds i) kept.kinds) kept.method fits)

pub waiting_answers_fit : WaitingAnswersFit
waiting_answers_fit d types i a s keeps waiting fits =
    let kinds = kinds_at d s.at in
    let kept = keeps_at d s.at waiting.number (line.Code i) keeps waiting.here in
    stands_answered d types s.at waiting.number i a (answered i a s.regs) keeps waiting.inside waiting.here fits
    (waiting_fine types d kinds i a s.regs (record { wide = length-kinds_at d s.at; fits = waiting.regs })
    (and_left (reads_are_met kinds i) (operands_suit d s.at kinds i) kept.kinds) kept.method fits)

pub gives_up : GivesUp
gives_up d types i s keeps at stand =
    let kinds = kinds_at d s.at in
    let kept = keeps_at d s.at at.number (line.Code i) keeps at.here in
    record {
      number = at.number;
      here = at.here;
      inside = stand.inside;
      regs = (both_give types kinds i s.regs (length-kinds_at d s.at) stand.regs (and_left (reads_are_met kinds i) (operands_suit d s.at kinds i) kept.kinds)).fits;
    }
