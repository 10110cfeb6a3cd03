-- What an action passes is of the kinds that its method asks for, and what may be answered to it.
use Rattle.std.proofs.Common.{◌≡◌, refl, sym, ◌∙◌, ap, subst, ℕ, zero, suc, ◌==◌, Bool, true, false, ◌&&◌, List, [], ◌∷◌, length, map, Option, Some, None, slice_get, arith, is_some, unwrap_or, nat_eq}
use Rattle.std.specs.Prelude.{if◌then◌else◌, nat_lt, is_none}
use Rattle.std.specs.List.{list_all}
use Rattle.std.specs.Option.{option_map}
use Rattle.std.specs.Cmp.Lexicographic.{pointwise}
use Rattle.std.proofs.lemmas.Bool.{eqb-true}
use Rattle.std.proofs.lemmas.Bool.Decides.{Decides-eqb}
use Rattle.std.proofs.lemmas.Slice.Eq.{slice_eq-Decides}
use Rattle.rl_defs.specs.declared.values.Value.{Value}
use Rattle.rl_defs.specs.declared.values.Value.TheVariants as value
use Rattle.machine_defs.specs.declared.values.Arg.{Arg}
use Rattle.machine_defs.specs.declared.values.Arg.TheVariants as given
use Rattle.machine_defs.specs.declared.values.Cause.{Cause}
use Rattle.machine_defs.specs.declared.values.Cause.TheVariants as cause
use Rattle.machine_defs.specs.declared.values.RpcCode.{RpcCode}
use Rattle.machine_defs.specs.declared.frame.Action.{Action}
use Rattle.machine_defs.specs.declared.frame.Action.TheVariants as action
use Rattle.machine_defs.specs.declared.frame.Answer.TheVariants as answer
use Rattle.rl_defs.specs.declared.code.Register.{Register}
use Rattle.rl_defs.specs.declared.code.RegKind.{RegKind}
use Rattle.rl_defs.specs.declared.code.RegKind.TheVariants as held
use Rattle.rl_defs.specs.declared.code.CallArg.{CallArg}
use Rattle.rl_defs.specs.declared.code.CallArg.TheVariants as arg
use Rattle.rl_defs.specs.declared.code.Instr.{Instr}
use Rattle.rl_defs.specs.declared.code.Instr.TheVariants as instr
use Rattle.rl_defs.specs.declared.code.DomainLine.TheVariants as line
use Rattle.rl_defs.specs.declared.tables.Kind.{Kind}
use Rattle.rl_defs.specs.declared.tables.Kind.TheVariants as kind
use Rattle.rl_defs.specs.declared.tables.MethodRow.{MethodRow}
use Rattle.machine_defs.specs.Sight.{Sight}
use Rattle.rl_defs.specs.DomainValue.{Domain}
use Rattle.rl_defs.specs.Interfaces.{place_of}
use Rattle.rl_defs.specs.CodeNames.{struct_number, methods_of, method_number, method_named, row_at, params_of, results_of, slots, place_in, type_at, slot_struct, method_at}
use Rattle.rl_defs.specs.CodeKinds.{Kinds, kinds_at, kind_in, Owned, Target, Passed, read, read_of_arg, as_register, method_called, hung_at}
use Rattle.rl_defs.specs.CodeRules.{meets, is_met, reads_are_met, same_kind, is_struct, passes_as, args_suit as code_args_suit, results_suit, suits_slot, suits_cell, operands_suit, has_cell, declares, has_counts, has_method}
use Rattle.rl_defs.specs.CodeKinds.{object_struct}
use Rattle.machine_defs.specs.Arguments.{value_of}
use Rattle.rl_defs.specs.CodeRules.{KeepsRules}
use Rattle.rl_defs.specs.Registers.{Typing, fits_kind, Fits}
use Rattle.machine_defs.specs.CodeFits.{FitsStand, FitsSight, FitsAnswer, are_values}
use Rattle.machine_defs.specs.CodeLaws.{StandsAt}
use Rattle.machine_defs.specs.NativeFits.{arg_suits, args_suit, value_suits, values_suit}
use Rattle.rl_defs.specs.Registers.{Registers, value_in, Stand}
use Rattle.machine_defs.specs.Instructions.{object, object_in, number_in, target, arg_fits, args_fit, value_fits, values_fit, passed_value, given_by, result_in, struct_in, trait_in, cell_kind, Outcome, Works, Jumps, Would, number_or_trap, unless_trap, setting, calculate, meaning, work}
use Rattle.rl_defs.specs.CodeNames.{slot_number}
use Rattle.rl_defs.specs.CodeKinds.{trait_of_kind}
use Rattle.machine_defs.proofs.CodeTypes.{called_is_named, target_is}
use Rattle.machine_defs.proofs.CodeRegisters.{and_left, and_right}
use Rattle.machine_defs.proofs.CodeSafe.{work_is, finds}
use Rattle.machine_defs.proofs.CodeStands.{keeps_at}
use Rattle.machine_laws.specs.Registers.{is_lent_kind, is_passed_as, all_pass_as}
use Rattle.machine_laws.proofs.OwnWork.{met_at}

-- arguments and results that suit a method are of its kinds, and are moved or lent as it says
arg_of_kind : (types : Typing) (k : Kind) (a : Arg) → arg_suits types k a ≡ true → fits_kind types (as_register k) (Some (value_of a)) ≡ true
arg_of_kind types (kind.Num w) (given.Num n) s = refl
arg_of_kind types (kind.Own ty) (given.Moved o) s = s
arg_of_kind types (kind.Lent ty) (given.Lent o) s = s
arg_of_kind types (kind.Cap t) (given.Cap x) s = s
arg_of_kind types k a s = cc

pub args_are_values : (types : Typing) (ks : List Kind) (args : List Arg) → args_suit types ks args ≡ true → are_values types ks (map value_of args) ≡ true
args_are_values types [] [] s = refl
args_are_values types [] (a ∷ args) s = cc
args_are_values types (k ∷ ks) [] s = cc
args_are_values types (k ∷ ks) (a ∷ args) s =
    rw (arg_of_kind types k a (and_left (arg_suits types k a) (args_suit types ks args) s)) (args_are_values types ks args (and_right (arg_suits types k a) (args_suit types ks args) s))

arg_passes : (types : Typing) (k : Kind) (a : Arg) → arg_suits types k a ≡ true → is_passed_as k a ≡ true
arg_passes types (kind.Own ty) (given.Moved o) s = refl
arg_passes types (kind.Lent ty) (given.Lent o) s = refl
arg_passes types (kind.Num w) a s = refl
arg_passes types (kind.Cap t) a s = refl
arg_passes types k a s = cc

pub args_pass : (types : Typing) (ks : List Kind) (args : List Arg) → args_suit types ks args ≡ true → all_pass_as ks args ≡ true
args_pass types [] args s = refl
args_pass types (k ∷ ks) [] s = refl
args_pass types (k ∷ ks) (a ∷ args) s =
    rw (arg_passes types k a (and_left (arg_suits types k a) (args_suit types ks args) s)) (args_pass types ks args (and_right (arg_suits types k a) (args_suit types ks args) s))

value_of_kind : (types : Typing) (k : Kind) (v : Value) → value_suits types k v ≡ true → fits_kind types (as_register k) (Some v) ≡ true
value_of_kind types (kind.Num w) (value.Num n) s = refl
value_of_kind types (kind.Own ty) (value.Obj o) s = s
value_of_kind types (kind.Cap t) (value.Cap x) s = s
value_of_kind types k v s = cc

pub results_are_values : (types : Typing) (ks : List Kind) (values : List Value) → values_suit types ks values ≡ true → are_values types ks values ≡ true
results_are_values types [] [] s = refl
results_are_values types [] (v ∷ values) s = cc
results_are_values types (k ∷ ks) [] s = cc
results_are_values types (k ∷ ks) (v ∷ values) s =
    rw (value_of_kind types k v (and_left (value_suits types k v) (values_suit types ks values) s)) (results_are_values types ks values (and_right (value_suits types k v) (values_suit types ks values) s))

-- the arguments of a call
struct_is : (types : Typing) (s t o : ℕ) → (s == t) ≡ true → (types.struct_of o == t) ≡ true → (types.struct_of o == s) ≡ true
struct_is types s t o same e = ap (λ n. types.struct_of o == n) (eqb-true s t same) ∙ e

passed_suits : (types : Typing) (p : Kind) (k : RegKind) (v : Option Value) → is_lent_kind p ≡ false → same_kind (as_register p) k ≡ true → fits_kind types k v ≡ true → arg_fits p (passed_value v) ≡ true → arg_suits types p (passed_value v) ≡ true
passed_suits types (kind.Num w) held.Num (Some (value.Num n)) plain same f width = width
passed_suits types (kind.Own s) (held.Own t) (Some (value.Obj o)) plain same f width = struct_is types s t o same f
passed_suits types (kind.Cap s) (held.Cap t) (Some (value.Cap x)) plain same f width = ap (λ n. types.trait_of x == n) (eqb-true s t same) ∙ f
passed_suits types (kind.Lent s) k v plain same f width = cc
passed_suits types p k v plain same f width = cc

lent_suits : (types : Typing) (s : ℕ) (k : RegKind) (v : Option Value) → is_struct s (object_struct k) ≡ true → fits_kind types k v ≡ true → (types.struct_of (object v) == s) ≡ true
lent_suits types s (held.Own t) (Some (value.Obj o)) is f = ap (λ n. types.struct_of o == n) (sym (eqb-true t s is)) ∙ f
lent_suits types s (held.Lent t) (Some (value.Obj o)) is f = ap (λ n. types.struct_of o == n) (sym (eqb-true t s is)) ∙ f
lent_suits types s k v is f = cc

given_suits : (types : Typing) (kinds : Kinds) (regs : Registers) (p : Kind) (a : CallArg) → Fits types kinds regs → passes_as kinds p a ≡ true → arg_fits p (given_by regs a) ≡ true → arg_suits types p (given_by regs a) ≡ true
given_suits types kinds regs (kind.Lent s) (arg.Lent r) fit is width = lent_suits types s (kind_in kinds r) (value_in regs r) is (fit.each r.number)
given_suits types kinds regs (kind.Lent s) (arg.Passed r) fit is width = cc
given_suits types kinds regs (kind.Num w) (arg.Passed r) fit is width = passed_suits types (kind.Num w) (kind_in kinds r) (value_in regs r) refl is (fit.each r.number) width
given_suits types kinds regs (kind.Own s) (arg.Passed r) fit is width = passed_suits types (kind.Own s) (kind_in kinds r) (value_in regs r) refl is (fit.each r.number) width
given_suits types kinds regs (kind.Cap t) (arg.Passed r) fit is width = passed_suits types (kind.Cap t) (kind_in kinds r) (value_in regs r) refl is (fit.each r.number) width
given_suits types kinds regs p (arg.Lent r) fit is width = cc

call_suits : (types : Typing) (kinds : Kinds) (regs : Registers) (ps : List Kind) (args : List CallArg) → Fits types kinds regs → length ps ≡ length args → code_args_suit kinds ps args ≡ true → args_fit ps (map (given_by regs) args) ≡ true → args_suit types ps (map (given_by regs) args) ≡ true
call_suits types kinds regs [] [] fit many is width = refl
call_suits types kinds regs [] (a ∷ args) fit many is width = absurd (omega arith)
call_suits types kinds regs (p ∷ ps) [] fit many is width = absurd (omega arith)
call_suits types kinds regs (p ∷ ps) (a ∷ args) fit many is width =
    let here = given_suits types kinds regs p a fit (and_left (passes_as kinds p a) (code_args_suit kinds ps args) is) (and_left (arg_fits p (given_by regs a)) (args_fit ps (map (given_by regs) args)) width) in
    rw here (call_suits types kinds regs ps args fit (omega arith) (and_right (passes_as kinds p a) (code_args_suit kinds ps args) is) (and_right (arg_fits p (given_by regs a)) (args_fit ps (map (given_by regs) args)) width))

-- the results of a return
result_suits : (types : Typing) (p : Kind) (k : RegKind) (v : Option Value) → meets Passed k ≡ true → same_kind (as_register p) k ≡ true → fits_kind types k v ≡ true → value_fits p (unwrap_or v (value.Num 0)) ≡ true → value_suits types p (unwrap_or v (value.Num 0)) ≡ true
result_suits types (kind.Num w) held.Num (Some (value.Num n)) m same f width = width
result_suits types (kind.Own s) (held.Own t) (Some (value.Obj o)) m same f width = struct_is types s t o same f
result_suits types (kind.Cap s) (held.Cap t) (Some (value.Cap x)) m same f width = ap (λ n. types.trait_of x == n) (eqb-true s t same) ∙ f
result_suits types (kind.Lent s) (held.Lent t) v m same f width = cc
result_suits types (kind.Lent s) k v m same f width = cc
result_suits types p k v m same f width = cc

return_suits : (types : Typing) (kinds : Kinds) (regs : Registers) (ps : List Kind) (rs : List Register) → Fits types kinds regs → list_all (is_met kinds) (map (λ r. read r Passed) rs) ≡ true → results_suit kinds ps rs ≡ true → values_fit ps (map (result_in regs) rs) ≡ true → values_suit types ps (map (result_in regs) rs) ≡ true
return_suits types kinds regs [] [] fit m is width = refl
return_suits types kinds regs [] (r ∷ rs) fit m is width = cc
return_suits types kinds regs (p ∷ ps) [] fit m is width = cc
return_suits types kinds regs (p ∷ ps) (r ∷ rs) fit m is width =
    let rest = list_all (is_met kinds) (map (λ q. read q Passed) rs) in
    let here = result_suits types p (kind_in kinds r) (value_in regs r) (and_left (meets Passed (kind_in kinds r)) rest m) (and_left (same_kind (as_register p) (kind_in kinds r)) (results_suit kinds ps rs) is) (fit.each r.number) (and_left (value_fits p (result_in regs r)) (values_fit ps (map (result_in regs) rs)) width) in
    rw here (return_suits types kinds regs ps rs fit (and_right (meets Passed (kind_in kinds r)) rest m) (and_right (same_kind (as_register p) (kind_in kinds r)) (results_suit kinds ps rs) is) (and_right (value_fits p (result_in regs r)) (values_fit ps (map (result_in regs) rs)) width))

-- a name stands at its place
same_text : (left right : List ℕ) → pointwise nat_eq left right ≡ true → left ≡ right
same_text left right is = (slice_eq-Decides Decides-eqb left right true (sym is)).0 refl

place_first : (name x : List ℕ) (xs : List (List ℕ)) (b : Bool) (o : Option ℕ) (k : ℕ) → (b ≡ true → x ≡ name) → ((j : ℕ) → o ≡ Some j → slice_get xs j ≡ Some name) → (if b then Some 0 else option_map (λ j. suc j) o) ≡ Some k → slice_get (x ∷ xs) k ≡ Some name
place_first name x xs true o k same rest e = let at : 0 ≡ k = cc in ap (slice_get (x ∷ xs)) (sym at) ∙ ap (λ y. Some y) (same refl)
place_first name x xs false None k same rest e = absurd (cc)
place_first name x xs false (Some j) k same rest e = let at : suc j ≡ k = cc in ap (slice_get (x ∷ xs)) (sym at) ∙ rest j refl

pub place_holds : (name : List ℕ) (xs : List (List ℕ)) (k : ℕ) → place_of name xs ≡ Some k → slice_get xs k ≡ Some name
place_holds name [] k e = absurd (cc)
place_holds name (x ∷ xs) k e = place_first name x xs (pointwise nat_eq x name) (place_of name xs) k (same_text x name) (place_holds name xs) e

row_name : (methods : List MethodRow) (k : ℕ) (row : MethodRow) (name : List ℕ) → slice_get (map (λ m. m.name) methods) k ≡ Some name → slice_get methods k ≡ Some row → row.name ≡ name
row_name [] k row name a b = absurd (cc)
row_name (m ∷ methods) zero row name a b = cc
row_name (m ∷ methods) (suc k) row name a b = row_name methods k row name a b

-- the method that a call's register and name stand for
abbrev pub called_by : Domain → Kinds → Instr → Option MethodRow
called_by d kinds (instr.Call c name args results code label) = method_called d.tables (kind_in kinds c) name
called_by d kinds i = None

-- the method that a call is of
pub record CallFits (types : Typing) (d : Domain) (kinds : Kinds) (i : Instr) (x m : ℕ) (args : List Arg) : Type 0 where
  pub method : MethodRow
  pub is : called_by d kinds i ≡ Some method
  pub named : method_number d.tables (types.trait_of x) method.name ≡ Some m
  pub row : slice_get (methods_of d.tables (types.trait_of x)) m ≡ Some method
  pub suits : args_suit types method.params args ≡ true
  pub back : (values : List Value) → are_values types method.results values ≡ true → FitsAnswer types d kinds i (answer.Back values)
  pub failed : (why : RpcCode) → FitsAnswer types d kinds i (answer.Failed why)

-- what an object is taken from, and the answer that brings it
pub record BringsFit (types : Typing) (d : Domain) (kinds : Kinds) (i : Instr) (from : Option ℕ) : Type 0 where
  pub object : ℕ
  pub there : from ≡ Some object
  pub answers : FitsAnswer types d kinds i (answer.Made object)

-- What holds of each action of a frame that fits, and which answers fit it.
abbrev pub FitsAct : Typing → Domain → ℕ → Sight → ℕ → Kinds → Instr → Action → Type 0
FitsAct types d n sight live kinds i (action.Trap c) = Unit {0}
FitsAct types d n sight live kinds i (action.New ty) = (nat_lt live 65536 ≡ true) × ((other : Typing) (o : ℕ) → other.struct_of o ≡ ty → FitsAnswer other d kinds i (answer.Made o))
FitsAct types d n sight live kinds i (action.Drop o) = FitsAnswer types d kinds i answer.Went
FitsAct types d n sight live kinds i (action.Set o place values) = (is_some (sight.cell o place) ≡ true) × FitsAnswer types d kinds i answer.Went
FitsAct types d n sight live kinds i (action.Wput place v) = (is_some (sight.word place) ≡ true) × FitsAnswer types d kinds i answer.Went
FitsAct types d n sight live kinds i (action.Take slot) = BringsFit types d kinds i (sight.slot slot)
FitsAct types d n sight live kinds i (action.Put slot o) = (sight.slot slot ≡ None) × (types.struct_of o ≡ struct_number d.tables (type_at (slots d.lines) (Some slot))) × FitsAnswer types d kinds i answer.Went
FitsAct types d n sight live kinds i (action.DevGet o block) = (nat_lt block sight.blocks ≡ true) × FitsAnswer types d kinds i answer.Went
FitsAct types d n sight live kinds i (action.DevPut block o) = (nat_lt block sight.blocks ≡ true) × FitsAnswer types d kinds i answer.Went
FitsAct types d n sight live kinds i (action.Hang q place o) = (sight.hung q place ≡ None) × (hung_at d.tables (held.Own (types.struct_of q)) place ≡ Some (types.struct_of o)) × FitsAnswer types d kinds i answer.Went
FitsAct types d n sight live kinds i (action.Unhang q place) = BringsFit types d kinds i (sight.hung q place)
FitsAct types d n sight live kinds i (action.Call x m args) = CallFits types d kinds i x m args
FitsAct types d n sight live kinds i (action.Ret results) = values_suit types (results_of (method_at d n)) results ≡ true

abbrev pub FitsWhen : Typing → Domain → ℕ → Sight → ℕ → Kinds → Instr → Outcome → Type 0
FitsWhen types d n sight live kinds i (Would act) = FitsAct types d n sight live kinds i act
FitsWhen types d n sight live kinds i o = Unit {0}

unless_fits : (types : Typing) (d : Domain) (n : ℕ) (sight : Sight) (live : ℕ) (kinds : Kinds) (i : Instr) (allowed : Bool) (c : Cause) (act : Action) → (allowed ≡ true → FitsAct types d n sight live kinds i act) → FitsWhen types d n sight live kinds i (unless_trap allowed c act)
unless_fits types d n sight live kinds i true c act fits = fits refl
unless_fits types d n sight live kinds i false c act fits = tt

number_fits : (types : Typing) (d : Domain) (n : ℕ) (sight : Sight) (live : ℕ) (kinds : Kinds) (i : Instr) (regs : Registers) (a : Register) (c : Cause) (o : Option ℕ) → FitsWhen types d n sight live kinds i (number_or_trap regs a c o)
number_fits types d n sight live kinds i regs a c None = tt
number_fits types d n sight live kinds i regs a c (Some v) = tt

jz_fits : (types : Typing) (d : Domain) (n : ℕ) (sight : Sight) (live : ℕ) (kinds : Kinds) (i : Instr) (regs : Registers) (b : Bool) → FitsWhen types d n sight live kinds i (if b then Jumps regs else Works regs)
jz_fits types d n sight live kinds i regs true = tt
jz_fits types d n sight live kinds i regs false = tt

set_fits : (types : Typing) (d : Domain) (n : ℕ) (sight : Sight) (live : ℕ) (kinds : Kinds) (o i v : Register) (cell : Option ℕ) (k : Kind) (q place value : ℕ) → cell ≡ sight.cell q place → FitsWhen types d n sight live kinds (instr.Set o i v) (setting cell k q place value)
set_fits types d n sight live kinds o i v None k q place value e = tt
set_fits types d n sight live kinds o i v (Some old) k q place value e = unless_fits types d n sight live kinds (instr.Set o i v) _ cause.Range (action.Set q place (value ∷ [])) (λ a. (ap is_some (sym e), tt))

none_is : {A : Type 0} (o : Option A) → is_none o ≡ true → o ≡ None
none_is None e = refl
none_is (Some x) e = absurd (cc)

some_is : {A : Type 0} (o : Option A) → is_some o ≡ true → (x : A) × (o ≡ Some x)
some_is None e = absurd (cc)
some_is (Some x) e = (x, refl)

-- what is known at an instruction
record Knows (types : Typing) (d : Domain) (n : ℕ) (sight : Sight) (kinds : Kinds) (regs : Registers) (i : Instr) : Type 0 where
  sees : FitsSight types d sight
  fits : Fits types kinds regs
  met : reads_are_met kinds i ≡ true
  suits : operands_suit d n kinds i ≡ true
  cell : has_cell d kinds (line.Code i) ≡ true
  declared : declares d (line.Code i) ≡ true
  method : has_method d kinds (line.Code i) ≡ true

-- an object of a register that is known to hold an own one
owned_struct : (types : Typing) (k : RegKind) (v : Option Value) → meets Owned k ≡ true → fits_kind types k v ≡ true → k ≡ held.Own (types.struct_of (object v))
owned_struct types (held.Own s) (Some (value.Obj o)) m f = ap (λ n. held.Own n) (sym (eqb-true (types.struct_of o) s f))
owned_struct types k v m f = absurd (cc)

take_fits : (types : Typing) (d : Domain) (n : ℕ) (sight : Sight) (kinds : Kinds) (regs : Registers) (a : Register) (slot : List ℕ) (k : Option ℕ) → place_in slot (slots d.lines) ≡ k → Knows types d n sight kinds regs (instr.Take a slot) → is_some k ≡ true → is_some (sight.slot (unwrap_or k 0)) ≡ true → BringsFit types d kinds (instr.Take a slot) (sight.slot (unwrap_or k 0))
take_fits types d n sight kinds regs a slot None e knows declared there = absurd (cc)
take_fits types d n sight kinds regs a slot (Some k) e knows declared there =
    let o = some_is (sight.slot k) there in
    record { object = o.0; there = o.1; answers = knows.sees.slots k o.0 o.1 ∙ ap (λ x. struct_number d.tables (type_at (slots d.lines) x)) (sym e) }

slot_kind : (types : Typing) (s : ℕ) (k : RegKind) (v : Option Value) → same_kind (held.Own s) k ≡ true → fits_kind types k v ≡ true → types.struct_of (object v) ≡ s
slot_kind types s (held.Own t) (Some (value.Obj o)) same f = eqb-true (types.struct_of o) t f ∙ sym (eqb-true s t same)
slot_kind types s k v same f = absurd (cc)

put_struct : (types : Typing) (d : Domain) (slot : List ℕ) (k : Option ℕ) (w : RegKind) (v : Option Value) → place_in slot (slots d.lines) ≡ k → is_some k ≡ true → suits_slot d k slot w ≡ true → fits_kind types w v ≡ true → types.struct_of (object v) ≡ struct_number d.tables (type_at (slots d.lines) (Some (unwrap_or k 0)))
put_struct types d slot None w v e declared suits f = absurd (cc)
put_struct types d slot (Some k) w v e declared suits f =
    slot_kind types (slot_struct d slot) w v suits f ∙ ap (λ x. struct_number d.tables (type_at (slots d.lines) x)) e

hang_struct : (types : Typing) (h : Option ℕ) (w : RegKind) (v : Option Value) → is_some h ≡ true → suits_cell h w ≡ true → fits_kind types w v ≡ true → h ≡ Some (types.struct_of (object v))
hang_struct types None w v some suits f = absurd (cc)
hang_struct types (Some s) w v some suits f = ap (λ x. Some x) (sym (slot_kind types s w v suits f))

unhang_fits : (types : Typing) (d : Domain) (n : ℕ) (sight : Sight) (kinds : Kinds) (regs : Registers) (a o : Register) (place : ℕ) → Knows types d n sight kinds regs (instr.Unhang a o place) → is_some (sight.hung (object_in regs o) place) ≡ true → BringsFit types d kinds (instr.Unhang a o place) (sight.hung (object_in regs o) place)
unhang_fits types d n sight kinds regs a o place knows there =
    let v = some_is (sight.hung (object_in regs o) place) there in
    let is = owned_struct types (kind_in kinds o) (value_in regs o) (and_left (meets Owned (kind_in kinds o)) true knows.met) (knows.fits.each o.number) in
    record { object = v.0; there = v.1; answers = ap (λ k. hung_at d.tables k place) is ∙ knows.sees.hung (object_in regs o) place v.0 v.1 }

-- the method that a call names
method_row : (o : Option ℕ) (methods : List MethodRow) (row : MethodRow) → row_at methods o ≡ Some row → (k : ℕ) × (o ≡ Some k) × (slice_get methods k ≡ Some row)
method_row None methods row e = absurd (cc)
method_row (Some k) methods row e = (k, refl, e)

counted : (m : Option MethodRow) (args : List CallArg) (results : List Register) → has_counts m args results ≡ true → (row : MethodRow) × (m ≡ Some row) × (length row.params ≡ length args)
counted None args results h = absurd (cc)
counted (Some m) args results h = (m, refl, eqb-true (length m.params) (length args) (and_left (length m.params == length args) (length m.results == length results) h))

call_fits : (types : Typing) (d : Domain) (n : ℕ) (sight : Sight) (kinds : Kinds) (regs : Registers) (c : Register) (method : List ℕ) (args : List CallArg) (results : List Register) (e : Register) (label : List ℕ) (k : RegKind) (v : Option Value) → k ≡ kind_in kinds c → v ≡ value_in regs c → Knows types d n sight kinds regs (instr.Call c method args results e label) → meets Target k ≡ true → fits_kind types k v ≡ true → args_fit (params_of (method_called d.tables k method)) (map (given_by regs) args) ≡ true → CallFits types d kinds (instr.Call c method args results e label) (target v) (unwrap_or (method_number d.tables (trait_of_kind k) method) 0) (map (given_by regs) args)
call_fits types d n sight kinds regs c method args results e label (held.Cap t) (Some (value.Cap x)) ke ve knows m f width =
    let trait : types.trait_of x ≡ t = eqb-true (types.trait_of x) t f in
    let called : method_called d.tables (kind_in kinds c) method ≡ method_named d.tables t method = ap (λ z. method_called d.tables z method) (sym ke) in
    let row = counted (method_called d.tables (kind_in kinds c) method) args results knows.method in
    let is : method_named d.tables t method ≡ Some row.0 = sym called ∙ row.1 in
    let at = method_row (method_number d.tables t method) (methods_of d.tables t) row.0 is in
    let name : row.0.name ≡ method = row_name (methods_of d.tables t) at.0 row.0 method (place_holds method (map (λ r. r.name) (methods_of d.tables t)) at.0 at.1) at.2 in
    let number : at.0 ≡ unwrap_or (method_number d.tables t method) 0 = sym (ap (λ o. unwrap_or o 0) at.1) in
    record {
      method = row.0;
      is = row.1;
      named = ap (λ s. method_number d.tables s row.0.name) trait ∙ (ap (method_number d.tables t) name ∙ (at.1 ∙ ap (λ q. Some q) number));
      row = ap (λ s. slice_get (methods_of d.tables s) (unwrap_or (method_number d.tables t method) 0)) trait ∙ (ap (slice_get (methods_of d.tables t)) (sym number) ∙ at.2);
      suits = call_suits types kinds regs row.0.params args knows.fits row.2
          (sym (ap (λ o. code_args_suit kinds (params_of o) args) row.1) ∙ knows.suits)
          (sym (ap (λ o. args_fit (params_of o) (map (given_by regs) args)) is) ∙ width);
      back = λ values are. ap (λ o. are_values types (results_of o) values) row.1 ∙ are;
      failed = λ why. tt;
    }
call_fits types d n sight kinds regs c method args results e label k v ke ve knows m f width = absurd (cc)

fits : (types : Typing) (d : Domain) (n : ℕ) (kinds : Kinds) (sight : Sight) (live : ℕ) (regs : Registers) (i : Instr) → Knows types d n sight kinds regs i → FitsWhen types d n sight live kinds i (meaning d n sight live regs i)
fits types d n kinds sight live regs (instr.Math o a b c) knows = number_fits types d n sight live kinds (instr.Math o a b c) regs a cause.Divide (calculate o (number_in regs b) (number_in regs c))
fits types d n kinds sight live regs (instr.Jz a label) knows = jz_fits types d n sight live kinds (instr.Jz a label) regs (number_in regs a == 0)
fits types d n kinds sight live regs (instr.Get a o i) knows = number_fits types d n sight live kinds (instr.Get a o i) regs a cause.Bounds _
fits types d n kinds sight live regs (instr.Wget a i) knows = number_fits types d n sight live kinds (instr.Wget a i) regs a cause.Bounds _
fits types d n kinds sight live regs (instr.New a ty) knows = unless_fits types d n sight live kinds (instr.New a ty) _ cause.HeapFull (action.New (struct_number d.tables ty)) (λ room. (room, λ other o e. e))
fits types d n kinds sight live regs (instr.Drop a) knows = tt
fits types d n kinds sight live regs (instr.Set o i v) knows =
    set_fits types d n sight live kinds o i v (sight.cell (object_in regs o) (number_in regs i)) (cell_kind d.tables (struct_in sight regs o) (number_in regs i)) (object_in regs o) (number_in regs i) (number_in regs v) refl
fits types d n kinds sight live regs (instr.Wput i v) knows = unless_fits types d n sight live kinds (instr.Wput i v) _ cause.Bounds (action.Wput (number_in regs i) (number_in regs v)) (λ there. (there, tt))
fits types d n kinds sight live regs (instr.Take a slot) knows =
    unless_fits types d n sight live kinds (instr.Take a slot) _ cause.Empty (action.Take (slot_number d slot))
    (λ there. take_fits types d n sight kinds regs a slot (place_in slot (slots d.lines)) refl knows knows.declared there)
fits types d n kinds sight live regs (instr.Put slot a) knows =
    unless_fits types d n sight live kinds (instr.Put slot a) _ cause.Full (action.Put (slot_number d slot) (object_in regs a))
    (λ free. (none_is (sight.slot (slot_number d slot)) free, put_struct types d slot (place_in slot (slots d.lines)) (kind_in kinds a) (value_in regs a) refl knows.declared knows.suits (knows.fits.each a.number), tt))
fits types d n kinds sight live regs (instr.DevGet o k) knows = unless_fits types d n sight live kinds (instr.DevGet o k) _ cause.Device (action.DevGet (object_in regs o) (number_in regs k)) (λ within. (within, tt))
fits types d n kinds sight live regs (instr.DevPut k o) knows = unless_fits types d n sight live kinds (instr.DevPut k o) _ cause.Device (action.DevPut (number_in regs k) (object_in regs o)) (λ within. (within, tt))
fits types d n kinds sight live regs (instr.Hang o place v) knows =
    let is = owned_struct types (kind_in kinds o) (value_in regs o) (and_left (meets Owned (kind_in kinds o)) (meets Owned (kind_in kinds v) && true) knows.met) (knows.fits.each o.number) in
    unless_fits types d n sight live kinds (instr.Hang o place v) _ cause.Full (action.Hang (object_in regs o) place (object_in regs v))
    (λ free. (
      none_is (sight.hung (object_in regs o) place) free,
      ap (λ k. hung_at d.tables k place) (sym is) ∙ hang_struct types (hung_at d.tables (kind_in kinds o) place) (kind_in kinds v) (value_in regs v) knows.cell knows.suits (knows.fits.each v.number),
      tt,
    ))
fits types d n kinds sight live regs (instr.Unhang a o place) knows =
    unless_fits types d n sight live kinds (instr.Unhang a o place) _ cause.Empty (action.Unhang (object_in regs o) place) (λ there. unhang_fits types d n sight kinds regs a o place knows there)
fits types d n kinds sight live regs (instr.Call c method args results e label) knows =
    unless_fits types d n sight live kinds (instr.Call c method args results e label) _ cause.Range (action.Call (target (value_in regs c)) (unwrap_or (method_number d.tables (trait_in sight regs c) method) 0) (map (given_by regs) args))
    (λ width.
    (let k = kind_in kinds c in
    let m = and_left (meets Target k) (list_all (is_met kinds) (map read_of_arg args)) knows.met in
    let f = knows.fits.each c.number in
    let same : trait_in sight regs c ≡ trait_of_kind k = ap (λ (seen : Typing). seen.trait_of (target (value_in regs c))) knows.sees.types_same ∙ target_is types k (value_in regs c) m f in
    let wide = ap (λ o. args_fit (params_of o) (map (given_by regs) args)) (called_is_named d.tables k method m) ∙ (ap (λ t. args_fit (params_of (method_named d.tables t method)) (map (given_by regs) args)) (sym same) ∙ width) in
    subst (λ t. CallFits types d kinds (instr.Call c method args results e label) (target (value_in regs c)) (unwrap_or (method_number d.tables t method) 0) (map (given_by regs) args)) (sym same)
    (call_fits types d n sight kinds regs c method args results e label k (value_in regs c) refl refl knows m f wide)))
fits types d n kinds sight live regs (instr.Ret results) knows =
    unless_fits types d n sight live kinds (instr.Ret results) _ cause.Range (action.Ret (map (result_in regs) results))
    (λ width. return_suits types kinds regs (results_of (method_at d n)) results knows.fits knows.met knows.suits width)
fits types d n kinds sight live regs i knows = tt

pub act_fits : (d : Domain) (types : Typing) (sight : Sight) (live : ℕ) (i : Instr) (s : Stand) (act : Action) → KeepsRules d → FitsSight types d sight → FitsStand types d s → StandsAt d i s → work d sight live s ≡ Would act → FitsAct types d s.at sight live (kinds_at d s.at) i act
act_fits d types sight live i s act keeps sees stand at is =
    let kinds = kinds_at d s.at in
    let kept = keeps_at d s.at at.number (line.Code i) keeps at.here in
    let means : meaning d s.at sight live s.regs i ≡ Would act = sym (work_is d sight live s at.number i at.here (finds d types s at.number i keeps stand at.here)) ∙ is in
    subst (FitsWhen types d s.at sight live kinds i) means
    (fits types d s.at kinds sight live s.regs i (record {
      sees = sees;
      fits = stand.regs;
      met = met_at d s.at at.number i keeps at.here;
      suits = and_right (reads_are_met kinds i) (operands_suit d s.at kinds i) kept.kinds;
      cell = kept.cell;
      declared = kept.declared;
      method = kept.method;
    }))
