-- What the row of a line names is what its instruction means.
use Rattle.std.proofs.Common.{◌≡◌, refl, sym, ◌∙◌, ap, subst, ℕ, suc, ◌<◌, ◌≤◌, ◌^◌, ◌==◌, true, List, [], ◌∷◌, length, map, Option, Some, None, slice_get, is_some, arith, unwrap_or, nat_lt}
use Rattle.std.specs.Prelude.{is_none}
use Rattle.std.specs.List.{list_all}
use Rattle.std.proofs.lemmas.Bool.{eqb-true}
use Rattle.std.proofs.lemmas.Option.{slice_get_within}
use Rattle.rl_defs.specs.declared.values.Value.TheVariants as value
use Rattle.machine_defs.specs.declared.values.Cause.TheVariants as cause
use Rattle.machine_defs.specs.declared.frame.Action.{Action}
use Rattle.machine_defs.specs.declared.frame.Action.TheVariants as action
use Rattle.rl_defs.specs.declared.code.Register.{Register}
use Rattle.rl_defs.specs.declared.code.RegKind.{RegKind}
use Rattle.rl_defs.specs.declared.code.RegKind.TheVariants as held
use Rattle.rl_defs.specs.declared.code.CallArg.{CallArg}
use Rattle.rl_defs.specs.declared.code.Instr.{Instr}
use Rattle.rl_defs.specs.declared.code.Instr.TheVariants as instr
use Rattle.rl_defs.specs.declared.code.DomainLine.TheVariants as line
use Rattle.rl_defs.specs.declared.tables.Kind.{Kind}
use Rattle.rl_defs.specs.declared.tables.MethodRow.{MethodRow}
use Rattle.rl_defs.specs.declared.tables.Tables.{Tables}
use Rattle.rl_defs.specs.DomainValue.{Domain}
use Rattle.machine_defs.specs.Sight.{Sight}
use Rattle.rl_defs.specs.CodeNames.{Function, function_at, cells_of, methods_of, method_number, method_named, row_at, params_of, results_of, method_of_function, method_at, domain_trait}
use Rattle.rl_defs.specs.CodeKinds.{Kinds, kinds_at, kind_in, Owned, Target, read_of_arg, method_called, hung_in, hung_at, as_register}
use Rattle.rl_defs.specs.CodeRules.{meets, is_met, reads_are_met, operands_suit, has_counts, results_suit, same_kind}
use Rattle.rl_defs.specs.Registers.{Registers, with_value, value_in}
use Rattle.machine_defs.specs.Instructions.{Works, Would, with_number, number_in, object_in, target, bit, unless_trap, setting, struct_in, trait_in, cell_kind, args_fit, given_by, values_fit, result_in, meaning}
use Rattle.rl_defs.specs.CodeNames.{slot_number, import_number}
use Rattle.rl_defs.specs.CodeKinds.{trait_of_kind}
use Rattle.rl_defs.specs.TableSizes.{AreTablesSmall}
use Rattle.rl_defs.specs.CodeNames.{struct_number}
use Rattle.rl_defs.specs.LineRows.{Names, number_of_function}
use Rattle.machine_defs.proofs.CodeRegisters.{and_left, and_right}
use Rattle.machine_defs.proofs.CodeStands.{keeps_at, KeptLine}
use Rattle.rl_defs.proofs.TableSizes.{small_method, small_struct}
use Rattle.code_machine.specs.declared.went.Went.{Went}
use Rattle.code_machine.specs.Went.{Comes}
use Rattle.code_machine.specs.Fitting.{Fitting, IsLine}
use Rattle.rl_defs.specs.Registers.{Typing}
use Rattle.machine_defs.proofs.CodeTypes.{object_is, owned_object, target_is, called_is_named}

abbrev pub Named : Domain → ℕ → ℕ → ℕ → ℕ → Type 0
Named d n number of label = (k : ℕ) (i : Instr) → slice_get d.lines n ≡ Some (record { line = k; form = line.Code i }) → Names d n i number of label

-- an instruction that is known, at its line
pub record At (d : Domain) (n : ℕ) (i : Instr) (number of label : ℕ) : Type 0 where
  pub is : IsLine d n i
  pub kept : KeptLine d n (line.Code i)
  pub names : Names d n i number of label

pub at_line : (d : Domain) (n : ℕ) (i j : Instr) (number of label : ℕ) → IsLine d n i → Named d n number of label → i ≡ j → At d n j number of label
at_line d n i j number of label is names e =
    let there = subst (λ x. IsLine d n x) e is in
    record { is = there; kept = keeps_at d n there.number (line.Code j) there.keeps there.here; names = names there.number j there.here }

-- what the instruction means that is known
pub means : (d : Domain) (n : ℕ) (sight : Sight) (live : ℕ) (before behind : Registers) (w : Went) (i j : Instr) → i ≡ j → Comes (meaning d n sight live before j) before behind w → Comes (meaning d n sight live before i) before behind w
means d n sight live before behind w i j e comes = subst (λ x. Comes (meaning d n sight live before x) before behind w) (sym e) comes

-- the action of the instruction that is known
pub acts : (d : Domain) (n : ℕ) (sight : Sight) (live : ℕ) (regs : Registers) (w : Action) (i j : Instr) → i ≡ j → meaning d n sight live regs j ≡ Would w → meaning d n sight live regs i ≡ Would w
acts d n sight live regs w i j e would = subst (λ x. meaning d n sight live regs x ≡ Would w) (sym e) would

pub has_comes : (d : Domain) (n : ℕ) (sight : Sight) (before behind : Registers) (w : Went) (a : Register) (slot : List ℕ) (number of label : ℕ) → At d n (instr.Has a slot) number of label → Comes (Works (with_number before a (bit (is_some (sight.slot number))))) before behind w → Comes (Works (with_number before a (bit (is_some (sight.slot (slot_number d slot)))))) before behind w
has_comes d n sight before behind w a slot number of label at comes =
    subst (λ k. Comes (Works (with_number before a (bit (is_some (sight.slot k))))) before behind w) (at.names.named (slot_number d slot) refl) comes

pub cap_comes : (d : Domain) (n : ℕ) (sight : Sight) (before behind : Registers) (w : Went) (a : Register) (import : List ℕ) (number of label : ℕ) → At d n (instr.Cap a import) number of label → Comes (Works (with_value before a (Some (value.Cap (sight.bound number))))) before behind w → Comes (Works (with_value before a (Some (value.Cap (sight.bound (import_number d import)))))) before behind w
cap_comes d n sight before behind w a import number of label at comes =
    subst (λ k. Comes (Works (with_value before a (Some (value.Cap (sight.bound k))))) before behind w) (at.names.named (import_number d import) refl) comes

pub new_comes : (d : Domain) (n live : ℕ) (regs : Registers) (w : Action) (a : Register) (ty : List ℕ) (number of label : ℕ) → At d n (instr.New a ty) number of label → unless_trap (nat_lt live 65536) cause.HeapFull (action.New number) ≡ Would w → unless_trap (nat_lt live 65536) cause.HeapFull (action.New (struct_number d.tables ty)) ≡ Would w
new_comes d n live regs w a ty number of label at comes =
    subst (λ k. unless_trap (nat_lt live 65536) cause.HeapFull (action.New k) ≡ Would w) (at.names.named (struct_number d.tables ty) refl) comes

pub take_comes : (d : Domain) (n : ℕ) (sight : Sight) (regs : Registers) (w : Action) (a : Register) (slot : List ℕ) (number of label : ℕ) → At d n (instr.Take a slot) number of label → unless_trap (is_some (sight.slot number)) cause.Empty (action.Take number) ≡ Would w → unless_trap (is_some (sight.slot (slot_number d slot))) cause.Empty (action.Take (slot_number d slot)) ≡ Would w
take_comes d n sight regs w a slot number of label at comes =
    subst (λ k. unless_trap (is_some (sight.slot k)) cause.Empty (action.Take k) ≡ Would w) (at.names.named (slot_number d slot) refl) comes

pub put_comes : (d : Domain) (n : ℕ) (sight : Sight) (regs : Registers) (w : Action) (a : Register) (slot : List ℕ) (number of label : ℕ) → At d n (instr.Put slot a) number of label → unless_trap (is_none (sight.slot number)) cause.Full (action.Put number (object_in regs a)) ≡ Would w → unless_trap (is_none (sight.slot (slot_number d slot))) cause.Full (action.Put (slot_number d slot) (object_in regs a)) ≡ Would w
put_comes d n sight regs w a slot number of label at comes =
    subst (λ k. unless_trap (is_none (sight.slot k)) cause.Full (action.Put k (object_in regs a)) ≡ Would w) (at.names.named (slot_number d slot) refl) comes

pub set_comes : (d : Domain) (n : ℕ) (sight : Sight) (regs : Registers) (w : Action) (o i v : Register) (number of label : ℕ) → At d n (instr.Set o i v) number of label → Fitting d sight (record { at = n; regs = regs }) → setting (sight.cell (object_in regs o) (number_in regs i)) (cell_kind d.tables of (number_in regs i)) (object_in regs o) (number_in regs i) (number_in regs v) ≡ Would w → setting (sight.cell (object_in regs o) (number_in regs i)) (cell_kind d.tables (struct_in sight regs o) (number_in regs i)) (object_in regs o) (number_in regs i) (number_in regs v) ≡ Would w
set_comes d n sight regs w o i v number of label at fitting comes =
    let kinds = kinds_at d n in
    let types = fitting.types in
    let met = and_left (reads_are_met kinds (instr.Set o i v)) true at.kept.kinds in
    let owned = owned_object (kind_in kinds o) (and_left (meets Owned (kind_in kinds o)) _ met) in
    let is : of ≡ types.struct_of (object_in regs o) = at.names.typed (types.struct_of (object_in regs o)) (object_is types (kind_in kinds o) (value_in regs o) owned (fitting.stand.regs.each o.number)) in
    let seen : of ≡ struct_in sight regs o = is ∙ sym (ap (λ (t : Typing). t.struct_of (object_in regs o)) fitting.sees.types_same) in
    subst (λ x. setting (sight.cell (object_in regs o) (number_in regs i)) (cell_kind d.tables x (number_in regs i)) (object_in regs o) (number_in regs i) (number_in regs v) ≡ Would w) seen comes

row_is : (methods : List MethodRow) (o : Option ℕ) (args : List CallArg) (results : List Register) → has_counts (row_at methods o) args results ≡ true → row_at methods o ≡ slice_get methods (unwrap_or o 0)
row_is methods None args results h = absurd (cc)
row_is methods (Some m) args results h = refl

called_is : (tables : Tables) (k : RegKind) (name : List ℕ) (args : List CallArg) (results : List Register) (of number : ℕ) → meets Target k ≡ true → has_counts (method_called tables k name) args results ≡ true → of ≡ trait_of_kind k → number ≡ unwrap_or (method_number tables (trait_of_kind k) name) 0 → method_called tables k name ≡ slice_get (methods_of tables of) number
called_is tables (held.Cap t) name args results of number m h e f =
    row_is (methods_of tables t) (method_number tables t name) args results h
    ∙ (ap (slice_get (methods_of tables t)) (sym f) ∙ ap (λ x. slice_get (methods_of tables x) number) (sym e))
called_is tables k name args results of number m h e f = absurd (cc)

-- the method that a call names
pub called : (d : Domain) (n : ℕ) (c : Register) (method : List ℕ) (args : List CallArg) (results : List Register) (e : Register) (label : List ℕ) (number of place : ℕ) → At d n (instr.Call c method args results e label) number of place → method_called d.tables (kind_in (kinds_at d n) c) method ≡ slice_get (methods_of d.tables of) number
called d n c method args results e label number of place at =
    let kinds = kinds_at d n in
    let i = instr.Call c method args results e label in
    let met = and_left (reads_are_met kinds i) (operands_suit d n kinds i) at.kept.kinds in
    called_is d.tables (kind_in kinds c) method args results of number
    (and_left (meets Target (kind_in kinds c)) (list_all (is_met kinds) (map read_of_arg args)) met) at.kept.method
    (at.names.typed (trait_of_kind (kind_in kinds c)) refl) (at.names.named (unwrap_or (method_number d.tables (trait_of_kind (kind_in kinds c)) method) 0) refl)

pub call_comes : (d : Domain) (n : ℕ) (sight : Sight) (regs : Registers) (w : Action) (c : Register) (method : List ℕ) (args : List CallArg) (results : List Register) (e : Register) (label : List ℕ) (number of place : ℕ) → At d n (instr.Call c method args results e label) number of place → Fitting d sight (record { at = n; regs = regs }) → unless_trap (args_fit (params_of (slice_get (methods_of d.tables of) number)) (map (given_by regs) args)) cause.Range (action.Call (target (value_in regs c)) number (map (given_by regs) args)) ≡ Would w → unless_trap (args_fit (params_of (method_named d.tables (trait_in sight regs c) method)) (map (given_by regs) args)) cause.Range (action.Call (target (value_in regs c)) (unwrap_or (method_number d.tables (trait_in sight regs c) method) 0) (map (given_by regs) args)) ≡ Would w
call_comes d n sight regs w c method args results e label number of place at fitting comes =
    let kinds = kinds_at d n in
    let k = kind_in kinds c in
    let types = fitting.types in
    let met = and_left (reads_are_met kinds (instr.Call c method args results e label)) (operands_suit d n kinds (instr.Call c method args results e label)) at.kept.kinds in
    let caps = and_left (meets Target k) (list_all (is_met kinds) (map read_of_arg args)) met in
    let same : trait_of_kind k ≡ trait_in sight regs c = sym (ap (λ (t : Typing). t.trait_of (target (value_in regs c))) fitting.sees.types_same ∙ target_is types k (value_in regs c) caps (fitting.stand.regs.each c.number)) in
    let row : slice_get (methods_of d.tables of) number ≡ method_named d.tables (trait_in sight regs c) method = sym (called d n c method args results e label number of place at) ∙ (called_is_named d.tables k method caps ∙ ap (λ t. method_named d.tables t method) same) in
    let m : number ≡ unwrap_or (method_number d.tables (trait_in sight regs c) method) 0 = at.names.named (unwrap_or (method_number d.tables (trait_of_kind k) method) 0) refl ∙ ap (λ t. unwrap_or (method_number d.tables t method) 0) same in
    subst (λ x. unless_trap (args_fit (params_of (method_named d.tables (trait_in sight regs c) method)) (map (given_by regs) args)) cause.Range (action.Call (target (value_in regs c)) x (map (given_by regs) args)) ≡ Would w) m
    (subst (λ x. unless_trap (args_fit (params_of x) (map (given_by regs) args)) cause.Range (action.Call (target (value_in regs c)) number (map (given_by regs) args)) ≡ Would w) row comes)

few_args : (m : Option MethodRow) (args : List CallArg) (results : List Register) → ((x : MethodRow) → m ≡ Some x → length x.params ≤ 8) → has_counts m args results ≡ true → length args ≤ 8
few_args None args results few h = absurd (cc)
few_args (Some m) args results few h =
    let same : length m.params ≡ length args = eqb-true (length m.params) (length args) (and_left (length m.params == length args) (length m.results == length results) h) in
    let le = few m refl in
    omega arith

-- a call has few arguments
pub call_few : (d : Domain) (n : ℕ) (c : Register) (method : List ℕ) (args : List CallArg) (results : List Register) (e : Register) (label : List ℕ) (number of place : ℕ) → At d n (instr.Call c method args results e label) number of place → length args ≤ 8
call_few d n c method args results e label number of place at =
    few_args (method_called d.tables (kind_in (kinds_at d n) c) method) args results
    (λ x is. (small_method d.tables of number x at.is.keeps.small (sym (called d n c method args results e label number of place at) ∙ is)).params) at.kept.method

results_count : (kinds : Kinds) (ks : List Kind) (rs : List Register) → results_suit kinds ks rs ≡ true → length ks ≡ length rs
results_count kinds [] [] h = refl
results_count kinds [] (r ∷ rs) h = absurd (cc)
results_count kinds (k ∷ ks) [] h = absurd (cc)
results_count kinds (k ∷ ks) (r ∷ rs) h = ap suc (results_count kinds ks rs (and_right (same_kind (as_register k) (kind_in kinds r)) (results_suit kinds ks rs) h))

pub values_none : (ks : List Kind) → values_fit ks [] ≡ true
values_none [] = refl
values_none (k ∷ ks) = refl

no_results : (kinds : Kinds) (ks : List Kind) (regs : Registers) (rs : List Register) → results_suit kinds [] rs ≡ true → values_fit [] (map (result_in regs) rs) ≡ values_fit ks (map (result_in regs) rs)
no_results kinds ks regs [] h = sym (values_none ks)
no_results kinds ks regs (r ∷ rs) h = absurd (cc)

named_results : (kinds : Kinds) (methods : List MethodRow) (o : Option ℕ) (number : ℕ) (regs : Registers) (rs : List Register) → ((k : ℕ) → o ≡ Some k → number ≡ k) → results_suit kinds (results_of (row_at methods o)) rs ≡ true → values_fit (results_of (row_at methods o)) (map (result_in regs) rs) ≡ values_fit (results_of (slice_get methods number)) (map (result_in regs) rs)
named_results kinds methods None number regs rs named h = no_results kinds (results_of (slice_get methods number)) regs rs h
named_results kinds methods (Some k) number regs rs named h = ap (λ x. values_fit (results_of (slice_get methods x)) (map (result_in regs) rs)) (sym (named k refl))

function_results : (d : Domain) (kinds : Kinds) (f : Option Function) (number : ℕ) (regs : Registers) (rs : List Register) → ((k : ℕ) → number_of_function d f ≡ Some k → number ≡ k) → results_suit kinds (results_of (method_of_function d f)) rs ≡ true → values_fit (results_of (method_of_function d f)) (map (result_in regs) rs) ≡ values_fit (results_of (slice_get (methods_of d.tables (domain_trait d)) number)) (map (result_in regs) rs)
function_results d kinds None number regs rs named h = no_results kinds (results_of (slice_get (methods_of d.tables (domain_trait d)) number)) regs rs h
function_results d kinds (Some f) number regs rs named h = named_results kinds (methods_of d.tables (domain_trait d)) (method_number d.tables (domain_trait d) f.name) number regs rs named h

ret_suits : (d : Domain) (n : ℕ) (rs : List Register) (number of place : ℕ) → At d n (instr.Ret rs) number of place → results_suit (kinds_at d n) (results_of (method_at d n)) rs ≡ true
ret_suits d n rs number of place at = and_right (reads_are_met (kinds_at d n) (instr.Ret rs)) (operands_suit d n (kinds_at d n) (instr.Ret rs)) at.kept.kinds

pub ret_comes : (d : Domain) (n : ℕ) (regs : Registers) (w : Action) (rs : List Register) (number of place : ℕ) → At d n (instr.Ret rs) number of place → unless_trap (values_fit (results_of (slice_get (methods_of d.tables of) number)) (map (result_in regs) rs)) cause.Range (action.Ret (map (result_in regs) rs)) ≡ Would w → unless_trap (values_fit (results_of (method_at d n)) (map (result_in regs) rs)) cause.Range (action.Ret (map (result_in regs) rs)) ≡ Would w
ret_comes d n regs w rs number of place at comes =
    let of_trait = at.names.typed (domain_trait d) refl in
    let same = function_results d (kinds_at d n) (function_at d.lines n) number regs rs at.names.named (ret_suits d n rs number of place at) in
    subst (λ b. unless_trap b cause.Range (action.Ret (map (result_in regs) rs)) ≡ Would w)
    (ap (λ x. values_fit (results_of (slice_get (methods_of d.tables x) number)) (map (result_in regs) rs)) of_trait ∙ sym same) comes

few_row : (methods : List MethodRow) (o : Option ℕ) → ((m : ℕ) (x : MethodRow) → slice_get methods m ≡ Some x → length x.results ≤ 4) → length (results_of (row_at methods o)) ≤ 4
few_row methods None few = omega arith
few_row methods (Some m) few = few_some (slice_get methods m) (few m)
  where
    few_some : (x : Option MethodRow) → ((y : MethodRow) → x ≡ Some y → length y.results ≤ 4) → length (results_of x) ≤ 4
    few_some None all = omega arith
    few_some (Some y) all = all y refl

few_function : (d : Domain) (f : Option Function) → AreTablesSmall d.tables → length (results_of (method_of_function d f)) ≤ 4
few_function d None small = omega arith
few_function d (Some f) small = few_row (methods_of d.tables (domain_trait d)) (method_number d.tables (domain_trait d) f.name) (λ m x here. (small_method d.tables (domain_trait d) m x small here).results)

-- a return has few results
pub ret_few : (d : Domain) (n : ℕ) (rs : List Register) (number of place : ℕ) → At d n (instr.Ret rs) number of place → length rs ≤ 4
ret_few d n rs number of place at =
    let count = results_count (kinds_at d n) (results_of (method_at d n)) rs (ret_suits d n rs number of place at) in
    let few = few_function d (function_at d.lines n) at.is.keeps.small in
    omega arith

hung_small : (cells : List Kind) (at : ℕ) → length cells ≤ 512 → is_some (hung_in (slice_get cells at)) ≡ true → at < 2 ^ 32
hung_small cells at few h = within (slice_get cells at) refl h
  where
    within : (o : Option Kind) → slice_get cells at ≡ o → is_some (hung_in o) ≡ true → at < 2 ^ 32
    within None e g = absurd (cc)
    within (Some k) e g = let lt = slice_get_within cells at k e in omega arith

near_cell : (tables : Tables) (k : RegKind) (at : ℕ) → AreTablesSmall tables → is_some (hung_at tables k at) ≡ true → at < 2 ^ 32
near_cell tables (held.Own s) at small h = hung_small (cells_of tables s) at (small_struct tables s small) h
near_cell tables k at small h = absurd (cc)

-- a cell that an object hangs in is among the first ones
pub hang_near : (d : Domain) (n : ℕ) (o v : Register) (at number of place : ℕ) → At d n (instr.Hang o at v) number of place → at < 2 ^ 32
hang_near d n o v at number of place line_at = near_cell d.tables (kind_in (kinds_at d n) o) at line_at.is.keeps.small line_at.kept.cell

pub unhang_near : (d : Domain) (n : ℕ) (a o : Register) (at number of place : ℕ) → At d n (instr.Unhang a o at) number of place → at < 2 ^ 32
unhang_near d n a o at number of place line_at = near_cell d.tables (kind_in (kinds_at d n) o) at line_at.is.keeps.small line_at.kept.cell
