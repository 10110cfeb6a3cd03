-- What fits an instruction as its answer.
use Rattle.std.proofs.Common.{◌≡◌, refl, sym, ◌∙◌, ap, subst, ℕ, ◌==◌, Bool, true, false, ◌&&◌, List, length, map, Option, Some, None, slice_get, is_some, unwrap_or}
use Rattle.std.proofs.lemmas.Bool.{eqb-true}
use Rattle.std.proofs.lemmas.List.{length-map}
use Rattle.rl_defs.specs.declared.values.Value.{Value}
use Rattle.rl_defs.specs.declared.values.Value.TheVariants as value
use Rattle.machine_defs.specs.declared.values.Arg.{Arg}
use Rattle.rl_defs.specs.declared.bundle.Numbered.{Numbered}
use Rattle.rl_defs.specs.declared.code.DomainLine.{DomainLine}
use Rattle.rl_defs.specs.declared.code.CallArg.{CallArg}
use Rattle.rl_defs.specs.declared.code.Register.{Register}
use Rattle.rl_defs.specs.declared.code.RegKind.{RegKind}
use Rattle.rl_defs.specs.declared.code.RegKind.TheVariants as held
use Rattle.rl_defs.specs.declared.code.Instr.{Instr}
use Rattle.rl_defs.specs.declared.code.Instr.TheVariants as instr
use Rattle.rl_defs.specs.declared.code.DomainLine.TheVariants as line
use Rattle.machine_defs.specs.declared.frame.Answer.{Answer}
use Rattle.machine_defs.specs.declared.frame.Answer.TheVariants as answer
use Rattle.rl_defs.specs.declared.tables.Kind.{Kind}
use Rattle.rl_defs.specs.declared.tables.Tables.{Tables}
use Rattle.rl_defs.specs.DomainValue.{Domain}
use Rattle.rl_defs.specs.Domains.{Lines}
use Rattle.machine_defs.specs.Sight.{Sight}
use Rattle.rl_defs.specs.CodeNames.{Declared, slots, struct_number, type_at, place_in, methods_of, results_of}
use Rattle.rl_defs.specs.CodeKinds.{Kinds, kinds_at, kind_in, Owned, hung_at}
use Rattle.rl_defs.specs.CodeRules.{meets, reads_are_met}
use Rattle.machine_defs.specs.Arguments.{value_of}
use Rattle.rl_defs.specs.Registers.{Stand, Registers, value_in}
use Rattle.machine_defs.specs.Instructions.{object, object_in}
use Rattle.rl_defs.specs.CodeNames.{slot_number}
use Rattle.rl_defs.specs.Registers.{Typing, fits_kind}
use Rattle.machine_defs.specs.CodeFits.{FitsStand, FitsSight, FitsAnswer, are_values}
use Rattle.machine_defs.proofs.CodeEntries.{as_many}
use Rattle.code_machine.proofs.Naming.{At, called}
use Rattle.code_runs.specs.Suits.{is_held}
use Rattle.code_runs.specs.Answered.{suits_instr}
use Rattle.rl_defs.proofs.Lists.{and_left}

not_true : (b : Bool) → (b ≡ true → ⊥) → false ≡ b
not_true true h = absurd (h refl)
not_true false h = refl

pub values_differ : (types : Typing) (ks : List Kind) (vs : List Value) → (length ks ≡ length vs → ⊥) → false ≡ are_values types ks vs
values_differ types ks vs ne = not_true (are_values types ks vs) (λ e. ne (as_many types ks vs e))

pub args_differ : (types : Typing) (ks : List Kind) (xs : List Arg) → (length ks ≡ length xs → ⊥) → false ≡ are_values types ks (map value_of xs)
args_differ types ks xs ne = values_differ types ks (map value_of xs) (λ e. ne (e ∙ length-map xs value_of))

pub fits_as : (types : Typing) (d : Domain) (kinds : Kinds) (i j : Instr) (a b : Answer) → i ≡ j → a ≡ b → FitsAnswer types d kinds j b → FitsAnswer types d kinds i a
fits_as types d kinds i j a b e f fits = subst (λ x. FitsAnswer types d kinds x a) (sym e) (subst (λ x. FitsAnswer types d kinds j x) (sym f) fits)

pub new_fits : (types : Typing) (d : Domain) (n : ℕ) (a : Register) (ty : List ℕ) (number of label o : ℕ) → At d n (instr.New a ty) number of label → (types.struct_of o == number) ≡ true → FitsAnswer types d (kinds_at d n) (instr.New a ty) (answer.Made o)
new_fits types d n a ty number of label o at e = eqb-true (types.struct_of o) number e ∙ at.names.named (struct_number d.tables ty) refl

slot_is : (tables : Tables) (xs : List Declared) (p : Option ℕ) (k : ℕ) → is_some p ≡ true → k ≡ unwrap_or p 0 → struct_number tables (type_at xs (Some k)) ≡ struct_number tables (type_at xs p)
slot_is tables xs None k h e = absurd cc
slot_is tables xs (Some p) k h e = ap (λ x. struct_number tables (type_at xs (Some x))) e

held_is : (x : Option ℕ) (o : ℕ) → is_held x o ≡ true → x ≡ Some o
held_is None o e = absurd cc
held_is (Some v) o e = ap (λ n. Some n) (eqb-true v o e)

pub take_fits : (types : Typing) (d : Domain) (sight : Sight) (n : ℕ) (a : Register) (slot : List ℕ) (number of label o : ℕ) → At d n (instr.Take a slot) number of label → FitsSight types d sight → is_held (sight.slot number) o ≡ true → FitsAnswer types d (kinds_at d n) (instr.Take a slot) (answer.Made o)
take_fits types d sight n a slot number of label o at sees e =
    sees.slots number o (held_is (sight.slot number) o e)
    ∙ slot_is d.tables (slots d.lines) (place_in slot (slots d.lines)) number at.kept.declared (at.names.named (slot_number d slot) refl)

owned_is : (types : Typing) (k : RegKind) (v : Option Value) → meets Owned k ≡ true → fits_kind types k v ≡ true → k ≡ held.Own (types.struct_of (object v))
owned_is types (held.Own s) (Some (value.Obj o)) m f = ap (λ n. held.Own n) (sym (eqb-true (types.struct_of o) s f))
owned_is types (held.Own s) (Some (value.Num n)) m f = absurd cc
owned_is types (held.Own s) (Some (value.Cap x)) m f = absurd cc
owned_is types (held.Own s) None m f = absurd cc
owned_is types k v m f = absurd cc

pub unhang_fits : (types : Typing) (d : Domain) (sight : Sight) (n : ℕ) (regs : Registers) (a from : Register) (place number of label o : ℕ) → At d n (instr.Unhang a from place) number of label → FitsSight types d sight → FitsStand types d (record { at = n; regs = regs }) → is_held (sight.hung (object_in regs from) place) o ≡ true → FitsAnswer types d (kinds_at d n) (instr.Unhang a from place) (answer.Made o)
unhang_fits types d sight n regs a from place number of label o at sees stands e =
    let kinds = kinds_at d n in
    let met = and_left (meets Owned (kind_in kinds from)) true (and_left (reads_are_met kinds (instr.Unhang a from place)) true at.kept.kinds) in
    let own = owned_is types (kind_in kinds from) (value_in regs from) met (stands.regs.each from.number) in
    ap (λ k. hung_at d.tables k place) own ∙ sees.hung (object_in regs from) place o (held_is (sight.hung (object_in regs from) place) o e)

pub back_fits : (types : Typing) (d : Domain) (n : ℕ) (c : Register) (method : List ℕ) (args : List CallArg) (results : List Register) (code : Register) (to : List ℕ) (number of label : ℕ) (values : List Value) → At d n (instr.Call c method args results code to) number of label → are_values types (results_of (slice_get (methods_of d.tables of) number)) values ≡ true → FitsAnswer types d (kinds_at d n) (instr.Call c method args results code to) (answer.Back values)
back_fits types d n c method args results code to number of label values at e =
    ap (λ m. are_values types (results_of m) values) (called d n c method args results code to number of label at) ∙ e

instr_of_form : DomainLine → Instr
instr_of_form (line.Code i) = i
instr_of_form _ = instr.Trap

instr_of : Option (Numbered DomainLine) → Instr
instr_of None = instr.Trap
instr_of (Some l) = instr_of_form l.form

pub one_instr : (lines : Lines) (n k m : ℕ) (i j : Instr) → slice_get lines n ≡ Some (record { line = k; form = line.Code i }) → slice_get lines n ≡ Some (record { line = m; form = line.Code j }) → j ≡ i
unfolding instr_of instr_of_form
one_instr lines n k m i j e f = ap instr_of (sym f ∙ e)

pub suits_as : (types : Typing) (d : Domain) (sight : Sight) (s : Stand) (i j : Instr) (a b : Answer) (x : Bool) → i ≡ j → a ≡ b → x ≡ suits_instr types d sight s j b → x ≡ suits_instr types d sight s i a
suits_as types d sight s i j a b x e f is = is ∙ sym (ap (λ y. suits_instr types d sight s y a) e ∙ ap (λ y. suits_instr types d sight s j y) f)

pub new_is : (types : Typing) (d : Domain) (sight : Sight) (n : ℕ) (regs : Registers) (a : Register) (ty : List ℕ) (number of label o : ℕ) → At d n (instr.New a ty) number of label → (types.struct_of o == number) ≡ suits_instr types d sight (record { at = n; regs = regs }) (instr.New a ty) (answer.Made o)
new_is types d sight n regs a ty number of label o at = ap (λ k. types.struct_of o == k) (at.names.named (struct_number d.tables ty) refl)

pub take_is : (types : Typing) (d : Domain) (sight : Sight) (n : ℕ) (regs : Registers) (a : Register) (slot : List ℕ) (number of label o : ℕ) → At d n (instr.Take a slot) number of label → is_held (sight.slot number) o ≡ suits_instr types d sight (record { at = n; regs = regs }) (instr.Take a slot) (answer.Made o)
take_is types d sight n regs a slot number of label o at = ap (λ k. is_held (sight.slot k) o) (at.names.named (slot_number d slot) refl)

pub back_is : (types : Typing) (d : Domain) (sight : Sight) (n : ℕ) (regs : Registers) (c : Register) (method : List ℕ) (args : List CallArg) (results : List Register) (code : Register) (to : List ℕ) (number of label : ℕ) (values : List Value) → At d n (instr.Call c method args results code to) number of label → are_values types (results_of (slice_get (methods_of d.tables of) number)) values ≡ suits_instr types d sight (record { at = n; regs = regs }) (instr.Call c method args results code to) (answer.Back values)
back_is types d sight n regs c method args results code to number of label values at =
    sym (ap (λ m. are_values types (results_of m) values) (called d n c method args results code to number of label at))
