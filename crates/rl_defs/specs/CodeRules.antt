-- Rules 30 to 37: domain code that keeps the ownership rules.
use Rattle.std.specs.Prelude.{◌≡◌, ℕ, ◌==◌, ◌&&◌, ◌||◌, [], ◌∷◌, ◌<◌, ◌^◌, Bool, true, false, Option, Some, List, is_some, is_none, not, map, slice_get, zero, suc, filter, fold, length}
use Rattle.std.specs.List.{list_all, list_any}
use Rattle.std.specs.Option.{option_map_or, option_and_then}
use Rattle.rl_defs.specs.declared.code.RegKind.TheVariants as kind
use Rattle.rl_defs.specs.declared.code.CallArg.TheVariants as arg
use Rattle.rl_defs.specs.declared.tables.Kind.TheVariants as value
use Rattle.rl_defs.specs.declared.tables.Width.TheVariants as width
use Rattle.rl_defs.specs.declared.code.Instr.TheVariants as instr
use Rattle.rl_defs.specs.declared.code.DomainLine.TheVariants as line
use Rattle.rl_defs.specs.declared.code.RegKind.{RegKind}
use Rattle.rl_defs.specs.declared.code.Instr.{Instr}
use Rattle.rl_defs.specs.declared.code.CallArg.{CallArg}
use Rattle.rl_defs.specs.declared.tables.Kind.{Kind}
use Rattle.rl_defs.specs.declared.code.Register.{Register}
use Rattle.rl_defs.specs.declared.code.DomainLine.{DomainLine}
use Rattle.rl_defs.specs.declared.code.HeadItem.{HeadItem}
use Rattle.rl_defs.specs.declared.bundle.Numbered.{Numbered}
use Rattle.rl_defs.specs.declared.tables.MethodRow.{MethodRow}
use Rattle.rl_defs.specs.CodeKinds.{Need, Number, Copied, Owned, Object, Target, Passed, Kinds, Read, kind_in, reads, as_register, object_struct, method_called, hung_at, is_own, left, leave_all, with_kind, listed, at_label, passed, kinds_at}
use Rattle.rl_defs.specs.DomainValue.{Domain}
use Rattle.rl_defs.specs.CodeNames.{cells_of, slot_struct, slots, place_in, params_of, results_of, method_at, place_of_label, label_of, imports, has_words, functions, methods_of, domain_trait, Function, function_at}
use Rattle.rl_defs.specs.NativeShapes.{has_cells, import_of, are_of_shape, have_one_struct}
use Rattle.rl_defs.specs.DomainParts.{ends, IsOneDomain}
use Rattle.rl_defs.specs.Interfaces.{place_of}
use Rattle.rl_defs.specs.Domains.{is_native}
use Rattle.rl_defs.specs.Refusals.{Nowhere}
use Rattle.rl_defs.specs.TableSizes.{AreTablesSmall}

-- whether a kind is what is asked for
abbrev pub meets : Need → RegKind → Bool
meets Number kind.Num = true
meets Copied kind.Num = true
meets Copied (kind.Lent s) = true
meets Copied (kind.Cap t) = true
meets Owned (kind.Own s) = true
meets Object (kind.Own s) = true
meets Object (kind.Lent s) = true
meets Target (kind.Cap t) = true
meets Passed kind.Num = true
meets Passed (kind.Own s) = true
meets Passed (kind.Cap t) = true
meets _ _ = false

abbrev pub is_met : Kinds → Read → Bool
is_met kinds r = meets r.need (kind_in kinds r.register)

-- each register that the instruction reads is of a kind that is asked for
abbrev pub reads_are_met : Kinds → Instr → Bool
reads_are_met kinds i = list_all (is_met kinds) (reads i)

abbrev pub same_kind : RegKind → RegKind → Bool
same_kind kind.Empty kind.Empty = true
same_kind kind.Num kind.Num = true
same_kind (kind.Own s) (kind.Own t) = s == t
same_kind (kind.Lent s) (kind.Lent t) = s == t
same_kind (kind.Cap s) (kind.Cap t) = s == t
same_kind _ _ = false

abbrev pub is_struct : ℕ → Option ℕ → Bool
is_struct s of = option_map_or (λ t. t == s) of false

-- an argument passes as a parameter of this kind; an own object may be lent
abbrev pub passes_as : Kinds → Kind → CallArg → Bool
passes_as kinds (value.Lent s) (arg.Lent r) = is_struct s (object_struct (kind_in kinds r))
passes_as kinds (value.Lent s) (arg.Passed r) = false
passes_as kinds k (arg.Passed r) = same_kind (as_register k) (kind_in kinds r)
passes_as kinds k (arg.Lent r) = false

-- each argument passes_as the parameter at its place, where there is one
abbrev pub args_suit : Kinds → List Kind → List CallArg → Bool
args_suit kinds params [] = true
args_suit kinds [] (a ∷ args) = true
args_suit kinds (p ∷ params) (a ∷ args) = passes_as kinds p a && args_suit kinds params args

-- the results of a `ret` are as many as the method's, each of its kind
abbrev pub results_suit : Kinds → List Kind → List Register → Bool
results_suit kinds [] [] = true
results_suit kinds (k ∷ ks) (r ∷ rs) = same_kind (as_register k) (kind_in kinds r) && results_suit kinds ks rs
results_suit kinds _ _ = false

-- an object with the cells of a block: 64 of u64
abbrev pub holds_block : Domain → Option ℕ → Bool
holds_block d of = option_map_or (λ s. has_cells 64 width.W64 (cells_of d.tables s)) of false

-- the object that is put is of the slot's struct, where the slot is declared
abbrev pub suits_slot : Domain → Option ℕ → List ℕ → RegKind → Bool
suits_slot d place slot k = is_none place || same_kind (kind.Own (slot_struct d slot)) k

-- the object that is hung is of the cell's struct, where the cell is an `RRef`
abbrev pub suits_cell : Option ℕ → RegKind → Bool
suits_cell of k = option_map_or (λ s. same_kind (kind.Own s) k) of true

-- the registers are of the structs, parameters or results that the instruction is about
abbrev pub operands_suit : Domain → ℕ → Kinds → Instr → Bool
operands_suit d n kinds (instr.Put slot a) = suits_slot d (place_in slot (slots d.lines)) slot (kind_in kinds a)
operands_suit d n kinds (instr.DevGet o k) = holds_block d (object_struct (kind_in kinds o))
operands_suit d n kinds (instr.DevPut k o) = holds_block d (object_struct (kind_in kinds o))
operands_suit d n kinds (instr.Hang o place v) = suits_cell (hung_at d.tables (kind_in kinds o) place) (kind_in kinds v)
operands_suit d n kinds (instr.Call target method args results code label) = args_suit kinds (params_of (method_called d.tables (kind_in kinds target) method)) args
operands_suit d n kinds (instr.Ret results) = results_suit kinds (results_of (method_at d n)) results
operands_suit d n kinds _ = true

-- a register is among others
abbrev pub is_among : Register → List Register → Bool
is_among r others = list_any (λ s. s.number == r.number) others

abbrev pub are_distinct : List Register → Bool
are_distinct [] = true
are_distinct (r ∷ rs) = not (is_among r rs) && are_distinct rs

-- rule 30: each register has the kind that the instruction asks for
abbrev pub has_kinds : Domain → ℕ → Kinds → DomainLine → Bool
has_kinds d n kinds (line.Code i) = reads_are_met kinds i && operands_suit d n kinds i
has_kinds d n kinds _ = true

-- rule 30: the place of `hang` and `unhang` is an `RRef` cell of the object's struct
abbrev pub has_cell : Domain → Kinds → DomainLine → Bool
has_cell d kinds (line.Code (instr.Hang o place v)) = is_some (hung_at d.tables (kind_in kinds o) place)
has_cell d kinds (line.Code (instr.Unhang a o place)) = is_some (hung_at d.tables (kind_in kinds o) place)
has_cell d kinds _ = true

-- rule 30: the two registers of a move, the results of a call, and the registers that a head lists are distinct
abbrev pub has_apart : DomainLine → Bool
has_apart (line.Code (instr.Move a b)) = not (a.number == b.number)
has_apart (line.Code (instr.Call target method args results code label)) = are_distinct results
has_apart (line.Head label items) = are_distinct (map (λ item. item.register) items)
has_apart _ = true

-- the registers that an instruction writes, on any way on
abbrev pub written : Instr → List Register
written (instr.Const a n) = a ∷ []
written (instr.Copy a b) = a ∷ []
written (instr.Math o a b c) = a ∷ []
written (instr.Move a b) = a ∷ []
written (instr.Get a o i) = a ∷ []
written (instr.Wget a i) = a ∷ []
written (instr.Has a slot) = a ∷ []
written (instr.Cap a import) = a ∷ []
written (instr.DevSize a) = a ∷ []
written (instr.New a ty) = a ∷ []
written (instr.Take a slot) = a ∷ []
written (instr.Unhang a o place) = a ∷ []
written (instr.Call target method args results code label) = code ∷ results
written _ = []

abbrev pub spares : Kinds → Register → Bool
spares kinds r = not (is_own (kind_in kinds r))

abbrev pub owns_nothing : Kinds → Bool
owns_nothing kinds = list_all (λ k. not (is_own k)) kinds

-- rule 31: no register is written that holds an own object which the line doesn't move
abbrev pub spares_objects : Kinds → DomainLine → Bool
spares_objects kinds (line.Code i) = list_all (spares (left kinds i)) (written i)
spares_objects kinds _ = true

-- rule 31: a `ret` leaves no own object in a register
abbrev pub leaves_nothing : Kinds → DomainLine → Bool
leaves_nothing kinds (line.Code (instr.Ret results)) = owns_nothing (leave_all results kinds)
leaves_nothing kinds _ = true

-- registers without what these hold
abbrev pub without : List Register → Kinds → Kinds
without rs kinds = fold (λ before r. with_kind before r kind.Empty) kinds rs

-- a head is entered with the kinds that it lists, and with no own object in another register
abbrev pub enters : Domain → List HeadItem → Kinds → Bool
enters d items kinds =
    list_all (λ w. same_kind w.kind (kind_in kinds w.register)) (listed d.tables items)
    && owns_nothing (without (map (λ item. item.register) items) kinds)

abbrev pub enters_form : Domain → DomainLine → Kinds → Bool
enters_form d (line.Head label items) kinds = enters d items kinds
enters_form d _ kinds = true

abbrev pub enters_line : Domain → Option (Numbered DomainLine) → Kinds → Bool
enters_line d line kinds = option_map_or (λ l. enters_form d l.form kinds) line true

abbrev pub enters_at : Domain → Option ℕ → Kinds → Bool
enters_at d place kinds = enters_line d (option_and_then (slice_get d.lines) place) kinds

-- rule 32: a jump, or the `else` of a call, enters its label's head, where there is one
abbrev pub enters_label : Domain → ℕ → Kinds → DomainLine → Bool
enters_label d n kinds (line.Code i) = enters_at d (place_of_label d n (label_of i)) (at_label kinds i)
enters_label d n kinds _ = true

-- control goes on from a line to the next one: it is no `jmp`, `ret` or `trap`
abbrev pub goes_on : DomainLine → Bool
goes_on (line.Code i) = not (ends i)
goes_on _ = true

abbrev pub goes_on_from : Option (Numbered DomainLine) → Bool
goes_on_from line = option_map_or (λ l. goes_on l.form) line false

-- a line is reached from the line before it
abbrev pub is_reached : Domain → ℕ → Bool
is_reached d zero = false
is_reached d (suc n) = goes_on_from (slice_get d.lines n)

-- rule 32: a head that is reached from the line before it is entered
abbrev pub enters_head : Domain → ℕ → Kinds → DomainLine → Bool
enters_head d n kinds (line.Head label items) = not (is_reached d n) || enters d items kinds
enters_head d n kinds _ = true

-- rule 33: a jump or an `else` names a label of its function
abbrev pub has_label : Domain → ℕ → Option (List ℕ) → Bool
has_label d n label = is_none label || is_some (place_of_label d n label)

abbrev pub names_label : Domain → ℕ → DomainLine → Bool
names_label d n (line.Code i) = has_label d n (label_of i)
names_label d n _ = true

-- of these registers, those that hold an own object: it is moved
abbrev pub owning : Kinds → List Register → List Register
owning kinds rs = filter (λ r. is_own (kind_in kinds r)) rs

-- the registers of the arguments that are lent
abbrev pub lent : List CallArg → List Register
lent [] = []
lent (arg.Passed r ∷ args) = lent args
lent (arg.Lent r ∷ args) = r ∷ lent args

-- rule 34: no register is moved twice in one call or one `ret`
abbrev pub moves_once : Kinds → DomainLine → Bool
moves_once kinds (line.Code (instr.Call target method args results code label)) = are_distinct (owning kinds (passed args))
moves_once kinds (line.Code (instr.Ret results)) = are_distinct (owning kinds results)
moves_once kinds _ = true

-- rule 34: no register is moved and lent in one call
abbrev pub moves_or_lends : Kinds → DomainLine → Bool
moves_or_lends kinds (line.Code (instr.Call target method args results code label)) = not (list_any (λ r. is_among r (lent args)) (owning kinds (passed args)))
moves_or_lends kinds _ = true

-- rule 35: the slot or the import is declared
abbrev pub declares : Domain → DomainLine → Bool
declares d (line.Code (instr.Has a slot)) = is_some (place_in slot (slots d.lines))
declares d (line.Code (instr.Take a slot)) = is_some (place_in slot (slots d.lines))
declares d (line.Code (instr.Put slot a)) = is_some (place_in slot (slots d.lines))
declares d (line.Code (instr.Cap a import)) = is_some (place_in import (imports d.lines))
declares d _ = true

-- rule 35: words are read and written only where the domain has a `words` line
abbrev pub has_its_words : Domain → DomainLine → Bool
has_its_words d (line.Code (instr.Wget a i)) = has_words d.lines
has_its_words d (line.Code (instr.Wput i v)) = has_words d.lines
has_its_words d _ = true

-- rule 35: a native body has its import
abbrev pub has_import : Domain → DomainLine → Bool
has_import d (line.Native body) = is_some (place_in (import_of body) (imports d.lines))
has_import d _ = true

-- rule 36: a domain without a native body has a function for each method of its trait
abbrev pub has_function : Domain → MethodRow → Bool
has_function d m = is_some (place_of m.name (functions d.lines))

abbrev pub has_functions : Domain → DomainLine → Bool
has_functions d (line.Domain name has) = is_native d.lines || list_all (has_function d) (methods_of d.tables (domain_trait d))
has_functions d _ = true

-- rule 36: the trait of a call's register has the method, which has as many parameters and results
abbrev pub has_counts : Option MethodRow → List CallArg → List Register → Bool
has_counts row args results = option_map_or (λ m. (length m.params == length args) && (length m.results == length results)) row false

abbrev pub has_method : Domain → Kinds → DomainLine → Bool
has_method d kinds (line.Code (instr.Call target method args results code label)) = has_counts (method_called d.tables (kind_in kinds target) method) args results
has_method d kinds _ = true

-- rule 36: the traits of a native body, and of its import, are of its shape
abbrev pub has_shape : Domain → DomainLine → Bool
has_shape d (line.Native body) = are_of_shape d body
has_shape d _ = true

-- rule 36: where the traits of a native body and of its import are to have one struct, they have the same
abbrev pub has_one_struct : Domain → DomainLine → Bool
has_one_struct d (line.Native body) = have_one_struct d body
has_one_struct d _ = true

abbrev pub is_inside : Option Function → Bool
is_inside function = is_some function

-- rule 37: control doesn't reach the end of a function
abbrev pub ends_before : Domain → ℕ → DomainLine → Bool
ends_before d n line.Close = not (is_inside (function_at d.lines n)) || not (is_reached d n)
ends_before d n _ = true

-- A sentence of a rule, by the rule's number, and whether a line keeps it.
abbrev pub Sentence : Type 0
Sentence = ℕ × Bool

-- every sentence of rules 30 to 37, of a line at a place of the domain
abbrev pub sentences : Domain → ℕ → DomainLine → List Sentence
sentences d n form =
    (30, has_kinds d n (kinds_at d n) form)
    ∷ (30, has_cell d (kinds_at d n) form)
    ∷ (30, has_apart form)
    ∷ (31, spares_objects (kinds_at d n) form)
    ∷ (31, leaves_nothing (kinds_at d n) form)
    ∷ (32, enters_label d n (kinds_at d n) form)
    ∷ (32, enters_head d n (kinds_at d n) form)
    ∷ (33, names_label d n form)
    ∷ (34, moves_once (kinds_at d n) form)
    ∷ (34, moves_or_lends (kinds_at d n) form)
    ∷ (35, declares d form)
    ∷ (35, has_its_words d form)
    ∷ (35, has_import d form)
    ∷ (36, has_functions d form)
    ∷ (36, has_method d (kinds_at d n) form)
    ∷ (36, has_shape d form)
    ∷ (36, has_one_struct d form)
    ∷ (37, ends_before d n form)
    ∷ []

-- the line at a place breaks a sentence of this rule
abbrev pub breaks : Domain → ℕ → DomainLine → ℕ → Bool
breaks d n form rule = list_any (λ s. not s.1 && (s.0 == rule)) (sentences d n form)

-- which of the rules 30 to 37 fail at which lines of a domain
pub record FailsCode (d : Domain) (number rule : ℕ) : Type 0 where
  pub place : ℕ
  pub form : DomainLine
  pub here : slice_get d.lines place ≡ Some (record { line = number; form = form })
  pub broken : breaks d place form rule ≡ true

-- A domain of fewer than 2^31 lines that keeps rules 30 to 37.
pub record KeepsRules (d : Domain) : Type 0 where
  pub short : length d.lines < 2 ^ 31
  pub small : AreTablesSmall d.tables
  pub ordered : IsOneDomain d.lines
  pub rules : Nowhere (FailsCode d)
