-- What the names in domain code stand for.
use Rattle.std.specs.Prelude.{ℕ, ◌+◌, [], ◌∷◌, List, map, unwrap_or, Option, Some, None, slice_get, Bool, true, false, zero, suc, drop, if◌then◌else◌}
use Rattle.std.specs.List.{list_any, flat_map}
use Rattle.std.specs.Option.{option_map, option_map_or, option_and_then}
use Rattle.rl_defs.specs.declared.code.DomainLine.TheVariants as line
use Rattle.rl_defs.specs.declared.code.HeadKind.{HeadKind}
use Rattle.rl_defs.specs.declared.code.HeadKind.TheVariants as head
use Rattle.rl_defs.specs.declared.code.Instr.TheVariants as instr
use Rattle.rl_defs.specs.declared.tables.Tables.{Tables}
use Rattle.rl_defs.specs.declared.tables.Kind.{Kind}
use Rattle.rl_defs.specs.declared.tables.StructRow.{StructRow}
use Rattle.rl_defs.specs.declared.tables.TraitRow.{TraitRow}
use Rattle.rl_defs.specs.declared.tables.MethodRow.{MethodRow}
use Rattle.rl_defs.specs.declared.code.DomainLine.{DomainLine}
use Rattle.rl_defs.specs.declared.bundle.Numbered.{Numbered}
use Rattle.rl_defs.specs.declared.code.Instr.{Instr}
use Rattle.rl_defs.specs.Interfaces.{place_of}
use Rattle.rl_defs.specs.Domains.{Lines, trait_name, body_of_function}
use Rattle.rl_defs.specs.DomainValue.{Domain}
use Rattle.rl_defs.specs.Words.{same_bytes}

-- the number of the struct, or trait, of this name (0 where there is none, which rule 4 refuses)
abbrev pub struct_number : Tables → List ℕ → ℕ
struct_number tables name = unwrap_or (place_of name (map (λ s. s.name) tables.structs)) 0

abbrev pub trait_number : Tables → List ℕ → ℕ
trait_number tables name = unwrap_or (place_of name (map (λ t. t.name) tables.traits)) 0

-- the cells of a struct
abbrev pub flat_of : Option StructRow → List Kind
flat_of row = option_map_or (λ s. s.flat) row []

abbrev pub cells_of : Tables → ℕ → List Kind
cells_of tables s = flat_of (slice_get tables.structs s)

-- the methods of a trait
abbrev pub rows_of : Option TraitRow → List MethodRow
rows_of row = option_map_or (λ t. t.methods) row []

abbrev pub methods_of : Tables → ℕ → List MethodRow
methods_of tables t = rows_of (slice_get tables.traits t)

-- the number of the method of this name in a trait
abbrev pub method_number : Tables → ℕ → List ℕ → Option ℕ
method_number tables t name = place_of name (map (λ m. m.name) (methods_of tables t))

abbrev pub row_at : List MethodRow → Option ℕ → Option MethodRow
row_at methods number = option_and_then (slice_get methods) number

abbrev pub method_named : Tables → ℕ → List ℕ → Option MethodRow
method_named tables t name = row_at (methods_of tables t) (method_number tables t name)

abbrev pub params_of : Option MethodRow → List Kind
params_of row = option_map_or (λ m. m.params) row []

abbrev pub results_of : Option MethodRow → List Kind
results_of row = option_map_or (λ m. m.results) row []

-- a name that a domain declares, and the name of its struct or trait
pub record Declared : Type 0 where
  pub name : List ℕ
  pub ty : List ℕ

abbrev pub slot_of_form : DomainLine → List Declared → List Declared
slot_of_form (line.Slot name ty) others = record { name = name; ty = ty } ∷ others
slot_of_form _ others = others

abbrev pub import_of_form : DomainLine → List Declared → List Declared
import_of_form (line.Import name has) others = record { name = name; ty = has } ∷ others
import_of_form _ others = others

-- the slots, and the imports, each numbered from 0 in the order of the text
abbrev pub slots : Lines → List Declared
slots [] = []
slots (l ∷ ls) = slot_of_form l.form (slots ls)

abbrev pub imports : Lines → List Declared
imports [] = []
imports (l ∷ ls) = import_of_form l.form (imports ls)

abbrev pub place_in : List ℕ → List Declared → Option ℕ
place_in name declared = place_of name (map (λ d. d.name) declared)

abbrev pub type_of : Option Declared → List ℕ
type_of declared = option_map_or (λ d. d.ty) declared []

abbrev pub type_at : List Declared → Option ℕ → List ℕ
type_at declared place = type_of (option_and_then (slice_get declared) place)

-- the struct of a slot, and the trait of an import
abbrev pub slot_struct : Domain → List ℕ → ℕ
slot_struct d name = struct_number d.tables (type_at (slots d.lines) (place_in name (slots d.lines)))

abbrev pub import_trait : Domain → List ℕ → ℕ
import_trait d name = trait_number d.tables (type_at (imports d.lines) (place_in name (imports d.lines)))

-- the trait of a domain
abbrev pub domain_trait : Domain → ℕ
domain_trait d = trait_number d.tables (trait_name d.lines)

-- the structs, and the traits, that a line of a domain names
abbrev pub struct_of_kind : HeadKind → List (List ℕ)
struct_of_kind (head.Own ty) = ty ∷ []
struct_of_kind (head.Lent ty) = ty ∷ []
struct_of_kind _ = []

abbrev pub trait_of_kind : HeadKind → List (List ℕ)
trait_of_kind (head.Cap has) = has ∷ []
trait_of_kind _ = []

abbrev pub structs_used : DomainLine → List (List ℕ)
structs_used (line.Slot name ty) = ty ∷ []
structs_used (line.Head label items) = flat_map (λ item. struct_of_kind item.kind) items
structs_used (line.Code (instr.New a ty)) = ty ∷ []
structs_used _ = []

abbrev pub traits_used : DomainLine → List (List ℕ)
traits_used (line.Domain name has) = has ∷ []
traits_used (line.Import name has) = has ∷ []
traits_used (line.Head label items) = flat_map (λ item. trait_of_kind item.kind) items
traits_used _ = []

-- the domain has a `words` line
abbrev pub declares_words : DomainLine → Bool
declares_words (line.Words n) = true
declares_words _ = false

abbrev pub has_words : Lines → Bool
has_words lines = list_any (λ l. declares_words l.form) lines

-- the names of the functions
abbrev pub function_of_form : DomainLine → List (List ℕ) → List (List ℕ)
function_of_form (line.Function name) others = name ∷ others
function_of_form _ others = others

abbrev pub functions : Lines → List (List ℕ)
functions [] = []
functions (l ∷ ls) = function_of_form l.form (functions ls)

-- the function that a line stands in: its name, and the place of its first line
pub record Function : Type 0 where
  pub name : List ℕ
  pub first : ℕ

abbrev pub function_behind_form : ℕ → DomainLine → Option Function → Option Function
function_behind_form n (line.Function name) before = Some (record { name = name; first = n + 1 })
function_behind_form n line.Close before = None
function_behind_form n _ before = before

abbrev pub function_behind : ℕ → Option (Numbered DomainLine) → Option Function → Option Function
function_behind n line before = option_map_or (λ l. function_behind_form n l.form before) line before

abbrev pub function_at : Lines → ℕ → Option Function
function_at lines zero = None
function_at lines (suc n) = function_behind n (slice_get lines n) (function_at lines n)

-- the method of a domain that the function at a line is for
abbrev pub method_of_function : Domain → Option Function → Option MethodRow
method_of_function d function = option_and_then (λ f. method_named d.tables (domain_trait d) f.name) function

abbrev pub method_at : Domain → ℕ → Option MethodRow
method_at d n = method_of_function d (function_at d.lines n)

-- the place of a label's head among these lines, of which the first is at this place, up to the end of the function
abbrev pub find_label_from : List ℕ → DomainLine → ℕ → Option ℕ → Option ℕ
find_label_from label (line.Head name items) place further = if same_bytes name label then Some place else further
find_label_from label line.Close place further = None
find_label_from label _ place further = further

abbrev pub find_label : List ℕ → Lines → ℕ → Option ℕ
find_label label [] place = None
find_label label (l ∷ ls) place = find_label_from label l.form place (find_label label ls (place + 1))

abbrev pub label_in : Lines → Option Function → List ℕ → Option ℕ
label_in lines function label = option_and_then (λ f. find_label label (drop f.first lines) f.first) function

-- the place of a label of the function that a line stands in
abbrev pub label_at : Lines → ℕ → List ℕ → Option ℕ
label_at lines n label = label_in lines (function_at lines n) label

abbrev pub slot_number : Domain → List ℕ → ℕ
slot_number d slot = unwrap_or (place_in slot (slots d.lines)) 0

abbrev pub import_number : Domain → List ℕ → ℕ
import_number d import = unwrap_or (place_in import (imports d.lines)) 0

-- the label that an instruction may go to
abbrev pub label_of : Instr → Option (List ℕ)
label_of (instr.Jmp label) = Some label
label_of (instr.Jz a label) = Some label
label_of (instr.Call target method args results code label) = Some label
label_of _ = None

abbrev pub place_of_label : Domain → ℕ → Option (List ℕ) → Option ℕ
place_of_label d n label = option_and_then (label_at d.lines n) label

abbrev pub label_of_form : DomainLine → Option (List ℕ)
label_of_form (line.Code i) = label_of i
label_of_form _ = None

abbrev pub label_of_line : Option (Numbered DomainLine) → Option (List ℕ)
label_of_line line = option_and_then (λ l. label_of_form l.form) line

-- the place of the first line of the function for a method of the domain's trait
abbrev pub entry_of : Domain → Option MethodRow → Option ℕ
entry_of d row = option_map (λ m. body_of_function d.lines m.name) row

abbrev pub entry_at : Domain → ℕ → Option ℕ
entry_at d m = entry_of d (slice_get (methods_of d.tables (domain_trait d)) m)
