-- The structs and traits that the lines of an interface part give, in the order of the text.
use Rattle.std.specs.Prelude.{◌≡◌, ◌<◌, ℕ, suc, Bool, true, false, List, [], ◌∷◌, ◌++◌, map, Option, Some, None, if◌then◌else◌, slice_get, unwrap_or, nat_eq}
use Rattle.std.specs.Option.{option_map, option_map_or, option_to_list}
use Rattle.std.specs.Cmp.Lexicographic.{pointwise}
use Rattle.rl_defs.specs.declared.bundle.Numbered.{Numbered}
use Rattle.rl_defs.specs.declared.idl.IdlLine.{IdlLine}
use Rattle.rl_defs.specs.declared.idl.IdlLine.TheVariants as form
use Rattle.rl_defs.specs.declared.idl.TypeText.{TypeText}
use Rattle.rl_defs.specs.declared.idl.Param.{Param}
use Rattle.rl_defs.specs.declared.idl.ResultText.{ResultText}
use Rattle.rl_defs.specs.declared.idl.ResultText.TheVariants as results

abbrev pub Lines : Type 0
Lines = List (Numbered IdlLine)

-- the lines are numbered upwards
abbrev pub Rises : Lines → Type 0
Rises lines = (j k : ℕ) (x y : Numbered IdlLine) → j < k → slice_get lines j ≡ Some x → slice_get lines k ≡ Some y → x.line < y.line

-- a field of a struct, and the number of its line
pub record FieldText : Type 0 where
  pub line : ℕ
  pub name : List ℕ
  pub ty : TypeText

-- a struct, and the number of its first line
pub record StructText : Type 0 where
  pub line : ℕ
  pub name : List ℕ
  pub fields : List FieldText

-- a method of a trait, and the number of its line
pub record MethodText : Type 0 where
  pub line : ℕ
  pub name : List ℕ
  pub idempotent : Bool
  pub params : List Param
  pub result : ResultText

-- a trait, and the number of its first line
pub record TraitText : Type 0 where
  pub line : ℕ
  pub name : List ℕ
  pub methods : List MethodText

-- a field line before other fields; any other line ends them
abbrev pub field_before : ℕ → IdlLine → List FieldText → List FieldText
field_before n (form.Field name ty) more = record { line = n; name = name; ty = ty } ∷ more
field_before n _ more = []

-- the fields at the front of these lines
abbrev pub fields_of : Lines → List FieldText
fields_of [] = []
fields_of (x ∷ xs) = field_before x.line x.form (fields_of xs)

abbrev pub struct_before : ℕ → IdlLine → List FieldText → List StructText → List StructText
struct_before n (form.Struct name) fields more = record { line = n; name = name; fields = fields } ∷ more
struct_before n _ fields more = more

-- The structs, each with the field lines right behind its first line. They are numbered from 0.
abbrev pub structs_of : Lines → List StructText
structs_of [] = []
structs_of (x ∷ xs) = struct_before x.line x.form (fields_of xs) (structs_of xs)

-- a method line, or the line that marks the next method; any other line ends the methods
abbrev pub method_before : ℕ → IdlLine → Bool → (Bool → List MethodText) → List MethodText
method_before n form.Idempotent marked more = more true
method_before n (form.Method name params result) marked more = record { line = n; name = name; idempotent = marked; params = params; result = result } ∷ more false
method_before n _ marked more = []

-- the methods at the front of these lines, where the line before them marks the first or doesn't
abbrev pub methods_of : Lines → Bool → List MethodText
methods_of [] marked = []
methods_of (x ∷ xs) marked = method_before x.line x.form marked (methods_of xs)

abbrev pub trait_before : ℕ → IdlLine → List MethodText → List TraitText → List TraitText
trait_before n (form.Trait name) methods more = record { line = n; name = name; methods = methods } ∷ more
trait_before n _ methods more = more

-- The traits, each with the method lines right behind its first line. They are numbered from 0.
abbrev pub traits_of : Lines → List TraitText
traits_of [] = []
traits_of (x ∷ xs) = trait_before x.line x.form (methods_of xs false) (traits_of xs)

abbrev pub types_of : List FieldText → List TypeText
types_of fields = map (λ f. f.ty) fields

abbrev pub param_types : List Param → List TypeText
param_types params = map (λ p. p.ty) params

abbrev pub result_types : ResultText → List TypeText
result_types results.Missing = []
result_types (results.Plain types) = types
result_types (results.Rpc types) = types

abbrev pub field_types : Option StructText → List TypeText
field_types text = option_map_or (λ t. types_of t.fields) text []

-- the types of the fields of a struct, by its number
abbrev pub types_at : Lines → ℕ → List TypeText
types_at lines s = field_types (slice_get (structs_of lines) s)

-- the types that a line holds: of a field, or of a method's parameters and results
abbrev pub types_in : IdlLine → List TypeText
types_in (form.Field name ty) = ty ∷ []
types_in (form.Method name params result) = param_types params ++ result_types result
types_in _ = []

-- the name that a line declares for a struct
abbrev pub struct_name : IdlLine → Option (List ℕ)
struct_name (form.Struct name) = Some name
struct_name _ = None

-- the name that a line declares for a trait
abbrev pub trait_name : IdlLine → Option (List ℕ)
trait_name (form.Trait name) = Some name
trait_name _ = None

abbrev pub names_by : (IdlLine → Option (List ℕ)) → Lines → List (List ℕ)
names_by name_of [] = []
names_by name_of (x ∷ xs) = option_to_list (name_of x.form) ++ names_by name_of xs

-- the names of the structs, in the order of the text
abbrev pub struct_names : Lines → List (List ℕ)
struct_names lines = names_by struct_name lines

-- the names of the traits, in the order of the text
abbrev pub trait_names : Lines → List (List ℕ)
trait_names lines = names_by trait_name lines

-- the place of a name among names, if it is there
abbrev pub place_of : List ℕ → List (List ℕ) → Option ℕ
place_of name [] = None
place_of name (x ∷ xs) = if pointwise nat_eq x name then Some 0 else option_map (λ k. suc k) (place_of name xs)

-- the number of the struct of this name (0 where nothing declares it, which rule 4 refuses)
abbrev pub struct_number : Lines → List ℕ → ℕ
struct_number lines name = unwrap_or (place_of name (struct_names lines)) 0

-- the number of the trait of this name
abbrev pub trait_number : Lines → List ℕ → ℕ
trait_number lines name = unwrap_or (place_of name (trait_names lines)) 0
