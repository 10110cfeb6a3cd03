-- Rules 50 and 51: the scripts of the clients.
use Rattle.std.specs.Prelude.{◌≡◌, ℕ, ◌==◌, nat_le, ◌⊎◌, ◌&&◌, not, Bool, true, false, List, [], ◌∷◌, length, Option, Some, None, take, unwrap_or, if◌then◌else◌}
use Rattle.std.specs.Option.{option_map}
use Rattle.std.specs.List.{list_all, list_any, flat_map}
use Rattle.rl_defs.specs.declared.bundle.ScriptArgText.{ScriptArgText}
use Rattle.rl_defs.specs.declared.bundle.ScriptArgText.TheVariants as arg
use Rattle.rl_defs.specs.declared.bundle.ClientLine.{ClientLine}
use Rattle.rl_defs.specs.declared.bundle.ClientLine.TheVariants as client
use Rattle.rl_defs.specs.declared.tables.Width.TheVariants as width
use Rattle.rl_defs.specs.declared.tables.Kind.{Kind}
use Rattle.rl_defs.specs.declared.tables.Kind.TheVariants as kind
use Rattle.rl_defs.specs.declared.tables.MethodRow.{MethodRow}
use Rattle.rl_defs.specs.declared.tables.Tables.{Tables}
use Rattle.rl_defs.specs.Words.{same_bytes}
use Rattle.rl_defs.specs.Refusals.{Failing}
use Rattle.rl_defs.specs.Domains.{trait_name}
use Rattle.rl_defs.specs.CodeNames.{struct_number, trait_number, cells_of, method_named, params_of, results_of}
use Rattle.rl_defs.specs.NativeShapes.{is_number}
use Rattle.rl_defs.specs.Widths.{bits, fits_width}
use Rattle.rl_defs.specs.declared.bundle.Bundle.{Bundle}
use Rattle.rl_defs.specs.BundleNames.{ClientLines, target_lines}
use Rattle.rl_defs.specs.NameRules.{CommandAt, names_used}

-- the number of the trait of a target, 0 where there is no such target
abbrev pub target_trait : Tables → Bundle → List ℕ → ℕ
target_trait tables b target = unwrap_or (option_map (λ lines. trait_number tables (trait_name lines)) (target_lines b target)) 0

-- the method that a call names
abbrev pub method_of_call : Tables → Bundle → List ℕ → List ℕ → Option MethodRow
method_of_call tables b target method = method_named tables (target_trait tables b target) method

-- what a script name is bound to: an object of a struct, or a number of a width
pub record Bound : Type 0 where
  pub name : List ℕ
  pub kind : Kind

abbrev pub paired : List (List ℕ) → List Kind → List Bound
paired [] kinds = []
paired (name ∷ names) [] = []
paired (name ∷ names) (k ∷ kinds) = record { name = name; kind = k } ∷ paired names kinds

-- what a command binds
abbrev pub binds : Tables → Bundle → ClientLine → List Bound
binds tables b (client.Let name ty values) = record { name = name; kind = kind.Own (struct_number tables ty) } ∷ []
binds tables b (client.Text name ty bytes) = record { name = name; kind = kind.Own (struct_number tables ty) } ∷ []
binds tables b (client.Call target method args names) = paired names (results_of (method_of_call tables b target method))
binds tables b _ = []

-- what the lines before a line of a script bind
abbrev pub bound_before : Tables → Bundle → ClientLines → ℕ → List Bound
bound_before tables b script place = flat_map (λ l. binds tables b l.form) (take place script)

-- the kind of a name
abbrev pub kind_of : List Bound → List ℕ → Option Kind
kind_of [] name = None
kind_of (x ∷ bound) name = if same_bytes x.name name then Some x.kind else kind_of bound name

abbrev pub is_object : Option Kind → Bool
is_object (Some (kind.Own s)) = true
is_object _ = false

-- a number fits a number cell of its width, and no other cell
abbrev pub fits_cell : Kind → ℕ → Bool
fits_cell (kind.Num w) n = fits_width w n
fits_cell _ n = false

-- rule 50: the numbers are at most as many as the cells, and each fits its cell
abbrev pub numbers_fit : List Kind → List ℕ → Bool
numbers_fit cells [] = true
numbers_fit [] (n ∷ numbers) = false
numbers_fit (k ∷ cells) (n ∷ numbers) = fits_cell k n && numbers_fit cells numbers

-- rule 50: all cells are `u8`, and at least as many as the bytes
abbrev pub bytes_fit : List Kind → List ℕ → Bool
bytes_fit cells bytes = list_all (is_number width.W8) cells && nat_le (length bytes) (length cells)

-- what a name is bound to suits a parameter: a number that is no wider, or an object of the struct
abbrev pub name_suits : Kind → Option Kind → Bool
name_suits (kind.Num w) (Some (kind.Num v)) = nat_le (bits v) (bits w)
name_suits (kind.Own s) (Some (kind.Own t)) = s == t
name_suits _ _ = false

abbrev pub lent_suits : Kind → Option Kind → Bool
lent_suits (kind.Lent s) (Some (kind.Own t)) = s == t
lent_suits _ _ = false

abbrev pub target_suits : Kind → ℕ → Bool
target_suits (kind.Cap t) has = t == has
target_suits _ has = false

-- an argument suits its parameter
abbrev pub suits : Tables → Bundle → List Bound → Kind → ScriptArgText → Bool
suits tables b bound k (arg.Num n) = fits_cell k n
suits tables b bound k (arg.Name name) = name_suits k (kind_of bound name)
suits tables b bound k (arg.Lent name) = lent_suits k (kind_of bound name)
suits tables b bound k (arg.Target name) = target_suits k (target_trait tables b name)

abbrev pub args_suit : Tables → Bundle → List Bound → List Kind → List ScriptArgText → Bool
args_suit tables b bound (k ∷ kinds) (a ∷ args) = suits tables b bound k a && args_suit tables b bound kinds args
args_suit tables b bound _ _ = true

abbrev pub is_own : Kind → Bool
is_own (kind.Own s) = true
is_own _ = false

-- rule 50: where names are given, they are as many as the results; where none are, no result is an object
abbrev pub names_suit : List Kind → List (List ℕ) → Bool
names_suit results [] = not (list_any is_own results)
names_suit results (name ∷ names) = length results == length (name ∷ names)

-- rule 50: there is such a method, and it has as many parameters
abbrev pub has_count : Option MethodRow → List ScriptArgText → Bool
has_count None args = false
has_count (Some m) args = length m.params == length args

-- every sentence of rule 50, of a command behind these names
abbrev pub keeps_kinds : Tables → Bundle → List Bound → ClientLine → Bool
keeps_kinds tables b bound (client.Let name ty values) = numbers_fit (cells_of tables (struct_number tables ty)) values
keeps_kinds tables b bound (client.Text name ty bytes) = bytes_fit (cells_of tables (struct_number tables ty)) bytes
keeps_kinds tables b bound (client.Call target method args names) =
    has_count (method_of_call tables b target method) args
    && (args_suit tables b bound (params_of (method_of_call tables b target method)) args
    && names_suit (results_of (method_of_call tables b target method)) names)
keeps_kinds tables b bound (client.Show name) = is_object (kind_of bound name)
keeps_kinds tables b bound (client.Drop name) = is_object (kind_of bound name)
keeps_kinds tables b bound _ = true

-- rule 50: a command is given something of another kind, another count, or too much
pub record HasOtherKinds (tables : Tables) (b : Bundle) (n : ℕ) : Type 0 where
  pub command : CommandAt b n
  pub broken : keeps_kinds tables b (bound_before tables b command.script command.place) command.form ≡ false

abbrev pub is_among : List ℕ → List (List ℕ) → Bool
is_among name names = list_any (λ other. same_bytes other name) names

-- the objects that an argument moves, of those that are bound, and those that it lends
abbrev pub moved_by : List Bound → ScriptArgText → List (List ℕ)
moved_by bound (arg.Name name) = if is_object (kind_of bound name) then name ∷ [] else []
moved_by bound _ = []

abbrev pub lent_by : ScriptArgText → List (List ℕ)
lent_by (arg.Lent name) = name ∷ []
lent_by _ = []

-- the objects that a command moves or drops
abbrev pub gone_by : List Bound → ClientLine → List (List ℕ)
gone_by bound (client.Call target method args names) = flat_map (moved_by bound) args
gone_by bound (client.Drop name) = name ∷ []
gone_by bound _ = []

-- the objects that these lines move or drop
abbrev pub gone_before : Tables → Bundle → ClientLines → ℕ → List (List ℕ)
gone_before tables b script place = flat_map (λ l. gone_by (flat_map (λ x. binds tables b x.form) script) l.form) (take place script)

abbrev pub are_distinct : List (List ℕ) → Bool
are_distinct [] = true
are_distinct (name ∷ names) = not (is_among name names) && are_distinct names

abbrev pub args_of : ClientLine → List ScriptArgText
args_of (client.Call target method args names) = args
args_of _ = []

-- rule 51: no name is used that an earlier line moved or dropped; none is moved twice, or moved and lent, in one call
abbrev pub keeps_owned : List Bound → List (List ℕ) → ClientLine → Bool
keeps_owned bound gone form =
    not (list_any (λ name. is_among name gone) (names_used form))
    && (are_distinct (flat_map (moved_by bound) (args_of form))
    && not (list_any (λ name. is_among name (flat_map lent_by (args_of form))) (flat_map (moved_by bound) (args_of form))))

-- rule 51: a name is used that is gone, or moved and used once more in one call
pub record UsesWhatIsGone (tables : Tables) (b : Bundle) (n : ℕ) : Type 0 where
  pub command : CommandAt b n
  pub broken : keeps_owned (bound_before tables b command.script command.place) (gone_before tables b command.script command.place) command.form ≡ false

-- which of the rules 50 and 51 fail at which lines of a bundle
abbrev pub FailsScripts : Tables → Bundle → Failing
FailsScripts tables b n rule = ((rule ≡ 50) × HasOtherKinds tables b n) ⊎ ((rule ≡ 51) × UsesWhatIsGone tables b n)
