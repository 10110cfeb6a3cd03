-- Rules 3 and 4: names that are given twice, and names that nothing declares.
use Rattle.std.specs.Prelude.{◌≡◌, ℕ, ◌<◌, ◌⊎◌, List, [], ◌∷◌, map, Some, None, slice_get, take, unwrap_or}
use Rattle.std.specs.List.{flat_map}
use Rattle.std.specs.Option.{option_map, option_and_then}
use Rattle.rl_defs.specs.declared.bundle.Numbered.{Numbered}
use Rattle.rl_defs.specs.declared.bundle.PlanLine.{PlanLine}
use Rattle.rl_defs.specs.declared.bundle.PlanLine.TheVariants as plan
use Rattle.rl_defs.specs.declared.bundle.ScriptArgText.{ScriptArgText}
use Rattle.rl_defs.specs.declared.bundle.ScriptArgText.TheVariants as arg
use Rattle.rl_defs.specs.declared.bundle.ClientLine.{ClientLine}
use Rattle.rl_defs.specs.declared.bundle.ClientLine.TheVariants as client
use Rattle.rl_defs.specs.declared.code.HeadItem.{HeadItem}
use Rattle.rl_defs.specs.declared.code.DomainLine.{DomainLine}
use Rattle.rl_defs.specs.declared.code.DomainLine.TheVariants as line
use Rattle.rl_defs.specs.declared.idl.Idl.{Idl}
use Rattle.rl_defs.specs.declared.idl.IdlLine.{IdlLine}
use Rattle.rl_defs.specs.declared.idl.IdlLine.TheVariants as form
use Rattle.rl_defs.specs.declared.idl.Base.{Base}
use Rattle.rl_defs.specs.declared.idl.Base.TheVariants as base
use Rattle.rl_defs.specs.declared.idl.Param.{Param}
use Rattle.rl_defs.specs.declared.bundle.Bundle.{Bundle}
use Rattle.rl_defs.specs.Refusals.{Failing, HasLine}
use Rattle.rl_defs.specs.Interfaces.{Lines as InterfaceLines, StructText, TraitText, structs_of, traits_of, types_in, struct_names, trait_names, place_of}
use Rattle.rl_defs.specs.Domains.{Lines, trait_name}
use Rattle.rl_defs.specs.CodeNames.{imports, place_in, function_at, structs_used, traits_used}
use Rattle.rl_defs.specs.BundleNames.{Given, given, given_by, names_of, domain_given, slot_given, import_given, function_given, domain_lines, target_given, bind_given, serial_given, fuel_given, order_given, client_given, ClientLines, scripts_of, name_given, domains_loaded, domain_names, load_names, target_names, client_names, load_lines}

-- rule 3: the line of this number gives a name that was given before
pub record GivenTwice (names : List Given) (n : ℕ) : Type 0 where
  pub earlier : ℕ
  pub place : ℕ
  pub before : earlier < place
  pub first : Given
  pub second : Given
  pub there : slice_get names earlier ≡ Some first
  pub here : slice_get names place ≡ Some second
  pub line : second.line ≡ n
  pub again : second.name ≡ first.name

-- the same of one of several scopes, as of the fields of one of the structs
pub record GivenTwiceInOne (scopes : List (List Given)) (n : ℕ) : Type 0 where
  pub number : ℕ
  pub names : List Given
  pub here : slice_get scopes number ≡ Some names
  pub twice : GivenTwice names n

-- the names of structs and traits, which share one scope; of the fields of a struct, the methods of a trait, the parameters of a method
abbrev pub declared_given : IdlLine → List (List ℕ)
declared_given (form.Struct name) = name ∷ []
declared_given (form.Trait name) = name ∷ []
declared_given _ = []

abbrev pub fields_given : StructText → List Given
fields_given t = map (λ f. given f.line f.name) t.fields

abbrev pub methods_given : TraitText → List Given
methods_given t = map (λ m. given m.line m.name) t.methods

abbrev pub params_in : IdlLine → List Param
params_in (form.Method name params result) = params
params_in _ = []

abbrev pub params_given : Numbered IdlLine → List Given
params_given l = map (λ p. given l.line p.name) (params_in l.form)

-- rule 3 in an interface part
abbrev pub RepeatsInInterfaces : InterfaceLines → ℕ → Type 0
RepeatsInInterfaces lines n =
    GivenTwice (given_by declared_given lines) n
    ⊎ (GivenTwiceInOne (map fields_given (structs_of lines)) n
    ⊎ (GivenTwiceInOne (map methods_given (traits_of lines)) n
    ⊎ GivenTwiceInOne (map params_given lines) n))

-- rule 4: a name among names that nothing declares
pub record IsUnknown (used declared : List (List ℕ)) : Type 0 where
  pub place : ℕ
  pub name : List ℕ
  pub uses : slice_get used place ≡ Some name
  pub unknown : place_of name declared ≡ None

-- rule 4: the line of this number, which is among these, names something that isn't declared
pub record NamesUnknown {Form : Type 0} (lines : List (Numbered Form)) (uses : Form → List (List ℕ)) (declared : List (List ℕ)) (n : ℕ) : Type 0 where
  pub place : ℕ
  pub form : Form
  pub here : slice_get lines place ≡ Some (record { line = n; form = form })
  pub unknown : IsUnknown (uses form) declared

-- the struct, and the trait, that a type names, in a refused type too
abbrev pub struct_in : Base → List (List ℕ)
struct_in (base.Struct name) = name ∷ []
struct_in (base.RRef name) = name ∷ []
struct_in (base.LentRRef name) = name ∷ []
struct_in _ = []

abbrev pub trait_in : Base → List (List ℕ)
trait_in (base.Dyn name) = name ∷ []
trait_in _ = []

abbrev pub structs_named : IdlLine → List (List ℕ)
structs_named line = flat_map (λ ty. struct_in ty.base) (types_in line)

abbrev pub traits_named : IdlLine → List (List ℕ)
traits_named line = flat_map (λ ty. trait_in ty.base) (types_in line)

-- which of the rules 3 and 4 fail at which lines of an interface part
abbrev pub FailsNames : Idl → Failing
FailsNames idl n rule =
    ((rule ≡ 3) × RepeatsInInterfaces idl.lines n)
    ⊎ ((rule ≡ 4) × (NamesUnknown idl.lines structs_named (struct_names idl.lines) n ⊎ NamesUnknown idl.lines traits_named (trait_names idl.lines) n))

-- the domain of this number has these lines
pub record DomainIs (b : Bundle) (lines : Lines) : Type 0 where
  pub place : ℕ
  pub here : slice_get b.domains place ≡ Some (record { lines = lines })

-- rule 3: an earlier slot, import or function of the domain has the name
abbrev pub in_domains : (DomainLine → List (List ℕ)) → Bundle → List (List Given)
in_domains names b = map (λ d. given_by names d.lines) b.domains

abbrev pub MemberTwice : Bundle → ℕ → Type 0
MemberTwice b n =
    GivenTwiceInOne (in_domains slot_given b) n
    ⊎ (GivenTwiceInOne (in_domains import_given b) n
    ⊎ GivenTwiceInOne (in_domains function_given b) n)

-- rule 3: an earlier label of the function has the name
pub record LabelTwice (b : Bundle) (n : ℕ) : Type 0 where
  pub lines : Lines
  pub domain : DomainIs b lines
  pub name : List ℕ
  pub number : ℕ
  pub first : List HeadItem
  pub second : List HeadItem
  pub earlier : HasLine lines number (line.Head name first)
  pub later : HasLine lines n (line.Head name second)
  pub before : earlier.place < later.place
  pub function : function_at lines earlier.place ≡ function_at lines later.place

-- rule 3: an earlier load or shadow has the name; an import is bound, a load is serial, or the fuel or the order is given, twice
abbrev pub PlanTwice : Bundle → ℕ → Type 0
PlanTwice b n =
    GivenTwice (given_by target_given b.plan.lines) n
    ⊎ (GivenTwice (given_by bind_given b.plan.lines) n
    ⊎ (GivenTwice (given_by serial_given b.plan.lines) n
    ⊎ (GivenTwice (given_by fuel_given b.plan.lines) n
    ⊎ GivenTwice (given_by order_given b.plan.lines) n)))

-- rule 3, in a whole bundle but for its interface part: an earlier domain, member, label, name of the plan, client or script name has the name
abbrev pub RepeatsName : Bundle → ℕ → Type 0
RepeatsName b n =
    GivenTwice (given_by domain_given (domain_lines b)) n
    ⊎ (MemberTwice b n
    ⊎ (LabelTwice b n
    ⊎ (PlanTwice b n
    ⊎ (GivenTwice (given_by client_given b.clients.lines) n
    ⊎ GivenTwiceInOne (map (given_by name_given) (scripts_of b.clients.lines)) n))))

-- the methods of the trait of this name
abbrev pub methods_of_trait : Bundle → List ℕ → List (List ℕ)
methods_of_trait b name = unwrap_or (option_map (λ t. map (λ m. m.name) t.methods) (option_and_then (slice_get (traits_of b.idl.lines)) (place_of name (trait_names b.idl.lines)))) []

-- rule 4: a function that the domain's trait has no method for
pub record UnknownFunction (b : Bundle) (n : ℕ) : Type 0 where
  pub lines : Lines
  pub domain : DomainIs b lines
  pub unknown : NamesUnknown lines function_given (methods_of_trait b (trait_name lines)) n

-- what a line of the plan names beside a domain: loads, targets, clients
abbrev pub load_used : PlanLine → List (List ℕ)
load_used (plan.Bind load import target) = load ∷ []
load_used (plan.Shadow name load restarts) = load ∷ []
load_used (plan.Device load blocks) = load ∷ []
load_used (plan.Serial load) = load ∷ []
load_used _ = []

abbrev pub target_used : PlanLine → List (List ℕ)
target_used (plan.Bind load import target) = target ∷ []
target_used _ = []

abbrev pub client_used : PlanLine → List (List ℕ)
client_used (plan.Order clients) = clients
client_used _ = []

-- rule 4: a bound import that the load's domain lacks, where that is declared
pub record UnknownImport (b : Bundle) (n : ℕ) : Type 0 where
  pub load : List ℕ
  pub import : List ℕ
  pub target : List ℕ
  pub line : HasLine b.plan.lines n (plan.Bind load import target)
  pub lines : Lines
  pub text : load_lines b load ≡ Some lines
  pub unknown : place_in import (imports lines) ≡ None

-- what a command names: a struct, targets, script names
abbrev pub struct_made : ClientLine → List (List ℕ)
struct_made (client.Let name ty values) = ty ∷ []
struct_made (client.Text name ty bytes) = ty ∷ []
struct_made _ = []

abbrev pub target_passed : ScriptArgText → List (List ℕ)
target_passed (arg.Target name) = name ∷ []
target_passed _ = []

abbrev pub targets_called : ClientLine → List (List ℕ)
targets_called (client.Call target method args names) = target ∷ flat_map target_passed args
targets_called (client.Kill target) = target ∷ []
targets_called _ = []

abbrev pub name_passed : ScriptArgText → List (List ℕ)
name_passed (arg.Name name) = name ∷ []
name_passed (arg.Lent name) = name ∷ []
name_passed _ = []

abbrev pub names_used : ClientLine → List (List ℕ)
names_used (client.Call target method args names) = flat_map name_passed args
names_used (client.Show name) = name ∷ []
names_used (client.Drop name) = name ∷ []
names_used _ = []

-- a command of a script, with the lines before it
pub record CommandAt (b : Bundle) (n : ℕ) : Type 0 where
  pub script : ClientLines
  pub number : ℕ
  pub client : slice_get (scripts_of b.clients.lines) number ≡ Some script
  pub place : ℕ
  pub form : ClientLine
  pub here : slice_get script place ≡ Some (record { line = n; form = form })

-- rule 4: a script name that no earlier line of the client binds
pub record UnknownScriptName (b : Bundle) (n : ℕ) : Type 0 where
  pub command : CommandAt b n
  pub unknown : IsUnknown (names_used command.form) (names_of (given_by name_given (take command.place command.script)))

-- rule 4, in a whole bundle but for its interface part
abbrev pub NamesNothing : Bundle → ℕ → Type 0
NamesNothing b n =
    NamesUnknown (domain_lines b) structs_used (struct_names b.idl.lines) n
    ⊎ (NamesUnknown (domain_lines b) traits_used (trait_names b.idl.lines) n
    ⊎ (UnknownFunction b n
    ⊎ (NamesUnknown b.plan.lines domains_loaded (domain_names b) n
    ⊎ (NamesUnknown b.plan.lines load_used (load_names b) n
    ⊎ (NamesUnknown b.plan.lines target_used (target_names b) n
    ⊎ (NamesUnknown b.plan.lines client_used (client_names b) n
    ⊎ (UnknownImport b n
    ⊎ (NamesUnknown b.clients.lines struct_made (struct_names b.idl.lines) n
    ⊎ (NamesUnknown b.clients.lines targets_called (target_names b) n
    ⊎ UnknownScriptName b n)))))))))

-- which of the rules 3 and 4 fail at which lines of a bundle
abbrev pub FailsBundleNames : Bundle → Failing
FailsBundleNames b n rule = FailsNames b.idl n rule ⊎ (((rule ≡ 3) × RepeatsName b n) ⊎ ((rule ≡ 4) × NamesNothing b n))
