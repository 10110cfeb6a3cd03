-- What the lines of a domain give and use.
use Rattle.std.specs.Prelude.{◌≡◌, ℕ, ◌-◌, ◌^◌, ◌<◌, ◌⊎◌, Bool, true, false, not, ◌||◌, List, [], ◌∷◌, Option, Some, None, is_some, slice_get, take, map}
use Rattle.std.specs.List.{list_any, flat_map}
use Rattle.rl_defs.specs.declared.bundle.Bundle.{Bundle}
use Rattle.rl_defs.specs.declared.code.DomainLine.{DomainLine}
use Rattle.rl_defs.specs.declared.code.DomainLine.TheVariants as line
use Rattle.rl_defs.specs.declared.code.DomainText.{DomainText}
use Rattle.rl_defs.specs.declared.code.HeadKind.{HeadKind}
use Rattle.rl_defs.specs.declared.code.HeadKind.TheVariants as head
use Rattle.rl_defs.specs.declared.code.Instr.TheVariants as instr
use Rattle.rl_defs.specs.Refusals.{Failing}
use Rattle.rl_defs.specs.Domains.{Lines, trait_name}
use Rattle.rl_defs.specs.Interfaces.{place_of, struct_names, trait_names, Lines as IdlLines}
use Rattle.rl_defs.specs.BundleOrder.{numbers_of, Rise}
use Rattle.rl_defs.specs.BundleNames.{domain_lines, names_of, given_by, domain_given}
use Rattle.rl_defs.specs.CodeNames.{structs_used, traits_used}
use Rattle.rl_defs.specs.NameRules.{GivenTwice, MemberTwice, NamesUnknown, LabelTwice, UnknownFunction}
use Rattle.bundle_names.specs.declared.roles.Role.{Role}
use Rattle.bundle_names.specs.declared.roles.Role.TheVariants as role
use Rattle.bundle_names.specs.declared.domain_lines.DomainScopes.{DomainScopes}
use Rattle.bundle_names.specs.declared.interface_names.InterfaceNames.{InterfaceNames}
use Rattle.bundle_names.specs.Scopes.{Scope, names_in, behind, behind_all, repeats, scopes, FailsAt, Somewhere}
use Rattle.bundle_names.specs.InterfaceLines.{method_role}

-- which of the rules 3 and 4 fail at which lines of the domains of a bundle
abbrev pub FailsDomainNames : Bundle → Failing
FailsDomainNames b n rule =
    ((rule ≡ 3) × (GivenTwice (given_by domain_given (domain_lines b)) n ⊎ (MemberTwice b n ⊎ LabelTwice b n)))
    ⊎ ((rule ≡ 4) × (NamesUnknown (domain_lines b) structs_used (struct_names b.idl.lines) n ⊎ (NamesUnknown (domain_lines b) traits_used (trait_names b.idl.lines) n ⊎ UnknownFunction b n)))

-- the names of domains, in all domains; of slots, imports and functions, in a domain; of labels, in a function
abbrev pub domain_role : DomainLine → Role
domain_role (line.Domain name has) = role.Gives name
domain_role _ = role.Passes

abbrev pub slot_role : DomainLine → Role
slot_role (line.Slot name ty) = role.Gives name
slot_role _ = role.Passes

abbrev pub import_role : DomainLine → Role
import_role (line.Import name has) = role.Gives name
import_role _ = role.Passes

abbrev pub function_role : DomainLine → Role
function_role (line.Function name) = role.Gives name
function_role _ = role.Passes

abbrev pub label_role : DomainLine → Role
label_role (line.Function name) = role.Opens
label_role (line.Head name items) = role.Gives name
label_role line.Close = role.Ends
label_role _ = role.Passes

-- what is known before the first line of a domain, behind a line, and before the line at a place
abbrev pub at_domain : Scope → DomainScopes
at_domain domains = record { domains = domains; slots = Some []; imports = Some []; functions = Some []; labels = None }

abbrev pub declared_behind : DomainLine → DomainScopes → DomainScopes
declared_behind line d = record { domains = behind (domain_role line) d.domains; slots = behind (slot_role line) d.slots; imports = behind (import_role line) d.imports; functions = behind (function_role line) d.functions; labels = behind (label_role line) d.labels }

abbrev pub declared_at : Scope → Lines → ℕ → DomainScopes
declared_at domains lines k = record { domains = behind_all domain_role domains (take k lines); slots = behind_all slot_role (Some []) (take k lines); imports = behind_all import_role (Some []) (take k lines); functions = behind_all function_role (Some []) (take k lines); labels = behind_all label_role None (take k lines) }

pub record HasSpace (d : DomainScopes) : Type 0 where
  pub domains : names_in d.domains < 2 ^ 32 - 1
  pub slots : names_in d.slots < 2 ^ 32 - 1
  pub imports : names_in d.imports < 2 ^ 32 - 1
  pub functions : names_in d.functions < 2 ^ 32 - 1
  pub labels : names_in d.labels < 2 ^ 32 - 1

abbrev pub is_given_again : DomainLine → DomainScopes → Bool
is_given_again line d = repeats (domain_role line) d.domains || (repeats (slot_role line) d.slots || (repeats (import_role line) d.imports || (repeats (function_role line) d.functions || repeats (label_role line) d.labels)))

abbrev pub is_absent : List (List ℕ) → List ℕ → Bool
is_absent names name = not (is_some (place_of name names))

abbrev pub is_kind_unknown : List (List ℕ) → List (List ℕ) → HeadKind → Bool
is_kind_unknown structs traits (head.Own ty) = is_absent structs ty
is_kind_unknown structs traits (head.Lent ty) = is_absent structs ty
is_kind_unknown structs traits (head.Cap has) = is_absent traits has
is_kind_unknown structs traits head.Num = false

-- the line names a struct or trait that nothing declares, or a function that the trait has no method for
abbrev pub names_unknown : List (List ℕ) → List (List ℕ) → List (List ℕ) → DomainLine → Bool
names_unknown structs traits methods (line.Domain name has) = is_absent traits has
names_unknown structs traits methods (line.Slot name ty) = is_absent structs ty
names_unknown structs traits methods (line.Import name has) = is_absent traits has
names_unknown structs traits methods (line.Function name) = is_absent methods name
names_unknown structs traits methods (line.Head label items) = list_any (λ item. is_kind_unknown structs traits item.kind) items
names_unknown structs traits methods (line.Code (instr.New a ty)) = is_absent structs ty
names_unknown structs traits methods _ = false

-- the methods of the trait of a name, or these names where there is none
abbrev pub names_or : List (List ℕ) → Option (List (List ℕ)) → List (List ℕ)
names_or others None = others
names_or others (Some names) = names

abbrev pub methods_in : List (List ℕ) → List (List (List ℕ)) → Option ℕ → List (List ℕ)
methods_in others methods None = others
methods_in others methods (Some t) = names_or others (slice_get methods t)

abbrev pub methods_of : InterfaceNames → List ℕ → List (List ℕ)
methods_of known has = methods_in known.nothing known.methods (place_of has known.traits)

-- the names of the methods of each trait
abbrev pub method_tables : IdlLines → List (List (List ℕ))
method_tables lines = map names_of (scopes method_role lines)

-- what a line adds to the methods of a trait, whether they go on behind it, and the methods of a trait that it begins
abbrev pub role_names : Role → List (List ℕ)
role_names (role.Gives name) = name ∷ []
role_names _ = []

abbrev pub goes_on : Role → Bool
goes_on role.Opens = false
goes_on role.Ends = false
goes_on _ = true

abbrev pub role_tables : Role → List (List ℕ) → List (List (List ℕ))
role_tables role.Opens names = names ∷ []
role_tables _ names = []

-- the structs, the traits and their methods are those of these lines
pub record Knows (lines : IdlLines) (known : InterfaceNames) : Type 0 where
  pub structs : known.structs ≡ struct_names lines
  pub traits : known.traits ≡ trait_names lines
  pub methods : known.methods ≡ method_tables lines
  pub nothing : known.nothing ≡ []

-- which rules fail at which lines of a domain, behind domains of these names
abbrev pub FailsIn : InterfaceNames → Scope → Lines → Failing
FailsIn known domains lines = Somewhere (FailsAt lines (λ k line. is_given_again line (declared_at domains lines k)) (λ k line. names_unknown known.structs known.traits (methods_of known (trait_name lines)) line))

abbrev pub all_lines : List DomainText → Lines
all_lines domains = flat_map (λ d. d.lines) domains

-- the lines are numbered upwards, through all domains
abbrev pub NumbersRise : List DomainText → Type 0
NumbersRise domains = Rise (flat_map (λ d. numbers_of d.lines) domains)

-- the names of the domains before one
abbrev pub domains_before : List DomainText → ℕ → Scope
domains_before domains d = behind_all domain_role (Some []) (all_lines (take d domains))

-- which rules fail at which lines of the domain at a place
abbrev pub FailsAtDomain : InterfaceNames → List DomainText → ℕ → Failing
FailsAtDomain known domains d n rule = (text : DomainText) × (slice_get domains d ≡ Some text) × FailsIn known (domains_before domains d) text.lines n rule
