-- The names that the lines of a bundle give, and what the names of its plan and clients lead to.
use Rattle.std.specs.Prelude.{ℕ, Bool, true, false, List, [], ◌∷◌, ◌++◌, map, Option, Some, slice_get, is_some, if◌then◌else◌}
use Rattle.std.specs.List.{flat_map}
use Rattle.std.specs.Option.{option_map, option_and_then}
use Rattle.rl_defs.specs.declared.bundle.Numbered.{Numbered}
use Rattle.rl_defs.specs.declared.bundle.PlanLine.{PlanLine}
use Rattle.rl_defs.specs.declared.bundle.PlanLine.TheVariants as plan
use Rattle.rl_defs.specs.declared.bundle.ClientLine.{ClientLine}
use Rattle.rl_defs.specs.declared.bundle.ClientLine.TheVariants as client
use Rattle.rl_defs.specs.declared.code.DomainLine.{DomainLine}
use Rattle.rl_defs.specs.declared.code.DomainLine.TheVariants as line
use Rattle.rl_defs.specs.declared.bundle.Bundle.{Bundle}
use Rattle.rl_defs.specs.Interfaces.{place_of}
use Rattle.rl_defs.specs.Domains.{Lines}

-- a name, and the number of the line that gives it
pub record Given : Type 0 where
  pub line : ℕ
  pub name : List ℕ

abbrev pub given : ℕ → List ℕ → Given
given n name = record { line = n; name = name }

-- what lines give, each by its form, and the names of what is given
abbrev pub given_by : {Form : Type 0} → (Form → List (List ℕ)) → List (Numbered Form) → List Given
given_by names [] = []
given_by names (l ∷ ls) = map (given l.line) (names l.form) ++ given_by names ls

abbrev pub names_of : List Given → List (List ℕ)
names_of names = map (λ g. g.name) names

-- the names that a line of a domain gives: of the domain, a slot, an import, a function
abbrev pub domain_given : DomainLine → List (List ℕ)
domain_given (line.Domain name has) = name ∷ []
domain_given _ = []

abbrev pub slot_given : DomainLine → List (List ℕ)
slot_given (line.Slot name ty) = name ∷ []
slot_given _ = []

abbrev pub import_given : DomainLine → List (List ℕ)
import_given (line.Import name has) = name ∷ []
import_given _ = []

abbrev pub function_given : DomainLine → List (List ℕ)
function_given (line.Function name) = name ∷ []
function_given _ = []

-- the lines of all domains
abbrev pub domain_lines : Bundle → Lines
domain_lines b = flat_map (λ d. d.lines) b.domains

-- the names of loads, of shadows, and of both; the domain of a load, and the load of a shadow
abbrev pub load_given : PlanLine → List (List ℕ)
load_given (plan.Load name domain) = name ∷ []
load_given _ = []

abbrev pub shadow_given : PlanLine → List (List ℕ)
shadow_given (plan.Shadow name load restarts) = name ∷ []
shadow_given _ = []

abbrev pub target_given : PlanLine → List (List ℕ)
target_given (plan.Load name domain) = name ∷ []
target_given (plan.Shadow name load restarts) = name ∷ []
target_given _ = []

abbrev pub domains_loaded : PlanLine → List (List ℕ)
domains_loaded (plan.Load name domain) = domain ∷ []
domains_loaded _ = []

abbrev pub shadowed : PlanLine → List (List ℕ)
shadowed (plan.Shadow name load restarts) = load ∷ []
shadowed _ = []

-- what a `bind` binds, which a dot parts; the load of a `serial` line; the one `fuel`, `order` and `device` line
abbrev pub bind_given : PlanLine → List (List ℕ)
bind_given (plan.Bind load import target) = (load ++ 46 ∷ import) ∷ []
bind_given _ = []

abbrev pub serial_given : PlanLine → List (List ℕ)
serial_given (plan.Serial load) = load ∷ []
serial_given _ = []

abbrev pub fuel_given : PlanLine → List (List ℕ)
fuel_given (plan.Fuel n) = [] ∷ []
fuel_given _ = []

abbrev pub order_given : PlanLine → List (List ℕ)
order_given (plan.Order clients) = [] ∷ []
order_given _ = []

abbrev pub device_given : PlanLine → List (List ℕ)
device_given (plan.Device load blocks) = [] ∷ []
device_given _ = []

-- the names of clients, and the script names that a command binds
abbrev pub client_given : ClientLine → List (List ℕ)
client_given (client.Client name) = name ∷ []
client_given _ = []

abbrev pub name_given : ClientLine → List (List ℕ)
name_given (client.Let name ty values) = name ∷ []
name_given (client.Text name ty bytes) = name ∷ []
name_given (client.Call target method args names) = names
name_given _ = []

abbrev pub ClientLines : Type 0
ClientLines = List (Numbered ClientLine)

-- the lines up to the end of a client
abbrev pub ends_client : ClientLine → Bool
ends_client client.Close = true
ends_client _ = false

abbrev pub commands_at : ClientLines → ClientLines
commands_at [] = []
commands_at (l ∷ ls) = if ends_client l.form then [] else l ∷ commands_at ls

abbrev pub script_before : ClientLine → ClientLines → List ClientLines → List ClientLines
script_before (client.Client name) commands others = commands ∷ others
script_before _ commands others = others

-- the scripts: the commands of each client, in the order of the text
abbrev pub scripts_of : ClientLines → List ClientLines
scripts_of [] = []
scripts_of (l ∷ ls) = script_before l.form (commands_at ls) (scripts_of ls)

-- all names of domains, loads, shadows, loads and shadows, clients
abbrev pub domain_names : Bundle → List (List ℕ)
domain_names b = names_of (given_by domain_given (domain_lines b))

abbrev pub load_names : Bundle → List (List ℕ)
load_names b = names_of (given_by load_given b.plan.lines)

abbrev pub shadow_names : Bundle → List (List ℕ)
shadow_names b = names_of (given_by shadow_given b.plan.lines)

abbrev pub target_names : Bundle → List (List ℕ)
target_names b = names_of (given_by target_given b.plan.lines)

abbrev pub client_names : Bundle → List (List ℕ)
client_names b = names_of (given_by client_given b.clients.lines)

-- the domain of a load: of two loads of one name the first is looked at
abbrev pub domain_of_load : Bundle → List ℕ → Option (List ℕ)
domain_of_load b load = option_and_then (slice_get (names_of (given_by domains_loaded b.plan.lines))) (place_of load (load_names b))

-- the lines of a domain, of the domain of a load, and of that of a target
abbrev pub lines_of_domain : Bundle → List ℕ → Option Lines
lines_of_domain b name = option_map (λ d. d.lines) (option_and_then (slice_get b.domains) (place_of name (domain_names b)))

abbrev pub load_lines : Bundle → List ℕ → Option Lines
load_lines b load = option_and_then (lines_of_domain b) (domain_of_load b load)

-- the load of a target: a load is its own, and a shadow has the one that it stands for
abbrev pub load_behind : Bundle → List ℕ → Option (List ℕ)
load_behind b target = if is_some (place_of target (load_names b)) then Some target else option_and_then (slice_get (names_of (given_by shadowed b.plan.lines))) (place_of target (shadow_names b))

abbrev pub target_lines : Bundle → List ℕ → Option Lines
target_lines b target = option_and_then (load_lines b) (load_behind b target)
