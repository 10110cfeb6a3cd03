-- What the lines of a bundle stand for: the rows of a load, each kind in the order of the text.
use Rattle.std.specs.Prelude.{ℕ, suc, ◌&&◌, Bool, if◌then◌else◌, List, [], ◌∷◌, ◌++◌, map, Option, unwrap_or}
use Rattle.std.specs.Option.{option_map}
use Rattle.std.specs.List.{flat_map, list_any, slice_index_or}
use Rattle.rl_defs.specs.declared.bundle.Bundle.{Bundle}
use Rattle.rl_defs.specs.declared.bundle.PlanLine.{PlanLine}
use Rattle.rl_defs.specs.declared.bundle.PlanLine.TheVariants as plan
use Rattle.rl_defs.specs.declared.bundle.ScriptArgText.{ScriptArgText}
use Rattle.rl_defs.specs.declared.bundle.ScriptArgText.TheVariants as written
use Rattle.rl_defs.specs.declared.bundle.ClientLine.{ClientLine}
use Rattle.rl_defs.specs.declared.bundle.ClientLine.TheVariants as client
use Rattle.rl_defs.specs.declared.code.DomainText.{DomainText}
use Rattle.rl_defs.specs.declared.tables.Tables.{Tables}
use Rattle.rl_defs.specs.declared.load.LoadRows.{LoadRows}
use Rattle.rl_defs.specs.declared.load.LoadRow.{LoadRow}
use Rattle.rl_defs.specs.declared.load.ShadowRow.{ShadowRow}
use Rattle.rl_defs.specs.declared.load.ClientRow.{ClientRow}
use Rattle.rl_defs.specs.declared.load.Command.{Command}
use Rattle.rl_defs.specs.declared.load.Command.TheVariants as command
use Rattle.rl_defs.specs.declared.load.ScriptArg.{ScriptArg}
use Rattle.rl_defs.specs.declared.load.ScriptArg.TheVariants as arg
use Rattle.rl_defs.specs.Words.{same_bytes}
use Rattle.rl_defs.specs.Interfaces.{place_of}
use Rattle.rl_defs.specs.DomainValue.{Domain}
use Rattle.rl_defs.specs.Domains.{Lines}
use Rattle.rl_defs.specs.CodeNames.{imports, struct_number, method_number}
use Rattle.rl_defs.specs.BundleNames.{ClientLines, given_by, names_of, serial_given, name_given, domain_names, load_names, shadow_names, client_names, lines_of_domain, scripts_of}
use Rattle.rl_defs.specs.ScriptRules.{target_trait}

-- the number of a name among names, from 1 (0 where it isn't there, which rule 4 refuses)
abbrev pub counted : Option ℕ → ℕ
counted place = unwrap_or (option_map (λ k. suc k) place) 0

abbrev pub number_in : List ℕ → List (List ℕ) → ℕ
number_in name names = counted (place_of name names)

-- the targets: the loads, and on after them the shadows, numbered from 1
abbrev pub load_number : Bundle → List ℕ → ℕ
load_number b name = number_in name (load_names b)

abbrev pub target_number : Bundle → List ℕ → ℕ
target_number b name = number_in name (load_names b ++ shadow_names b)

-- what a line binds to an import of a load, and what the plan binds to it
abbrev pub bound_in : List ℕ → List ℕ → PlanLine → List (List ℕ)
bound_in load import (plan.Bind of to target) = if same_bytes of load && same_bytes to import then target ∷ [] else []
bound_in load import _ = []

abbrev pub bound_to : Bundle → List ℕ → List ℕ → List ℕ
bound_to b load import = slice_index_or (flat_map (λ l. bound_in load import l.form) b.plan.lines) 0 []

-- the targets of a load's imports, in the order of the imports
abbrev pub binds_of : Bundle → List ℕ → Lines → List ℕ
binds_of b load lines = map (λ import. target_number b (bound_to b load import)) (map (λ d. d.name) (imports lines))

abbrev pub is_serial_in : Bundle → List ℕ → Bool
is_serial_in b load = list_any (λ other. same_bytes other load) (names_of (given_by serial_given b.plan.lines))

-- the loads
abbrev pub loads_in : Bundle → PlanLine → List LoadRow
loads_in b (plan.Load name domain) = record {
  name = name;
  domain = unwrap_or (place_of domain (domain_names b)) 0;
  serial = is_serial_in b name;
  binds = binds_of b name (unwrap_or (lines_of_domain b domain) []);
} ∷ []
loads_in b _ = []

abbrev pub loads_of : Bundle → List LoadRow
loads_of b = flat_map (λ l. loads_in b l.form) b.plan.lines

-- the shadows
abbrev pub shadows_in : Bundle → PlanLine → List ShadowRow
shadows_in b (plan.Shadow name load restarts) = record { name = name; load = load_number b load; restarts = restarts } ∷ []
shadows_in b _ = []

abbrev pub shadows_of : Bundle → List ShadowRow
shadows_of b = flat_map (λ l. shadows_in b l.form) b.plan.lines

-- the clients that the `order` line names, by their numbers
abbrev pub order_in : Bundle → PlanLine → List ℕ
order_in b (plan.Order clients) = map (λ name. number_in name (client_names b)) clients
order_in b _ = []

abbrev pub order_of : Bundle → List ℕ
order_of b = flat_map (λ l. order_in b l.form) b.plan.lines

-- the fuel of each command: that of the `fuel` line, or 10,000
abbrev pub fuel_in : PlanLine → List ℕ
fuel_in (plan.Fuel n) = n ∷ []
fuel_in _ = []

abbrev pub fuel_of : Bundle → ℕ
fuel_of b = slice_index_or (flat_map (λ l. fuel_in l.form) b.plan.lines) 0 10000

-- the load that has the device, and its blocks; 0 where there is no `device` line
abbrev pub device_in : Bundle → PlanLine → List ℕ
device_in b (plan.Device load blocks) = load_number b load ∷ []
device_in b _ = []

abbrev pub device_of : Bundle → ℕ
device_of b = slice_index_or (flat_map (λ l. device_in b l.form) b.plan.lines) 0 0

abbrev pub blocks_in : PlanLine → List ℕ
blocks_in (plan.Device load blocks) = blocks ∷ []
blocks_in _ = []

abbrev pub blocks_of : Bundle → ℕ
blocks_of b = slice_index_or (flat_map (λ l. blocks_in l.form) b.plan.lines) 0 0

-- the names that a script binds; a name's number is its place among them, from 0
abbrev pub script_names : ClientLines → List (List ℕ)
script_names script = names_of (given_by name_given script)

abbrev pub name_number : List (List ℕ) → List ℕ → ℕ
name_number names name = unwrap_or (place_of name names) 0

-- the arguments of a call
abbrev pub arg_of : Bundle → List (List ℕ) → ScriptArgText → ScriptArg
arg_of b names (written.Num n) = arg.Num n
arg_of b names (written.Name name) = arg.Name (name_number names name)
arg_of b names (written.Lent name) = arg.Lent (name_number names name)
arg_of b names (written.Target name) = arg.Target (target_number b name)

-- the method of a target, by its number
abbrev pub method_number_of : Tables → Bundle → List ℕ → List ℕ → ℕ
method_number_of tables b target method = unwrap_or (method_number tables (target_trait tables b target) method) 0

-- the commands
abbrev pub commands_in : Tables → Bundle → List (List ℕ) → ClientLine → List Command
commands_in tables b names (client.Let name ty values) = command.Let (name_number names name) (struct_number tables ty) values ∷ []
commands_in tables b names (client.Text name ty bytes) = command.Text (name_number names name) (struct_number tables ty) bytes ∷ []
commands_in tables b names (client.Call target method args results) =
    command.Call (target_number b target) (method_number_of tables b target method) (map (arg_of b names) args) (map (name_number names) results) ∷ []
commands_in tables b names (client.Show name) = command.Show (name_number names name) ∷ []
commands_in tables b names (client.Drop name) = command.Drop (name_number names name) ∷ []
commands_in tables b names (client.Kill target) = command.Kill (target_number b target) ∷ []
commands_in tables b names _ = []

abbrev pub commands_of : Tables → Bundle → ClientLines → List Command
commands_of tables b script = flat_map (λ l. commands_in tables b (script_names script) l.form) script

-- the clients, each with its script
abbrev pub client_rows : Tables → Bundle → List (List ℕ) → List ClientLines → List ClientRow
client_rows tables b (name ∷ names) (script ∷ scripts) = record { name = name; commands = commands_of tables b script } ∷ client_rows tables b names scripts
client_rows tables b _ _ = []

abbrev pub clients_of : Tables → Bundle → List ClientRow
clients_of tables b = client_rows tables b (client_names b) (scripts_of b.clients.lines)

-- the domains, with the tables that their names are looked up in
abbrev pub checked_with : Tables → DomainText → Domain
checked_with tables d = record { lines = d.lines; tables = tables }

-- the load that a bundle stands for, with the tables of its interfaces
abbrev pub load_of : Tables → Bundle → LoadRows
load_of tables b = record {
  tables = tables;
  domains = map (checked_with tables) b.domains;
  loads = loads_of b;
  shadows = shadows_of b;
  clients = clients_of tables b;
  order = order_of b;
  fuel = fuel_of b;
  device_load = device_of b;
  blocks = blocks_of b;
}
