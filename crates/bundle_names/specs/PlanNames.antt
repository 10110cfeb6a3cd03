-- Rules 3 and 4 in the plan.
use Rattle.std.specs.Prelude.{◌≡◌, ℕ, ◌+◌, ◌==◌, ◌||◌, ◌⊎◌, Bool, if◌then◌else◌, List, [], ◌∷◌, ◌++◌, Option, None, Some, false, map}
use Rattle.std.specs.List.{list_any}
use Rattle.rl_defs.specs.declared.bundle.PlanLine.{PlanLine}
use Rattle.rl_defs.specs.declared.bundle.PlanLine.TheVariants as plan
use Rattle.rl_defs.specs.declared.bundle.Bundle.{Bundle}
use Rattle.rl_defs.specs.declared.code.DomainText.{DomainText}
use Rattle.rl_defs.specs.Refusals.{Failing}
use Rattle.rl_defs.specs.Interfaces.{place_of}
use Rattle.rl_defs.specs.CodeNames.{Declared, imports}
use Rattle.rl_defs.specs.BundleNames.{given_by, names_of, target_given, bind_given, serial_given, fuel_given, order_given, domains_loaded, domains_loaded, domain_names, load_names, target_names, client_names}
use Rattle.rl_defs.specs.NameRules.{load_used, target_used, client_used, PlanTwice, NamesUnknown, UnknownImport}
use Rattle.bundle_names.specs.declared.known.Known.{Known}
use Rattle.bundle_names.specs.Tests.{repeats, has_unknown, item_at, lacks}

-- rule 4: a line of the plan names what nothing declares
abbrev pub PlanNamesNothing : Bundle → ℕ → Type 0
PlanNamesNothing b n =
    NamesUnknown b.plan.lines domains_loaded (domain_names b) n
    ⊎ (NamesUnknown b.plan.lines load_used (load_names b) n
    ⊎ (NamesUnknown b.plan.lines target_used (target_names b) n
    ⊎ (NamesUnknown b.plan.lines client_used (client_names b) n
    ⊎ UnknownImport b n)))

-- which of the rules 3 and 4 fail at which lines of the plan
abbrev pub FailsPlanNames : Bundle → Failing
FailsPlanNames b n rule = ((rule ≡ 3) × PlanTwice b n) ⊎ ((rule ≡ 4) × PlanNamesNothing b n)

-- the names that lines of the plan gave
pub record GivenNames : Type 0 where
  pub targets : List (List ℕ)
  pub binds : List (List ℕ)
  pub serials : List (List ℕ)
  pub fuels : List (List ℕ)
  pub orders : List (List ℕ)

abbrev pub none_given : GivenNames
none_given = record { targets = []; binds = []; serials = []; fuels = []; orders = [] }

abbrev pub given_after : GivenNames → PlanLine → GivenNames
given_after g form = record {
  targets = g.targets ++ target_given form;
  binds = g.binds ++ bind_given form;
  serials = g.serials ++ serial_given form;
  fuels = g.fuels ++ fuel_given form;
  orders = g.orders ++ order_given form;
}

-- a line gives a name again
abbrev pub gives_again : GivenNames → PlanLine → Bool
gives_again g form =
    repeats g.targets (target_given form)
    || (repeats g.binds (bind_given form)
    || (repeats g.serials (serial_given form)
    || (repeats g.fuels (fuel_given form)
    || repeats g.orders (order_given form))))

abbrev pub declared_names : List Declared → List (List ℕ)
declared_names declared = map (λ d. d.name) declared

-- a place is this number
abbrev pub is_place : ℕ → Option ℕ → Bool
is_place number None = false
is_place number (Some place) = number == place

-- a load names the domain with this number
abbrev pub is_loaded : List (List ℕ) → List (List ℕ) → ℕ → Bool
is_loaded loaded domains number = list_any (λ name. is_place number (place_of name domains)) loaded

-- the imports of each domain that is kept, by its number, where the first has this number; of another domain nothing is kept
abbrev pub imports_from : (ℕ → Bool) → ℕ → List DomainText → List (List (List ℕ))
imports_from is_kept number [] = []
imports_from is_kept number (d ∷ ds) = (if is_kept number then declared_names (imports d.lines) else []) ∷ imports_from is_kept (number + 1) ds

-- the names of a bundle that a line of the plan may use: the imports are those of the domains that are loaded
abbrev pub known_names : Bundle → Known
known_names b = record {
  domains = domain_names b;
  imports = imports_from (is_loaded (names_of (given_by domains_loaded b.plan.lines)) (domain_names b)) 0 b.domains;
  loads = load_names b;
  loaded = names_of (given_by domains_loaded b.plan.lines);
  targets = target_names b;
  clients = client_names b;
}

-- the imports of the domain of this name, and of the domain of the load of this name, where there is one
abbrev pub imports_of_domain : Known → Option (List ℕ) → Option (List (List ℕ))
imports_of_domain k None = None
imports_of_domain k (Some domain) = item_at k.imports (place_of domain k.domains)

abbrev pub imports_of_load : Known → List ℕ → Option (List (List ℕ))
imports_of_load k load = imports_of_domain k (item_at k.loaded (place_of load k.loads))

-- a bound import is none of its load's domain
abbrev pub binds_unknown : Known → PlanLine → Bool
binds_unknown k (plan.Bind load import target) = lacks (imports_of_load k load) import
binds_unknown k _ = false

-- a line of the plan names what nothing declares
abbrev pub names_nothing : Known → PlanLine → Bool
names_nothing k form =
    has_unknown k.domains (domains_loaded form)
    || (has_unknown k.loads (load_used form)
    || (has_unknown k.targets (target_used form)
    || (has_unknown k.clients (client_used form)
    || binds_unknown k form)))
