-- A bundle with its tables, and the look-ups that are kept beside them.
use Rattle.std.specs.Option.{option_map}
use Rattle.std.specs.Prelude.{◌≡◌, ℕ, ◌+◌, ◌<◌, ◌^◌, List, [], map, length, Option, Some, None, slice_get, unwrap_or}
use Rattle.std.specs.List.{flat_map}
use Rattle.rl_defs.specs.declared.tables.Tables.{Tables}
use Rattle.rl_defs.specs.declared.bundle.Bundle.{Bundle}
use Rattle.rl_defs.specs.declared.bundle.Plan.{Plan}
use Rattle.rl_defs.specs.declared.bundle.Clients.{Clients}
use Rattle.rl_defs.specs.declared.code.DomainText.{DomainText}
use Rattle.rl_defs.specs.Interfaces.{place_of}
use Rattle.rl_defs.specs.CodeNames.{trait_number}
use Rattle.rl_defs.specs.DomainValue.{Domain}
use Rattle.rl_defs.specs.Domains.{Lines, trait_name}
use Rattle.rl_defs.specs.BundleNames.{given_by, names_of, domain_given, load_names, domains_loaded, lines_of_domain, shadow_names, shadowed as shadows_loaded, load_lines}
use Rattle.rl_defs.specs.BundleOrder.{bundle_of}

-- the tables and the parts of a bundle behind its interfaces, whose lines no script rule looks at
pub record Scoped : Type 0 where
  pub tables : Tables
  pub bundle : Bundle

abbrev pub without_interfaces : List Domain → Plan → Clients → Bundle
without_interfaces domains plan clients = bundle_of (record { lines = [] }) domains plan clients

-- the number of the trait of a domain's lines, 0 where there is no domain
abbrev pub trait_of_lines : Tables → Option Lines → ℕ
trait_of_lines tables lines = unwrap_or (option_map (λ ls. trait_number tables (trait_name ls)) lines) 0

-- the traits of loads, each by its domain
abbrev pub domain_trait : Tables → Bundle → List ℕ → ℕ
domain_trait tables b domain = trait_of_lines tables (lines_of_domain b domain)

abbrev pub load_traits : Tables → Bundle → List ℕ
load_traits tables b = map (domain_trait tables b) (names_of (given_by domains_loaded b.plan.lines))

-- the traits of shadows, each by its load
abbrev pub load_trait : Tables → Bundle → List ℕ → ℕ
load_trait tables b load = trait_of_lines tables (load_lines b load)

abbrev pub shadow_traits : Tables → Bundle → List ℕ
shadow_traits tables b = map (load_trait tables b) (names_of (given_by shadows_loaded b.plan.lines))

-- a number of a list, 0 where there is none
abbrev pub number_at : List ℕ → Option ℕ → ℕ
number_at numbers None = 0
number_at numbers (Some place) = unwrap_or (slice_get numbers place) 0

-- the number of a name, 0 where it isn't there
abbrev pub number_of : List ℕ → List (List ℕ) → ℕ
number_of name names = unwrap_or (place_of name names) 0

abbrev pub all_lines : List DomainText → Lines
all_lines domains = flat_map (λ d. d.lines) domains

-- the trait of the domain of this name, by the names of the traits
abbrev pub trait_in : List (List ℕ) → List DomainText → List ℕ → ℕ
trait_in traits domains name = number_at (map (λ d. number_of (trait_name d.lines) traits) domains) (place_of name (names_of (given_by domain_given (all_lines domains))))

-- The look-ups give the structs, the methods of each trait, and the loads and the shadows with their
-- traits.
pub record IsScope (S : Scoped) (structs : List (List ℕ)) (methods : List (List (List ℕ))) (loads : List (List ℕ)) (loaded : List ℕ) (shadows : List (List ℕ)) (shadowed : List ℕ) : Type 0 where
  pub structs_are : structs ≡ map (λ s. s.name) S.tables.structs
  pub methods_are : methods ≡ map (λ t. map (λ m. m.name) t.methods) S.tables.traits
  pub loads_are : loads ≡ load_names S.bundle
  pub loaded_are : loaded ≡ load_traits S.tables S.bundle
  pub shadows_are : shadows ≡ shadow_names S.bundle
  pub shadowed_are : shadowed ≡ shadow_traits S.tables S.bundle
  pub numbered : length loads + length shadows < 2 ^ 32
