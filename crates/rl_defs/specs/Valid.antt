-- Which loads are valid: what the rules on names, types, methods, domain code, plans and scripts leave in a load's rows. Each number in
-- them that stands for a row names one, but for a device load of 0.
use Rattle.std.specs.Prelude.{◌≡◌, ◌≢◌, ℕ, ◌<◌, ◌≤◌, ◌++◌, ⊤, true, false, length, map, Some, All}
use Rattle.std.specs.List.{AllPairs, AllZip, Contains}
use Rattle.rl_defs.specs.declared.bundle.Numbered.{Numbered}
use Rattle.rl_defs.specs.declared.code.DomainLine.{DomainLine}
use Rattle.rl_defs.specs.declared.tables.Kind.{Kind}
use Rattle.rl_defs.specs.declared.tables.Kind.TheVariants as kind
use Rattle.rl_defs.specs.declared.tables.StructRow.{StructRow}
use Rattle.rl_defs.specs.declared.tables.MethodRow.{MethodRow}
use Rattle.rl_defs.specs.declared.tables.TraitRow.{TraitRow}
use Rattle.rl_defs.specs.declared.tables.Tables.{Tables}
use Rattle.rl_defs.specs.declared.load.LoadRows.{LoadRows}
use Rattle.rl_defs.specs.declared.load.LoadRow.{LoadRow}
use Rattle.rl_defs.specs.declared.load.ShadowRow.{ShadowRow}
use Rattle.rl_defs.specs.declared.load.ClientRow.{ClientRow}
use Rattle.rl_defs.specs.DomainValue.{Domain}
use Rattle.rl_defs.specs.Domains.{row, load_row, load_of_target, slots_of, words_of, is_native}
use Rattle.rl_defs.specs.CodeNames.{Declared, imports, functions, trait_number, cells_of, structs_used, traits_used}
use Rattle.rl_defs.specs.CodeRules.{KeepsRules}
use Rattle.rl_defs.specs.TableSizes.{AreTablesSmall}
use Rattle.rl_defs.specs.Rows.{domain_of_load, is_target, trait_of_target}
use Rattle.rl_defs.specs.ValidScripts.{IsValidScript}

-- ---- tables

-- what lies in cells and is given back: numbers, and objects of the structs
abbrev pub IsOwnable : Tables → Kind → Type 0
IsOwnable tables (kind.Num w) = ⊤
IsOwnable tables (kind.Own s) = s < length tables.structs
IsOwnable tables _ = ⊥

-- what is passed to a method: these, objects of the structs that are lent, and interfaces of the traits
abbrev pub IsPassable : Tables → Kind → Type 0
IsPassable tables (kind.Lent s) = s < length tables.structs
IsPassable tables (kind.Cap t) = t < length tables.traits
IsPassable tables k = IsOwnable tables k

-- A struct's cells; an object that lies in one has no object in a cell of its own.
pub record IsValidStruct (tables : Tables) (struct : StructRow) : Type 0 where
  pub cells : All (IsOwnable tables) struct.flat
  pub one_deep : (h g : ℕ) → Contains struct.flat (kind.Own h) → Contains (cells_of tables h) (kind.Own g) → ⊥

-- A method's parameters and results; what may be issued again moves no object.
pub record IsValidMethod (tables : Tables) (method : MethodRow) : Type 0 where
  pub params : All (IsPassable tables) method.params
  pub results : All (IsOwnable tables) method.results
  pub repeats : method.idempotent ≡ true → (s : ℕ) → Contains method.params (kind.Own s) → ⊥

-- A trait's methods, no two of one name.
pub record IsValidTrait (tables : Tables) (trait : TraitRow) : Type 0 where
  pub methods : All (IsValidMethod tables) trait.methods
  pub names : AllPairs ◌≢◌ (map (λ m. m.name) trait.methods)

-- A load's structs and traits, no two of one name.
pub record AreValidTables (tables : Tables) : Type 0 where
  pub small : AreTablesSmall tables
  pub structs : All (IsValidStruct tables) tables.structs
  pub traits : All (IsValidTrait tables) tables.traits
  pub names : AllPairs ◌≢◌ (map (λ s. s.name) tables.structs ++ map (λ t. t.name) tables.traits)

-- ---- domains

-- A domain was checked against a load's tables: it keeps the rules of domain code, has at most 4,096 words and 64 slots, gives no two slots,
-- imports or functions one name, and each struct and each trait that its lines name is one of the tables.
pub record IsValidDomain (tables : Tables) (d : Domain) : Type 0 where
  pub checked_with : d.tables ≡ tables
  pub keeps : KeepsRules d
  pub words : words_of d.lines ≤ 4096
  pub slots : length (slots_of d.lines) ≤ 64
  pub slot_names : AllPairs ◌≢◌ (slots_of d.lines)
  pub import_names : AllPairs ◌≢◌ (map (λ i. i.name) (imports d.lines))
  pub function_names : AllPairs ◌≢◌ (functions d.lines)
  pub structs : (l : Numbered DomainLine) → Contains d.lines l → All (Contains (map (λ s. s.name) tables.structs)) (structs_used l.form)
  pub traits : (l : Numbered DomainLine) → Contains d.lines l → All (Contains (map (λ t. t.name) tables.traits)) (traits_used l.form)

-- ---- the plan

-- To an import of load k a target is bound that has the import's trait. Its load comes before load k.
pub record IsValidBind (L : LoadRows) (k : ℕ) (import : Declared) (x : ℕ) : Type 0 where
  pub target : is_target L x ≡ true
  pub trait : trait_of_target L x ≡ trait_number L.tables import.ty
  pub before : load_of_target L x < k

-- Load k runs one of the domains, and each import of that has what is bound to it.
pub record IsValidLoad (L : LoadRows) (k : ℕ) (load : LoadRow) : Type 0 where
  pub domain : load.domain < length L.domains
  pub binds : AllZip (IsValidBind L k) (imports (domain_of_load L k).lines) load.binds

-- A shadow stands for a load that isn't native, and loads it again at most 16 times.
pub record IsValidShadow (L : LoadRows) (shadow : ShadowRow) : Type 0 where
  pub load : (1 ≤ shadow.load) × (shadow.load ≤ length L.loads)
  pub code : is_native (domain_of_load L shadow.load).lines ≡ false
  pub restarts : shadow.restarts ≤ 16

-- ---- the whole load

-- At most 64 loads and 16 clients; no two targets and no two clients of one name; at most one shadow for a load. The order names clients.
-- Each command has 1 to 1,000,000 fuel. The device is one of the loads or none, and has at most 4,096 blocks.
pub record Valid (L : LoadRows) : Type 0 where
  pub tables : AreValidTables L.tables
  pub domains : All (IsValidDomain L.tables) L.domains
  pub loads : (k : ℕ) (load : LoadRow) → load_row L k ≡ Some load → IsValidLoad L k load
  pub shadows : All (IsValidShadow L) L.shadows
  pub clients : (t : ℕ) (client : ClientRow) → row L.clients t ≡ Some client → IsValidScript L t client.commands
  pub one_shadow : AllPairs ◌≢◌ (map (λ x. x.load) L.shadows)
  pub target_names : AllPairs ◌≢◌ (map (λ l. l.name) L.loads ++ map (λ x. x.name) L.shadows)
  pub client_names : AllPairs ◌≢◌ (map (λ c. c.name) L.clients)
  pub few_loads : length L.loads ≤ 64
  pub few_clients : length L.clients ≤ 16
  pub order : All (λ t. (1 ≤ t) × (t ≤ length L.clients)) L.order
  pub fuel : (1 ≤ L.fuel) × (L.fuel ≤ 1000000)
  pub device : L.device_load ≤ length L.loads
  pub blocks : L.blocks ≤ 4096
