-- What reading each part leaves: the values that its lines stand for, with their numbers, and no block open behind them.
use Rattle.std.specs.Prelude.{◌≡◌, ℕ, suc, List, [], Some, Result, All}
use Rattle.std.specs.List.{flat_map}
use Rattle.rl_defs.specs.declared.LoadFault.{LoadFault}
use Rattle.rl_defs.specs.declared.idl.Idl.{Idl}
use Rattle.rl_defs.specs.declared.code.DomainText.{DomainText}
use Rattle.rl_defs.specs.declared.bundle.Plan.{Plan}
use Rattle.rl_defs.specs.declared.bundle.Clients.{Clients}
use Rattle.rl_defs.specs.Parts.{StandFor, block_behind, forms_of}
use Rattle.rl_defs.specs.IdlParts.{interface_part}
use Rattle.rl_defs.specs.DomainParts.{AreDomains}
use Rattle.rl_defs.specs.BundleParts as parts
use Rattle.rl_defs.specs.BundleParts.{plan_part, client_part, header_place}
use Rattle.rl_defs.specs.BundleOrder.{numbers_of, IsDomainText}
use Rattle.bundle_parts.specs.declared.cut.At.{At}
use Rattle.bundle_parts.specs.Cuts.{Passes, IsReached, Reaches}

-- the place of a part is passed, and this was read
abbrev pub Passed : {X : Type 0} → List (List ℕ) → parts.Header → ℕ → ℕ → (X → ℕ → List (List ℕ) → Type 0) → (X → Type 0) → (X → List ℕ) → (X → Type 0) → X → Type 0
Passed texts h old new stands none numbers closed x = Passes texts h old new (stands x) (none x) (numbers x) × closed x

-- the same, with the header that stands behind the part, or the end
abbrev pub Moves : {X : Type 0} → List (List ℕ) → parts.Header → At → At → (X → ℕ → List (List ℕ) → Type 0) → (X → Type 0) → (X → List ℕ) → (X → Type 0) → X → Type 0
Moves texts h old new stands none numbers closed x = IsReached texts (suc (header_place h)) new × Passed texts h old.place new.place stands none numbers closed x

abbrev pub idl_stands : Idl → ℕ → List (List ℕ) → Type 0
idl_stands x first texts = StandFor interface_part first texts x.lines

abbrev pub no_idl : Idl → Type 0
no_idl x = x.lines ≡ []

abbrev pub idl_numbers : Idl → List ℕ
idl_numbers x = numbers_of x.lines

abbrev pub idl_closed : Idl → Type 0
idl_closed x = block_behind interface_part (forms_of x.lines) ≡ Some interface_part.outside

abbrev pub domains_stand : List DomainText → ℕ → List (List ℕ) → Type 0
domains_stand x first texts = AreDomains first texts x

abbrev pub no_domains : List DomainText → Type 0
no_domains x = x ≡ []

abbrev pub numbers_of_domains : List DomainText → List ℕ
numbers_of_domains x = flat_map (λ d. numbers_of d.lines) x

abbrev pub domains_closed : List DomainText → Type 0
domains_closed x = All IsDomainText x

abbrev pub plan_stands : Plan → ℕ → List (List ℕ) → Type 0
plan_stands x first texts = StandFor plan_part first texts x.lines

abbrev pub no_plan : Plan → Type 0
no_plan x = x.lines ≡ []

abbrev pub plan_numbers : Plan → List ℕ
plan_numbers x = numbers_of x.lines

abbrev pub plan_closed : Plan → Type 0
plan_closed x = block_behind plan_part (forms_of x.lines) ≡ Some plan_part.outside

abbrev pub clients_stand : Clients → ℕ → List (List ℕ) → Type 0
clients_stand x first texts = StandFor client_part first texts x.lines

abbrev pub no_clients : Clients → Type 0
no_clients x = x.lines ≡ []

abbrev pub client_numbers : Clients → List ℕ
client_numbers x = numbers_of x.lines

abbrev pub clients_closed : Clients → Type 0
clients_closed x = block_behind client_part (forms_of x.lines) ≡ Some client_part.outside

-- what reading each part answers of the bundle
abbrev pub ReadsIdl : List (List ℕ) → At → At → Result Idl LoadFault → Type 0
ReadsIdl texts old new result = Reaches texts (Moves texts parts.Interfaces old new idl_stands no_idl idl_numbers idl_closed) result

abbrev pub ReadsDomains : List (List ℕ) → At → At → Result (List DomainText) LoadFault → Type 0
ReadsDomains texts old new result = Reaches texts (Moves texts parts.Domains old new domains_stand no_domains numbers_of_domains domains_closed) result

abbrev pub ReadsPlan : List (List ℕ) → At → At → Result Plan LoadFault → Type 0
ReadsPlan texts old new result = Reaches texts (Moves texts parts.ThePlan old new plan_stands no_plan plan_numbers plan_closed) result

abbrev pub ReadsClients : List (List ℕ) → At → At → Result Clients LoadFault → Type 0
ReadsClients texts old new result = Reaches texts (Moves texts parts.TheClients old new clients_stand no_clients client_numbers clients_closed) result
