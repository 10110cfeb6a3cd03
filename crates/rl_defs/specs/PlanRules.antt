-- Rules 40 to 46: the plan, and how much a bundle may have.
use Rattle.std.specs.Prelude.{◌≡◌, ◌≢◌, ℕ, ◌<◌, ◌≤◌, ◌⊎◌, true, List, ◌∷◌, ◌++◌, Some, None, slice_get}
use Rattle.rl_defs.specs.declared.bundle.PlanLine.TheVariants as plan
use Rattle.rl_defs.specs.declared.code.DomainLine.TheVariants as line
use Rattle.rl_defs.specs.declared.bundle.Bundle.{Bundle}
use Rattle.rl_defs.specs.Refusals.{Failing, HasLine}
use Rattle.rl_defs.specs.Interfaces.{place_of}
use Rattle.rl_defs.specs.Domains.{Lines, trait_name, is_native}
use Rattle.rl_defs.specs.CodeNames.{Declared, imports, place_in, type_at}
use Rattle.rl_defs.specs.BundleNames.{Given, given_by, names_of, bind_given, load_given, client_given, slot_given, device_given, shadowed, load_names, lines_of_domain, load_behind, load_lines, target_lines}
use Rattle.rl_defs.specs.NameRules.{GivenTwice, DomainIs, CommandAt}

-- rule 40: an import of the load's domain has no `bind`
pub record IsUnbound (b : Bundle) (n : ℕ) : Type 0 where
  pub name : List ℕ
  pub domain : List ℕ
  pub line : HasLine b.plan.lines n (plan.Load name domain)
  pub lines : Lines
  pub text : lines_of_domain b domain ≡ Some lines
  pub place : ℕ
  pub import : Declared
  pub of : slice_get (imports lines) place ≡ Some import
  pub unbound : place_of (name ++ 46 ∷ import.name) (names_of (given_by bind_given b.plan.lines)) ≡ None

-- rule 41: the target's trait isn't the import's
pub record HasOtherTrait (b : Bundle) (n : ℕ) : Type 0 where
  pub load : List ℕ
  pub import : List ℕ
  pub target : List ℕ
  pub line : HasLine b.plan.lines n (plan.Bind load import target)
  pub lines : Lines
  pub binds : load_lines b load ≡ Some lines
  pub others : Lines
  pub bound : target_lines b target ≡ Some others
  pub differ : trait_name others ≢ type_at (imports lines) (place_in import (imports lines))

-- rule 42: the target's load isn't before the binding load
pub record IsBoundBackwards (b : Bundle) (n : ℕ) : Type 0 where
  pub load : List ℕ
  pub import : List ℕ
  pub target : List ℕ
  pub line : HasLine b.plan.lines n (plan.Bind load import target)
  pub place : ℕ
  pub binds : place_of load (load_names b) ≡ Some place
  pub target_load : List ℕ
  pub stands_for : load_behind b target ≡ Some target_load
  pub target_place : ℕ
  pub bound : place_of target_load (load_names b) ≡ Some target_place
  pub behind : place ≤ target_place

-- rule 43: the shadow's load is native
pub record ShadowsNative (b : Bundle) (n : ℕ) : Type 0 where
  pub name : List ℕ
  pub load : List ℕ
  pub restarts : ℕ
  pub line : HasLine b.plan.lines n (plan.Shadow name load restarts)
  pub lines : Lines
  pub text : load_lines b load ≡ Some lines
  pub native : is_native lines ≡ true

-- rule 44: more than 16 restarts
pub record RestartsTooOften (b : Bundle) (n : ℕ) : Type 0 where
  pub name : List ℕ
  pub load : List ℕ
  pub restarts : ℕ
  pub line : HasLine b.plan.lines n (plan.Shadow name load restarts)
  pub many : 16 < restarts

-- so many things of a kind are too many: the line gives one that stands behind as many as there may be
pub record GoesOver (most : ℕ) (names : List Given) (n : ℕ) : Type 0 where
  pub place : ℕ
  pub over : most ≤ place
  pub one : Given
  pub here : slice_get names place ≡ Some one
  pub line : one.line ≡ n

-- rule 46: the line goes over 64 slots of a domain
pub record HasTooManySlots (b : Bundle) (n : ℕ) : Type 0 where
  pub lines : Lines
  pub domain : DomainIs b lines
  pub over : GoesOver 64 (given_by slot_given lines) n

-- rule 46: the line goes over 1,000 commands of a client
pub record HasTooManyCommands (b : Bundle) (n : ℕ) : Type 0 where
  pub command : CommandAt b n
  pub over : 1000 ≤ command.place

-- rule 46: more than 4,096 words
pub record HasTooManyWords (b : Bundle) (n : ℕ) : Type 0 where
  pub lines : Lines
  pub domain : DomainIs b lines
  pub words : ℕ
  pub line : HasLine lines n (line.Words words)
  pub many : 4096 < words

-- a number outside these bounds
abbrev pub IsOutside : ℕ → ℕ → ℕ → Type 0
IsOutside least most n = (n < least) ⊎ (most < n)

-- rule 46: fuel outside 1 to 1,000,000, or a device outside 1 to 4,096 blocks
pub record HasOtherFuel (b : Bundle) (n : ℕ) : Type 0 where
  pub fuel : ℕ
  pub line : HasLine b.plan.lines n (plan.Fuel fuel)
  pub outside : IsOutside 1 1000000 fuel

pub record HasOtherDevice (b : Bundle) (n : ℕ) : Type 0 where
  pub load : List ℕ
  pub blocks : ℕ
  pub line : HasLine b.plan.lines n (plan.Device load blocks)
  pub outside : IsOutside 1 4096 blocks

-- rule 46, whole: over 16 clients or 64 loads, or over one of the numbers above
abbrev pub IsTooMuch : Bundle → ℕ → Type 0
IsTooMuch b n =
    GoesOver 16 (given_by client_given b.clients.lines) n
    ⊎ (GoesOver 64 (given_by load_given b.plan.lines) n
    ⊎ (HasTooManySlots b n
    ⊎ (HasTooManyCommands b n
    ⊎ (HasTooManyWords b n
    ⊎ (HasOtherFuel b n ⊎ HasOtherDevice b n)))))

-- which of the rules 40 to 46 fail at which lines of a bundle: for 43 an earlier shadow may have the load, and for 45 an earlier `device`
-- line stands in the plan
abbrev pub FailsPlanRules : Bundle → Failing
FailsPlanRules b n rule =
    ((rule ≡ 40) × IsUnbound b n)
    ⊎ (((rule ≡ 41) × HasOtherTrait b n)
    ⊎ (((rule ≡ 42) × IsBoundBackwards b n)
    ⊎ (((rule ≡ 43) × (ShadowsNative b n ⊎ GivenTwice (given_by shadowed b.plan.lines) n))
    ⊎ (((rule ≡ 44) × RestartsTooOften b n)
    ⊎ (((rule ≡ 45) × GivenTwice (given_by device_given b.plan.lines) n)
    ⊎ ((rule ≡ 46) × IsTooMuch b n))))))
