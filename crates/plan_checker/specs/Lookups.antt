-- What names of the plan lead to.
use Rattle.std.specs.Prelude.{ℕ, List, [], ◌∷◌, map, Option, slice_get}
use Rattle.std.specs.List.{flat_map}
use Rattle.std.specs.Option.{option_and_then}
use Rattle.rl_defs.specs.declared.bundle.Numbered.{Numbered}
use Rattle.rl_defs.specs.declared.bundle.PlanLine.{PlanLine}
use Rattle.rl_defs.specs.declared.bundle.PlanLine.TheVariants as plan
use Rattle.rl_defs.specs.declared.bundle.Bundle.{Bundle}
use Rattle.rl_defs.specs.DomainValue.{Domain}
use Rattle.rl_defs.specs.Interfaces.{place_of}
use Rattle.rl_defs.specs.BundleNames.{given_by, names_of, shadowed, shadow_names, load_names, load_behind}
use Rattle.rl_defs.specs.BundleOrder.{text_of}
use Rattle.rl_defs.specs.LoadOf.{bound_in}

abbrev pub PlanLines : Type 0
PlanLines = List (Numbered PlanLine)

-- the bundle of these domains and this plan, without interfaces and clients
abbrev pub plan_bundle : List Domain → PlanLines → Bundle
plan_bundle domains lines = record { idl = record { lines = [] }; domains = map text_of domains; plan = record { lines = lines }; clients = record { lines = [] } }

-- the load of a shadow, and the place of a target's load
abbrev pub load_of_shadow : Bundle → List ℕ → Option (List ℕ)
load_of_shadow b target = option_and_then (slice_get (names_of (given_by shadowed b.plan.lines))) (place_of target (shadow_names b))

abbrev pub place_of_target : Bundle → List ℕ → Option ℕ
place_of_target b target = option_and_then (λ load. place_of load (load_names b)) (load_behind b target)

-- the load of a `bind`
abbrev pub binding : PlanLine → List (List ℕ)
binding (plan.Bind load import target) = load ∷ []
binding _ = []

-- what the plan first binds to an import
abbrev pub bound_at : PlanLines → List ℕ → List ℕ → Option (List ℕ)
bound_at lines load import = slice_get (flat_map (λ l. bound_in load import l.form) lines) 0
