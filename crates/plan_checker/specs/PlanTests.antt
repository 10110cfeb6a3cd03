-- The rules 40 to 46 at one line of the plan, as tests.
use Rattle.std.specs.Prelude.{ℕ, Bool, false, ◌||◌, not, nat_eq, nat_le, nat_lt, is_some, is_none, List, take, Option, Some, None}
use Rattle.std.specs.List.{list_any}
use Rattle.std.specs.Cmp.Lexicographic.{pointwise}
use Rattle.rl_defs.specs.declared.bundle.PlanLine.{PlanLine}
use Rattle.rl_defs.specs.declared.bundle.PlanLine.TheVariants as plan
use Rattle.rl_defs.specs.declared.bundle.Bundle.{Bundle}
use Rattle.rl_defs.specs.Interfaces.{place_of}
use Rattle.rl_defs.specs.Domains.{Lines, trait_name, is_native}
use Rattle.rl_defs.specs.CodeNames.{imports, place_in, type_at}
use Rattle.rl_defs.specs.BundleNames.{given_by, names_of, load_given, load_names, lines_of_domain, load_lines, target_lines, shadowed, device_given}
use Rattle.plan_checker.specs.LineScan.{FailsOneOf, lowest_of, given_before}
use Rattle.plan_checker.specs.Lookups.{PlanLines, place_of_target, bound_at}

-- rule 40: an import of the domain has no `bind`
abbrev pub has_unbound : PlanLines → List ℕ → Option Lines → Bool
has_unbound lines load None = false
has_unbound lines load (Some text) = list_any (λ d. is_none (bound_at lines load d.name)) (imports text)

abbrev pub is_unbound : Bundle → List ℕ → List ℕ → Bool
is_unbound b load domain = has_unbound b.plan.lines load (lines_of_domain b domain)

-- rule 41: the import has another trait than the target
abbrev pub is_other_trait : Lines → List ℕ → Lines → Bool
is_other_trait binds import target = not (pointwise nat_eq (type_at (imports binds) (place_in import (imports binds))) (trait_name target))

abbrev pub differs : Option Lines → List ℕ → Option Lines → Bool
differs (Some binds) import (Some target) = is_other_trait binds import target
differs _ import _ = false

abbrev pub has_other_trait : Bundle → List ℕ → List ℕ → List ℕ → Bool
has_other_trait b load import target = differs (load_lines b load) import (target_lines b target)

-- rule 42: the target's load isn't before the binding load
abbrev pub is_behind : Option ℕ → Option ℕ → Bool
is_behind (Some place) (Some target) = nat_le place target
is_behind _ _ = false

abbrev pub is_bound_backwards : Bundle → List ℕ → List ℕ → Bool
is_bound_backwards b load target = is_behind (place_of load (load_names b)) (place_of_target b target)

-- rule 43: the shadow's load is native, or an earlier shadow has it
abbrev pub has_native : Option Lines → Bool
has_native None = false
has_native (Some text) = is_native text

abbrev pub loads_shadowed : PlanLines → List (List ℕ)
loads_shadowed lines = names_of (given_by shadowed lines)

abbrev pub is_badly_shadowed : Bundle → ℕ → List ℕ → Bool
is_badly_shadowed b place load = has_native (load_lines b load) || is_some (place_of load (loads_shadowed (take place b.plan.lines)))

-- rule 46: a number is below the least or above the most
abbrev pub is_outside : ℕ → ℕ → ℕ → Bool
is_outside least most n = nat_lt n least || nat_lt most n

-- which rules fail at the line of this form
abbrev pub FailsPlanLine : Bundle → ℕ → PlanLine → ℕ → Type 0
FailsPlanLine b place (plan.Load name domain) = FailsOneOf (is_unbound b name domain) 40 (nat_le 64 (given_before load_given b.plan.lines place)) 46
FailsPlanLine b place (plan.Bind load import target) = FailsOneOf (has_other_trait b load import target) 41 (is_bound_backwards b load target) 42
FailsPlanLine b place (plan.Shadow name load restarts) = FailsOneOf (is_badly_shadowed b place load) 43 (nat_lt 16 restarts) 44
FailsPlanLine b place (plan.Device load blocks) = FailsOneOf (nat_lt 0 (given_before device_given b.plan.lines place)) 45 (is_outside 1 4096 blocks) 46
FailsPlanLine b place (plan.Serial load) = FailsOneOf false 46 false 46
FailsPlanLine b place (plan.Fuel n) = FailsOneOf false 46 (is_outside 1 1000000 n) 46
FailsPlanLine b place (plan.Order clients) = FailsOneOf false 46 false 46

-- the lowest of them, where so many loads and devices and the shadows of these loads stand before the line
abbrev pub lowest_at : Bundle → ℕ → List (List ℕ) → ℕ → PlanLine → Option ℕ
lowest_at b loads shadowed_before devices (plan.Load name domain) = lowest_of (is_unbound b name domain) 40 (nat_le 64 loads) 46
lowest_at b loads shadowed_before devices (plan.Bind load import target) = lowest_of (has_other_trait b load import target) 41 (is_bound_backwards b load target) 42
lowest_at b loads shadowed_before devices (plan.Shadow name load restarts) = lowest_of (has_native (load_lines b load) || is_some (place_of load shadowed_before)) 43 (nat_lt 16 restarts) 44
lowest_at b loads shadowed_before devices (plan.Device load blocks) = lowest_of (nat_lt 0 devices) 45 (is_outside 1 4096 blocks) 46
lowest_at b loads shadowed_before devices (plan.Serial load) = lowest_of false 46 false 46
lowest_at b loads shadowed_before devices (plan.Fuel n) = lowest_of false 46 (is_outside 1 1000000 n) 46
lowest_at b loads shadowed_before devices (plan.Order clients) = lowest_of false 46 false 46
