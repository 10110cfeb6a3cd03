-- The lowest rule at a line of the plan.
use Rattle.std.proofs.Common.{◌≡◌, ℕ, ◌+◌, ◌≤◌, Bool, false, ◌||◌, nat_le, nat_lt, List, [], ◌∷◌, ◌++◌, length, take, map, Option, Some, refl, sym, ap, subst, ◌∙◌, arith}
use Rattle.std.specs.Prelude.{slice_get}
use Rattle.std.specs.List.{list_any}
use Rattle.rl_defs.specs.declared.bundle.Bundle.{Bundle}
use Rattle.rl_defs.specs.declared.bundle.Numbered.{Numbered}
use Rattle.rl_defs.specs.declared.bundle.PlanLine.{PlanLine}
use Rattle.rl_defs.specs.declared.bundle.PlanLine.TheVariants as plan
use Rattle.rl_defs.specs.CodeNames.{Declared}
use Rattle.rl_defs.specs.BundleNames.{given, given_by, names_of, load_given, shadowed, device_given}
use Rattle.plan_checker.specs.LineScan.{IsLowest, given_before}
use Rattle.plan_checker.specs.Lookups.{PlanLines}
use Rattle.plan_checker.specs.PlanTests.{is_unbound, has_other_trait, is_bound_backwards, is_badly_shadowed, is_outside, loads_shadowed, FailsPlanLine, lowest_at}
use Rattle.plan_checker.proofs.Scanning.{lowest_is, given_more, before_more}

lowest_here : (b : Bundle) (k : ℕ) (form : PlanLine) → IsLowest (FailsPlanLine b k form) (lowest_at b (given_before load_given b.plan.lines k) (loads_shadowed (take k b.plan.lines)) (given_before device_given b.plan.lines k) form)
lowest_here b k (plan.Load name domain) = lowest_is (is_unbound b name domain) 40 (nat_le 64 (given_before load_given b.plan.lines k)) 46 (omega arith)
lowest_here b k (plan.Bind load import target) = lowest_is (has_other_trait b load import target) 41 (is_bound_backwards b load target) 42 (omega arith)
lowest_here b k (plan.Shadow name load restarts) = lowest_is (is_badly_shadowed b k load) 43 (nat_lt 16 restarts) 44 (omega arith)
lowest_here b k (plan.Device load blocks) = lowest_is (nat_lt 0 (given_before device_given b.plan.lines k)) 45 (is_outside 1 4096 blocks) 46 (omega arith)
lowest_here b k (plan.Serial load) = lowest_is false 46 false 46 (omega arith)
lowest_here b k (plan.Fuel n) = lowest_is false 46 (is_outside 1 1000000 n) 46 (omega arith)
lowest_here b k (plan.Order clients) = lowest_is false 46 false 46 (omega arith)

-- What was seen in the lines before a place.
pub record SeenTo (lines : PlanLines) (at loads : ℕ) (shadowed_before : List (List ℕ)) (devices : ℕ) : Type 0 where
  pub loads_are : loads ≡ given_before load_given lines at
  pub shadowed_are : shadowed_before ≡ loads_shadowed (take at lines)
  pub devices_are : devices ≡ given_before device_given lines at
  pub few_loads : loads ≤ at
  pub few_shadowed : length shadowed_before ≤ at
  pub few_devices : devices ≤ at

pub seen_first : (lines : PlanLines) (loads : ℕ) (shadowed_before : List (List ℕ)) (devices : ℕ) → loads ≡ 0 → shadowed_before ≡ [] → devices ≡ 0 → SeenTo lines 0 loads shadowed_before devices
seen_first lines loads shadowed_before devices l s d = record { loads_are = l; shadowed_are = s; devices_are = d; few_loads = omega (arith, l); few_shadowed = omega (arith, ap length s); few_devices = omega (arith, d) }

names_append : (n : ℕ) (gs : List Rattle.rl_defs.specs.BundleNames.Given) (ns : List (List ℕ)) → names_of (gs ++ map (given n) ns) ≡ names_of gs ++ ns
names_append n [] [] = refl
names_append n [] (x ∷ xs) = ap (λ ys. x ∷ ys) (names_append n [] xs)
names_append n (g ∷ gs) ns = ap (λ ys. g.name ∷ ys) (names_append n gs ns)

pub seen_more : (lines : PlanLines) (at : ℕ) (l : Numbered PlanLine) (l1 l2 : ℕ) (s1 s2 : List (List ℕ)) (d1 d2 : ℕ) → SeenTo lines at l1 s1 d1 → slice_get lines at ≡ Some l → l2 ≡ l1 + length (load_given l.form) → s2 ≡ s1 ++ shadowed l.form → d2 ≡ d1 + length (device_given l.form) → l2 ≤ l1 + 1 → length s2 ≤ length s1 + 1 → d2 ≤ d1 + 1 → SeenTo lines (at + 1) l2 s2 d2
seen_more lines at l l1 l2 s1 s2 d1 d2 h here loads shadows devices fl fs fd = record {
  loads_are = before_more load_given lines at l l1 l2 here h.loads_are loads;
  shadowed_are = shadows ∙ ap (λ ns. ns ++ shadowed l.form) h.shadowed_are ∙ sym (ap names_of (given_more shadowed lines at l here) ∙ names_append l.line (given_by shadowed (take at lines)) (shadowed l.form));
  devices_are = before_more device_given lines at l d1 d2 here h.devices_are devices;
  few_loads = omega (arith, h.few_loads, fl);
  few_shadowed = omega (arith, h.few_shadowed, fs);
  few_devices = omega (arith, h.few_devices, fd);
}

-- the lowest rule, by what was seen
pub lowest_seen : (b : Bundle) (at : ℕ) (form : PlanLine) (loads : ℕ) (shadowed_before : List (List ℕ)) (devices : ℕ) (rule : Option ℕ) → SeenTo b.plan.lines at loads shadowed_before devices → rule ≡ lowest_at b loads shadowed_before devices form → IsLowest (FailsPlanLine b at form) rule
lowest_seen b at form loads shadowed_before devices rule h is =
    subst (IsLowest (FailsPlanLine b at form))
    (sym (is ∙ ap (λ (n : ℕ). lowest_at b n shadowed_before devices form) h.loads_are ∙ ap (λ (ns : List (List ℕ)). lowest_at b (given_before load_given b.plan.lines at) ns devices form) h.shadowed_are ∙ ap (λ (n : ℕ). lowest_at b (given_before load_given b.plan.lines at) (loads_shadowed (take at b.plan.lines)) n form) h.devices_are))
    (lowest_here b at form)

-- a test of imports is a test of their names
pub any_name : (test : List ℕ → Bool) (declared : List Declared) → list_any test (map (λ d. d.name) declared) ≡ list_any (λ d. test d.name) declared
any_name test [] = refl
any_name test (d ∷ ds) = ap (λ (b : Bool). test d.name || b) (any_name test ds)
