-- Rules 3 and 4 in the plan, line by line.
use Rattle.std.specs.Option.{option_and_then}
use Rattle.std.proofs.Common.{◌≡◌, ℕ, ◌+◌, Bool, true, false, ◌||◌, List, [], ◌++◌, Option, Some, None, inl, inr, refl, sym, ap, subst, ◌∙◌, arith}
use Rattle.std.specs.Prelude.{slice_get, IsTrue}
use Rattle.rl_defs.specs.declared.bundle.Numbered.{Numbered}
use Rattle.rl_defs.specs.declared.bundle.PlanLine.{PlanLine}
use Rattle.rl_defs.specs.declared.bundle.PlanLine.TheVariants as plan
use Rattle.rl_defs.specs.declared.bundle.Bundle.{Bundle}
use Rattle.rl_defs.specs.declared.code.DomainText.{DomainText}
use Rattle.rl_defs.specs.Interfaces.{place_of}
use Rattle.rl_defs.specs.Domains.{Lines}
use Rattle.rl_defs.specs.CodeNames.{imports, place_in}
use Rattle.rl_defs.specs.NameRules.{GivenTwice, PlanTwice, NamesUnknown, UnknownImport, IsUnknown, load_used, target_used, client_used}
use Rattle.rl_defs.specs.BundleNames.{given_by, target_given, bind_given, serial_given, fuel_given, order_given, domains_loaded, domain_names, load_names, target_names, client_names, domain_of_load, lines_of_domain, load_lines}
use Rattle.rl_defs.specs.BundleOrder.{Rise, numbers_of}
use Rattle.bundle_names.specs.Tests.{repeats, has_unknown, item_at, lacks}
use Rattle.bundle_names.specs.PlanNames.{PlanNamesNothing, FailsPlanNames, GivenNames, none_given, given_after, gives_again, known_names, names_nothing, binds_unknown, imports_of_load, imports_of_domain, declared_names, is_loaded}
use Rattle.bundle_names.proofs.Naming.{unknown_used, used_unknown, is_unknown_none, none_is_unknown}
use Rattle.bundle_names.proofs.Loading.{domain_imports, imports_domain, is_loaded_at}
use Rattle.bundle_names.proofs.Walking.{Meets, LineWith, line_meets, meets_line, meets_or, or_meets_first, or_meets_second, part_meets, meets_part, Left}
use Rattle.bundle_names.proofs.Giving.{given_more, given_before, twice_meets, meets_twice}

-- one kind of what the plan gives
one_twice : (names : PlanLine → List (List ℕ)) (part : GivenNames → List (List ℕ)) → ((g : GivenNames) (f : PlanLine) → part (given_after g f) ≡ part g ++ names f) → part none_given ≡ [] → (lines : List (Numbered PlanLine)) (n : ℕ) → GivenTwice (given_by names lines) n → Meets given_after (λ g f. repeats (part g) (names f)) none_given lines n
one_twice names part same none lines n t = part_meets given_after (given_more names) (given_before names) part same none_given lines n (subst (λ (b : List (List ℕ)). Meets (given_more names) (given_before names) b lines n) (sym none) (twice_meets names lines n t))

twice_one : (names : PlanLine → List (List ℕ)) (part : GivenNames → List (List ℕ)) → ((g : GivenNames) (f : PlanLine) → part (given_after g f) ≡ part g ++ names f) → part none_given ≡ [] → (lines : List (Numbered PlanLine)) (n : ℕ) → Meets given_after (λ g f. repeats (part g) (names f)) none_given lines n → GivenTwice (given_by names lines) n
twice_one names part same none lines n h = meets_twice names lines n (subst (λ (b : List (List ℕ)). Meets (given_more names) (given_before names) b lines n) none (meets_part given_after (given_more names) (given_before names) part same none_given lines n h))

abbrev targets_again : GivenNames → PlanLine → Bool
targets_again g f = repeats g.targets (target_given f)

abbrev binds_again : GivenNames → PlanLine → Bool
binds_again g f = repeats g.binds (bind_given f)

abbrev serials_again : GivenNames → PlanLine → Bool
serials_again g f = repeats g.serials (serial_given f)

abbrev fuels_again : GivenNames → PlanLine → Bool
fuels_again g f = repeats g.fuels (fuel_given f)

abbrev orders_again : GivenNames → PlanLine → Bool
orders_again g f = repeats g.orders (order_given f)

abbrev from_fuels : GivenNames → PlanLine → Bool
from_fuels g f = fuels_again g f || orders_again g f

abbrev from_serials : GivenNames → PlanLine → Bool
from_serials g f = serials_again g f || from_fuels g f

abbrev from_binds : GivenNames → PlanLine → Bool
from_binds g f = binds_again g f || from_serials g f

plan_again : (b : Bundle) (n : ℕ) → PlanTwice b n → Meets given_after gives_again none_given b.plan.lines n
plan_again b n (inl t) = or_meets_first given_after targets_again from_binds none_given b.plan.lines n (one_twice target_given (λ g. g.targets) (λ g f. refl) refl b.plan.lines n t)
plan_again b n (inr (inl t)) = or_meets_second given_after targets_again from_binds none_given b.plan.lines n (or_meets_first given_after binds_again from_serials none_given b.plan.lines n (one_twice bind_given (λ g. g.binds) (λ g f. refl) refl b.plan.lines n t))
plan_again b n (inr (inr (inl t))) = or_meets_second given_after targets_again from_binds none_given b.plan.lines n (or_meets_second given_after binds_again from_serials none_given b.plan.lines n (or_meets_first given_after serials_again from_fuels none_given b.plan.lines n (one_twice serial_given (λ g. g.serials) (λ g f. refl) refl b.plan.lines n t)))
plan_again b n (inr (inr (inr (inl t)))) = or_meets_second given_after targets_again from_binds none_given b.plan.lines n (or_meets_second given_after binds_again from_serials none_given b.plan.lines n (or_meets_second given_after serials_again from_fuels none_given b.plan.lines n (or_meets_first given_after fuels_again orders_again none_given b.plan.lines n (one_twice fuel_given (λ g. g.fuels) (λ g f. refl) refl b.plan.lines n t))))
plan_again b n (inr (inr (inr (inr t)))) = or_meets_second given_after targets_again from_binds none_given b.plan.lines n (or_meets_second given_after binds_again from_serials none_given b.plan.lines n (or_meets_second given_after serials_again from_fuels none_given b.plan.lines n (or_meets_second given_after fuels_again orders_again none_given b.plan.lines n (one_twice order_given (λ g. g.orders) (λ g f. refl) refl b.plan.lines n t))))

again_plan : (b : Bundle) (n : ℕ) → Meets given_after gives_again none_given b.plan.lines n → PlanTwice b n
again_plan b n h = elim (meets_or given_after targets_again from_binds none_given b.plan.lines n h) [
  | inl t ↦ inl (twice_one target_given (λ g. g.targets) (λ g f. refl) refl b.plan.lines n t)
  | inr r ↦ inr (elim (meets_or given_after binds_again from_serials none_given b.plan.lines n r) [
    | inl t ↦ inl (twice_one bind_given (λ g. g.binds) (λ g f. refl) refl b.plan.lines n t)
    | inr s ↦ inr (elim (meets_or given_after serials_again from_fuels none_given b.plan.lines n s) [
      | inl t ↦ inl (twice_one serial_given (λ g. g.serials) (λ g f. refl) refl b.plan.lines n t)
      | inr u ↦ inr (elim (meets_or given_after fuels_again orders_again none_given b.plan.lines n u) [
        | inl t ↦ inl (twice_one fuel_given (λ g. g.fuels) (λ g f. refl) refl b.plan.lines n t)
        | inr t ↦ inr (twice_one order_given (λ g. g.orders) (λ g f. refl) refl b.plan.lines n t)
      ])
    ])
  ])
]

-- one kind of what the lines of a part use
pub unknown_meets : {S Form : Type 0} (step : S → Form → S) (s : S) (lines : List (Numbered Form)) (uses : Form → List (List ℕ)) (declared : List (List ℕ)) (n : ℕ) → NamesUnknown lines uses declared n → Meets step (λ t f. has_unknown declared (uses f)) s lines n
unknown_meets step s lines uses declared n u = line_meets step (λ f. has_unknown declared (uses f)) (λ f. IsUnknown (uses f) declared) (λ f h. unknown_used declared (uses f) h) s lines n (record { place = u.place; form = u.form; here = u.here; holds = u.unknown })

pub meets_unknown : {S Form : Type 0} (step : S → Form → S) (s : S) (lines : List (Numbered Form)) (uses : Form → List (List ℕ)) (declared : List (List ℕ)) (n : ℕ) → Meets step (λ t f. has_unknown declared (uses f)) s lines n → NamesUnknown lines uses declared n
meets_unknown step s lines uses declared n h =
    let l = meets_line step (λ f. has_unknown declared (uses f)) (λ f. IsUnknown (uses f) declared) (λ f t. used_unknown declared (uses f) t) s lines n h in
    record { place = l.place; form = l.form; here = l.here; unknown = l.holds }

-- the load's domain has no import of this name
pub record LacksImport (b : Bundle) (load import : List ℕ) : Type 0 where
  pub domain : List ℕ
  pub loaded : domain_of_load b load ≡ Some domain
  pub lines : Lines
  pub text : lines_of_domain b domain ≡ Some lines
  pub unknown : place_in import (imports lines) ≡ None

abbrev BindsUnknown : Bundle → PlanLine → Type 0
BindsUnknown b (plan.Bind load import target) = LacksImport b load import
BindsUnknown b _ = ⊥

domain_item : (b : Bundle) (load : List ℕ) → domain_of_load b load ≡ item_at (known_names b).loaded (place_of load (load_names b))
domain_item b load = by (place_of load (load_names b)) refl where
  by : (o : Option ℕ) → place_of load (load_names b) ≡ o → domain_of_load b load ≡ item_at (known_names b).loaded (place_of load (load_names b))
  by None e = rw e refl
  by (Some k) e = rw e refl

-- the domains that are loaded, by their numbers
abbrev kept : Bundle → ℕ → Bool
kept b number = is_loaded (known_names b).loaded (domain_names b) number

-- a domain that a load names is kept
is_kept : (b : Bundle) (load : Option ℕ) (domain : List ℕ) (k : ℕ) → item_at (known_names b).loaded load ≡ Some domain → place_of domain (domain_names b) ≡ Some k → kept b (0 + k) ≡ true
is_kept b None domain k e p = absurd cc
is_kept b (Some i) domain k e p = subst (λ (n : ℕ). kept b n ≡ true) (omega arith) (is_loaded_at (known_names b).loaded (domain_names b) i domain k e p)

-- where a domain is declared that a load names, the table has its imports
lines_item : (b : Bundle) (load : Option ℕ) (domain : List ℕ) (lines : Lines) → item_at (known_names b).loaded load ≡ Some domain → lines_of_domain b domain ≡ Some lines → item_at (known_names b).imports (place_of domain (domain_names b)) ≡ Some (declared_names (imports lines))
lines_item b load domain lines named h = by (place_of domain (domain_names b)) refl where
  there : (k : ℕ) (o : Option DomainText) → slice_get b.domains k ≡ o → place_of domain (domain_names b) ≡ Some k → slice_get (known_names b).imports k ≡ Some (declared_names (imports lines))
  there k None f e = absurd (let g : None ≡ Some lines = subst (λ (x : Option Lines). x ≡ Some lines) (rw (e, f) refl) h in cc)
  there k (Some d) f e =
      let g : Some d.lines ≡ Some lines = subst (λ (x : Option Lines). x ≡ Some lines) (rw (e, f) refl) h in
      let is : d.lines ≡ lines = cc in
      domain_imports (kept b) 0 b.domains k d (is_kept b load domain k named e) f ∙ ap (λ (ls : Lines). Some (declared_names (imports ls))) is

  by : (o : Option ℕ) → place_of domain (domain_names b) ≡ o → item_at (known_names b).imports (place_of domain (domain_names b)) ≡ Some (declared_names (imports lines))
  by None e = absurd (let g : None ≡ Some lines = subst (λ (x : Option Lines). x ≡ Some lines) (rw e refl) h in cc)
  by (Some k) e = rw e (there k (slice_get b.domains k) refl e)

item_lines : (b : Bundle) (load : Option ℕ) (domain : List ℕ) (names : List (List ℕ)) → item_at (known_names b).loaded load ≡ Some domain → item_at (known_names b).imports (place_of domain (domain_names b)) ≡ Some names → (lines : Lines) × (lines_of_domain b domain ≡ Some lines) × (names ≡ declared_names (imports lines))
item_lines b load domain names named h = by (place_of domain (domain_names b)) refl where
  there : (k : ℕ) (d : DomainText) → place_of domain (domain_names b) ≡ Some k → slice_get b.domains k ≡ Some d → lines_of_domain b domain ≡ Some d.lines
  there k d e f = rw (e, f) refl

  by : (o : Option ℕ) → place_of domain (domain_names b) ≡ o → (lines : Lines) × (lines_of_domain b domain ≡ Some lines) × (names ≡ declared_names (imports lines))
  by None e = absurd (let g : None ≡ Some names = subst (λ (o : Option ℕ). item_at (known_names b).imports o ≡ Some names) e h in cc)
  by (Some k) e =
      let d = imports_domain (kept b) 0 b.domains k names (is_kept b load domain k named e) (subst (λ (o : Option ℕ). item_at (known_names b).imports o ≡ Some names) e h) in
      (d.0.lines, there k d.0 e d.1, d.2)

untrue : IsTrue false → ⊥
untrue h = absurd cc

lacks_true : (b : Bundle) (load import : List ℕ) → LacksImport b load import → IsTrue (lacks (imports_of_load (known_names b) load) import)
lacks_true b load import l =
    let named : item_at (known_names b).loaded (place_of load (load_names b)) ≡ Some l.domain = sym (domain_item b load) ∙ l.loaded in
    let table : imports_of_load (known_names b) load ≡ Some (declared_names (imports l.lines)) = ap (imports_of_domain (known_names b)) named ∙ lines_item b (place_of load (load_names b)) l.domain l.lines named l.text in
    subst (λ (o : Option (List (List ℕ))). IsTrue (lacks o import)) (sym table) (none_is_unknown (declared_names (imports l.lines)) import l.unknown)

true_lacks : (b : Bundle) (load import : List ℕ) → IsTrue (lacks (imports_of_load (known_names b) load) import) → LacksImport b load import
true_lacks b load import h = by (item_at (known_names b).loaded (place_of load (load_names b))) refl where
  table : (domain : List ℕ) (o : Option (List (List ℕ))) → item_at (known_names b).loaded (place_of load (load_names b)) ≡ Some domain → item_at (known_names b).imports (place_of domain (domain_names b)) ≡ o → LacksImport b load import
  table domain None e f = absurd (untrue (subst (λ (o : Option (List (List ℕ))). IsTrue (lacks o import)) (ap (imports_of_domain (known_names b)) e ∙ f) h))
  table domain (Some names) e f =
      let t = item_lines b (place_of load (load_names b)) domain names e f in
      let u = subst (λ (o : Option (List (List ℕ))). IsTrue (lacks o import)) (ap (imports_of_domain (known_names b)) e ∙ f) h in
      record {
        domain = domain;
        loaded = domain_item b load ∙ e;
        lines = t.0;
        text = t.1;
        unknown = ap (place_of import) (sym t.2) ∙ is_unknown_none names import u;
      }

  by : (o : Option (List ℕ)) → item_at (known_names b).loaded (place_of load (load_names b)) ≡ o → LacksImport b load import
  by None e = absurd (untrue (subst (λ (o : Option (List (List ℕ))). IsTrue (lacks o import)) (ap (imports_of_domain (known_names b)) e) h))
  by (Some domain) e = table domain (item_at (known_names b).imports (place_of domain (domain_names b))) e refl

binds_true : (b : Bundle) (f : PlanLine) → BindsUnknown b f → IsTrue (binds_unknown (known_names b) f)
binds_true b (plan.Bind load import target) h = lacks_true b load import h
binds_true b (plan.Load name domain) h = absurd h
binds_true b (plan.Shadow name load restarts) h = absurd h
binds_true b (plan.Device load blocks) h = absurd h
binds_true b (plan.Serial load) h = absurd h
binds_true b (plan.Fuel n) h = absurd h
binds_true b (plan.Order clients) h = absurd h

true_binds : (b : Bundle) (f : PlanLine) → IsTrue (binds_unknown (known_names b) f) → BindsUnknown b f
true_binds b (plan.Bind load import target) h = true_lacks b load import h
true_binds b (plan.Load name domain) h = absurd cc
true_binds b (plan.Shadow name load restarts) h = absurd cc
true_binds b (plan.Device load blocks) h = absurd cc
true_binds b (plan.Serial load) h = absurd cc
true_binds b (plan.Fuel n) h = absurd cc
true_binds b (plan.Order clients) h = absurd cc

-- the domain of a load whose domain has lines
lines_loaded : (b : Bundle) (load : List ℕ) (lines : Lines) → load_lines b load ≡ Some lines → (domain : List ℕ) × (domain_of_load b load ≡ Some domain) × (lines_of_domain b domain ≡ Some lines)
lines_loaded b load lines e = by (domain_of_load b load) refl e where
  by : (o : Option (List ℕ)) → domain_of_load b load ≡ o → option_and_then (lines_of_domain b) o ≡ Some lines → (domain : List ℕ) × (domain_of_load b load ≡ Some domain) × (lines_of_domain b domain ≡ Some lines)
  by None is e = absurd cc
  by (Some domain) is e = (domain, is, e)

import_meets : (b : Bundle) (n : ℕ) → UnknownImport b n → Meets given_after (λ g f. binds_unknown (known_names b) f) none_given b.plan.lines n
import_meets b n u = line_meets given_after (binds_unknown (known_names b)) (BindsUnknown b) (binds_true b) none_given b.plan.lines n (record {
  place = u.line.place;
  form = plan.Bind u.load u.import u.target;
  here = u.line.here;
  holds = (let d = lines_loaded b u.load u.lines u.text in record { domain = d.0; loaded = d.1; lines = u.lines; text = d.2; unknown = u.unknown });
})

meets_import : (b : Bundle) (n : ℕ) → Meets given_after (λ g f. binds_unknown (known_names b) f) none_given b.plan.lines n → UnknownImport b n
meets_import b n h = from (meets_line given_after (binds_unknown (known_names b)) (BindsUnknown b) (true_binds b) none_given b.plan.lines n h) where
  at : (place : ℕ) (f : PlanLine) → slice_get b.plan.lines place ≡ Some (record { line = n; form = f }) → BindsUnknown b f → UnknownImport b n
  at place (plan.Bind load import target) e l = record { load = load; import = import; target = target; line = record { place = place; here = e }; lines = l.lines; text = ap (option_and_then (lines_of_domain b)) l.loaded ∙ l.text; unknown = l.unknown }
  at place (plan.Load name domain) e l = absurd l
  at place (plan.Shadow name load restarts) e l = absurd l
  at place (plan.Device load blocks) e l = absurd l
  at place (plan.Serial load) e l = absurd l
  at place (plan.Fuel k) e l = absurd l
  at place (plan.Order clients) e l = absurd l

  from : LineWith b.plan.lines (BindsUnknown b) n → UnknownImport b n
  from l = at l.place l.form l.here l.holds

abbrev domains_unknown : Bundle → GivenNames → PlanLine → Bool
domains_unknown b g f = has_unknown (domain_names b) (domains_loaded f)

abbrev loads_unknown : Bundle → GivenNames → PlanLine → Bool
loads_unknown b g f = has_unknown (load_names b) (load_used f)

abbrev targets_unknown : Bundle → GivenNames → PlanLine → Bool
targets_unknown b g f = has_unknown (target_names b) (target_used f)

abbrev clients_unknown : Bundle → GivenNames → PlanLine → Bool
clients_unknown b g f = has_unknown (client_names b) (client_used f)

abbrev imports_unknown : Bundle → GivenNames → PlanLine → Bool
imports_unknown b g f = binds_unknown (known_names b) f

abbrev from_clients : Bundle → GivenNames → PlanLine → Bool
from_clients b g f = clients_unknown b g f || imports_unknown b g f

abbrev from_targets : Bundle → GivenNames → PlanLine → Bool
from_targets b g f = targets_unknown b g f || from_clients b g f

abbrev from_loads : Bundle → GivenNames → PlanLine → Bool
from_loads b g f = loads_unknown b g f || from_targets b g f

-- a line of the plan names what nothing declares
abbrev pub nothing_named : Bundle → GivenNames → PlanLine → Bool
nothing_named b g f = names_nothing (known_names b) f

plan_nothing : (b : Bundle) (n : ℕ) → PlanNamesNothing b n → Meets given_after (nothing_named b) none_given b.plan.lines n
plan_nothing b n (inl u) = or_meets_first given_after (domains_unknown b) (from_loads b) none_given b.plan.lines n (unknown_meets given_after none_given b.plan.lines domains_loaded (domain_names b) n u)
plan_nothing b n (inr (inl u)) = or_meets_second given_after (domains_unknown b) (from_loads b) none_given b.plan.lines n (or_meets_first given_after (loads_unknown b) (from_targets b) none_given b.plan.lines n (unknown_meets given_after none_given b.plan.lines load_used (load_names b) n u))
plan_nothing b n (inr (inr (inl u))) = or_meets_second given_after (domains_unknown b) (from_loads b) none_given b.plan.lines n (or_meets_second given_after (loads_unknown b) (from_targets b) none_given b.plan.lines n (or_meets_first given_after (targets_unknown b) (from_clients b) none_given b.plan.lines n (unknown_meets given_after none_given b.plan.lines target_used (target_names b) n u)))
plan_nothing b n (inr (inr (inr (inl u)))) = or_meets_second given_after (domains_unknown b) (from_loads b) none_given b.plan.lines n (or_meets_second given_after (loads_unknown b) (from_targets b) none_given b.plan.lines n (or_meets_second given_after (targets_unknown b) (from_clients b) none_given b.plan.lines n (or_meets_first given_after (clients_unknown b) (imports_unknown b) none_given b.plan.lines n (unknown_meets given_after none_given b.plan.lines client_used (client_names b) n u))))
plan_nothing b n (inr (inr (inr (inr u)))) = or_meets_second given_after (domains_unknown b) (from_loads b) none_given b.plan.lines n (or_meets_second given_after (loads_unknown b) (from_targets b) none_given b.plan.lines n (or_meets_second given_after (targets_unknown b) (from_clients b) none_given b.plan.lines n (or_meets_second given_after (clients_unknown b) (imports_unknown b) none_given b.plan.lines n (import_meets b n u))))

nothing_plan : (b : Bundle) (n : ℕ) → Meets given_after (nothing_named b) none_given b.plan.lines n → PlanNamesNothing b n
nothing_plan b n h = elim (meets_or given_after (domains_unknown b) (from_loads b) none_given b.plan.lines n h) [
  | inl u ↦ inl (meets_unknown given_after none_given b.plan.lines domains_loaded (domain_names b) n u)
  | inr r ↦ inr (elim (meets_or given_after (loads_unknown b) (from_targets b) none_given b.plan.lines n r) [
    | inl u ↦ inl (meets_unknown given_after none_given b.plan.lines load_used (load_names b) n u)
    | inr s ↦ inr (elim (meets_or given_after (targets_unknown b) (from_clients b) none_given b.plan.lines n s) [
      | inl u ↦ inl (meets_unknown given_after none_given b.plan.lines target_used (target_names b) n u)
      | inr t ↦ inr (elim (meets_or given_after (clients_unknown b) (imports_unknown b) none_given b.plan.lines n t) [
        | inl u ↦ inl (meets_unknown given_after none_given b.plan.lines client_used (client_names b) n u)
        | inr u ↦ inr (meets_import b n u)
      ])
    ])
  ])
]

-- the rules fail in the plan where they fail line by line
pub plan_left : (b : Bundle) → Rise (numbers_of b.plan.lines) → Left (FailsPlanNames b) given_after gives_again (nothing_named b) none_given b.plan.lines
plan_left b rises = record {
  to = λ n r f. elim f [ inl t ↦ inl (t.0, plan_again b n t.1) | inr u ↦ inr (u.0, plan_nothing b n u.1) ];
  of = λ n r f. elim f [ inl t ↦ inl (t.0, again_plan b n t.1) | inr u ↦ inr (u.0, nothing_plan b n u.1) ];
  rises = rises;
}
