-- The domains that a plan loads, found among all domains.
use Rattle.std.proofs.Common.{◌≡◌, ℕ, zero, suc, ◌+◌, ◌≤◌, Bool, true, false, cond, nat_eq, List, [], ◌∷◌, ◌++◌, length, map, drop, Option, Some, None, refl, sym, ap, subst, ◌∙◌, arith, length-append, append_assoc}
use Rattle.std.specs.Prelude.{slice_get, is_some}
use Rattle.std.specs.List.{flat_map}
use Rattle.std.specs.Option.{option_map}
use Rattle.std.specs.Cmp.Lexicographic.{pointwise}
use Rattle.std.proofs.lemmas.List.{append-nil, drop_all}
use Rattle.rl_defs.specs.declared.bundle.Bundle.{Bundle}
use Rattle.rl_defs.specs.declared.bundle.Numbered.{Numbered}
use Rattle.rl_defs.specs.declared.bundle.PlanLine.{PlanLine}
use Rattle.rl_defs.specs.declared.bundle.PlanLine.TheVariants as plan
use Rattle.rl_defs.specs.declared.code.DomainText.{DomainText}
use Rattle.rl_defs.specs.DomainValue.{Domain}
use Rattle.rl_defs.specs.Domains.{Lines}
use Rattle.rl_defs.specs.Interfaces.{place_of}
use Rattle.rl_defs.specs.BundleNames.{given_by, names_of, domain_given, domain_names, domains_loaded, lines_of_domain, domain_of_load}
use Rattle.rl_defs.specs.BundleOrder.{text_of}
use Rattle.rl_defs.proofs.Places.{drop_at}
use Rattle.name_tables.proofs.Placing.{same_name}
use Rattle.plan_checker.specs.Lookups.{PlanLines, plan_bundle}
use Rattle.plan_checker.specs.Loaded.{IsLoaded, LoadsLoaded, at_place, beside, AreLoaded, wanted, IsPut}
use Rattle.plan_checker.proofs.Steps.{gives}
use Rattle.plan_checker.proofs.Placing.{behind, place_some}
use Rattle.plan_checker.proofs.Looking.{lines_at, name_at}
use Rattle.plan_checker.proofs.Tabling.{names_in, lines_in, gives_append}

-- ---- what stands beside a name, where others are left out

pub later : {A : Type 0} (x : A) (xs : List A) (o : Option ℕ) → at_place (x ∷ xs) (option_map (λ (i : ℕ). suc i) o) ≡ at_place xs o
later x xs None = refl
later x xs (Some k) = refl

-- another name left out
without : {A : Type 0} (ns : List (List ℕ)) (xs : List A) (n : List ℕ) (x : A) (more : List (List ℕ)) (others : List A) (q : List ℕ) → length ns ≡ length xs → pointwise nat_eq n q ≡ false → beside (ns ++ n ∷ more) (xs ++ x ∷ others) q ≡ beside (ns ++ more) (xs ++ others) q
without [] [] n x more others q count other = ap (λ (b : Bool). at_place (x ∷ others) (cond b (Some 0) (option_map (λ (i : ℕ). suc i) (place_of q more)))) other ∙ later x others (place_of q more)
without [] (y ∷ ys) n x more others q count other = absurd (omega (arith, count))
without (m ∷ ms) [] n x more others q count other = absurd (omega (arith, count))
without {A} (m ∷ ms) (y ∷ ys) n x more others q count other = here (pointwise nat_eq m q) (place_of q (ms ++ n ∷ more)) (place_of q (ms ++ more)) (without ms ys n x more others q (omega (arith, count)) other) where
  here : (b : Bool) (o p : Option ℕ) → at_place (ys ++ x ∷ others) o ≡ at_place (ys ++ others) p → at_place (y ∷ (ys ++ x ∷ others)) (cond b (Some 0) (option_map (λ (i : ℕ). suc i) o)) ≡ at_place (y ∷ (ys ++ others)) (cond b (Some 0) (option_map (λ (i : ℕ). suc i) p))
  here true o p h = refl
  here false o p h = later y (ys ++ x ∷ others) o ∙ h ∙ sym (later y (ys ++ others) p)

-- a name that is loaded is another one than one that isn't
is_other : (loaded : List (List ℕ)) (n q : List ℕ) → is_some (place_of q loaded) ≡ true → is_some (place_of n loaded) ≡ false → (b : Bool) → pointwise nat_eq n q ≡ b → b ≡ false
is_other loaded n q there missing false e = refl
is_other loaded n q there missing true e =
    let h : is_some (place_of n loaded) ≡ true = subst (λ (x : List ℕ). is_some (place_of x loaded) ≡ true) (sym (same_name n q e)) there in
    let no : true ≡ false = sym h ∙ missing in
    absurd cc

-- beside each loaded name the same stands in two tables
pub record SameBeside {A : Type 0} (loaded names : List (List ℕ)) (xs : List A) (all_names : List (List ℕ)) (all_xs : List A) : Type 0 where
  pub each : (q : List ℕ) → is_some (place_of q loaded) ≡ true → beside names xs q ≡ beside all_names all_xs q

pub beside_next : {A : Type 0} (loaded ns new more all : List (List ℕ)) (xs newer others every : List A) (n : List ℕ) (x : A) → length ns ≡ length xs → SameBeside loaded (ns ++ n ∷ more) (xs ++ x ∷ others) all every → (b : Bool) → is_some (place_of n loaded) ≡ b → new ≡ ns ++ wanted b n → newer ≡ xs ++ wanted b x → SameBeside loaded (new ++ more) (newer ++ others) all every
beside_next {A} loaded ns new more all xs newer others every n x count h true e names things = record {
  each = λ q there. ap (λ (ms : List (List ℕ)). beside ms (newer ++ others) q) (ap (λ (ms : List (List ℕ)). ms ++ more) names ∙ append_assoc ns (n ∷ []) more) ∙ ap (λ (ys : List A). beside (ns ++ n ∷ more) ys q) (ap (λ (ys : List A). ys ++ others) things ∙ append_assoc xs (x ∷ []) others) ∙ h.each q there;
}
beside_next {A} loaded ns new more all xs newer others every n x count h false e names things = record {
  each = λ q there. ap (λ (ms : List (List ℕ)). beside ms (newer ++ others) q) (ap (λ (ms : List (List ℕ)). ms ++ more) (names ∙ append-nil ns)) ∙ ap (λ (ys : List A). beside (ns ++ more) ys q) (ap (λ (ys : List A). ys ++ others) (things ∙ append-nil xs)) ∙ sym (without ns xs n x more others q count (is_other loaded n q there e (pointwise nat_eq n q) refl)) ∙ h.each q there;
}

one_each : {A B : Type 0} (b : Bool) (x : A) (y : B) (xs : List A) (ys : List B) → length xs ≡ length ys → length (xs ++ wanted b x) ≡ length (ys ++ wanted b y)
one_each true x y xs ys e = omega (arith, e, length-append xs (x ∷ []), length-append ys (y ∷ []))
one_each false x y xs ys e = omega (arith, e, ap length (append-nil xs), ap length (append-nil ys))

one_most : (b : Bool) (x : List ℕ) (xs : List (List ℕ)) (at : ℕ) → length xs ≤ at → length (xs ++ wanted b x) ≤ at + 1
one_most true x xs at e = omega (arith, e, length-append xs (x ∷ []))
one_most false x xs at e = omega (arith, e, ap length (append-nil xs))

-- ---- numbers beside names

pub numbers_from : ℕ → List (List ℕ) → List ℕ
numbers_from at [] = []
numbers_from at (n ∷ ns) = at ∷ numbers_from (at + 1) ns

numbered : (at : ℕ) (ns : List (List ℕ)) (q : List ℕ) → beside ns (numbers_from at ns) q ≡ behind at (place_of q ns)
unfolding numbers_from
numbered at [] q = refl
numbered at (n ∷ ns) q = here (pointwise nat_eq n q) (place_of q ns) (numbered (at + 1) ns q) where
  next : (o : Option ℕ) → behind (at + 1) o ≡ behind at (option_map (λ (i : ℕ). suc i) o)
  next None = refl
  next (Some k) = ap (λ (i : ℕ). Some i) (omega arith)

  here : (b : Bool) (o : Option ℕ) → at_place (numbers_from (at + 1) ns) o ≡ behind (at + 1) o → at_place (at ∷ numbers_from (at + 1) ns) (cond b (Some 0) (option_map (λ (i : ℕ). suc i) o)) ≡ behind at (cond b (Some 0) (option_map (λ (i : ℕ). suc i) o))
  here true o h = ap (λ (i : ℕ). Some i) (omega arith)
  here false o h = later at (numbers_from (at + 1) ns) o ∙ h ∙ next o

from_first : (o : Option ℕ) → behind 0 o ≡ o
from_first None = refl
from_first (Some k) = ap (λ (i : ℕ). Some i) (omega arith)

next_numbers : (at : ℕ) (n : List ℕ) (ns : List (List ℕ)) → numbers_from at (n ∷ ns) ≡ at ∷ numbers_from (at + 1) ns
unfolding numbers_from
next_numbers at n ns = refl

no_numbers : (at : ℕ) (ms : List ℕ) → ms ++ numbers_from at [] ≡ ms
unfolding numbers_from
no_numbers at ms = append-nil ms

-- ---- the look-ups of a bundle's domains

texts_names : (domains : List Domain) → flat_map (λ (t : DomainText). t.lines) (map text_of domains) ≡ flat_map (λ (x : Domain). x.lines) domains
texts_names [] = refl
texts_names (d ∷ ds) = ap (λ (ls : Lines). d.lines ++ ls) (texts_names ds)

names_are : (domains : List Domain) (lines : PlanLines) → domain_names (plan_bundle domains lines) ≡ names_in domains
names_are domains lines = ap (gives domain_given) (texts_names domains)

lines_there : (domains : List Domain) (k : ℕ) → option_map (λ (d : DomainText). d.lines) (slice_get (map text_of domains) k) ≡ slice_get (lines_in domains) k
lines_there [] zero = refl
lines_there [] (suc k) = refl
lines_there (d ∷ ds) zero = refl
lines_there (d ∷ ds) (suc k) = lines_there ds k

lines_found : (domains : List Domain) (o : Option ℕ) → lines_at (map text_of domains) o ≡ at_place (lines_in domains) o
lines_found domains None = refl
lines_found domains (Some k) = lines_there domains k

lines_beside : (domains : List Domain) (lines : PlanLines) (q : List ℕ) → lines_of_domain (plan_bundle domains lines) q ≡ beside (names_in domains) (lines_in domains) q
lines_beside domains lines q = ap (λ (ns : List (List ℕ)). lines_at (map text_of domains) (place_of q ns)) (names_are domains lines) ∙ lines_found domains (place_of q (names_in domains))

-- ---- all domains, one after the other

-- What is kept of the domains before a place, with those from there on, is beside each loaded name what all domains have there.
pub record DomainsTo (loaded : List (List ℕ)) (domains : List Domain) (at : ℕ) (names : List (List ℕ)) (numbers : List ℕ) (facts : List Lines) : Type 0 where
  pub numbers_are : SameBeside loaded (names ++ names_in (drop at domains)) (numbers ++ numbers_from at (names_in (drop at domains))) (names_in domains) (numbers_from 0 (names_in domains))
  pub facts_are : SameBeside loaded (names ++ names_in (drop at domains)) (facts ++ lines_in (drop at domains)) (names_in domains) (lines_in domains)
  pub as_numbers : length names ≡ length numbers
  pub as_facts : length names ≡ length facts
  pub few : length names ≤ at

pub domains_begin : (loaded : List (List ℕ)) (domains : List Domain) (names : List (List ℕ)) (numbers : List ℕ) (facts : List Lines) → names ≡ [] → numbers ≡ [] → facts ≡ [] → DomainsTo loaded domains 0 names numbers facts
domains_begin loaded domains names numbers facts n m f = record {
  numbers_are = record { each = λ q there. ap (λ (ns : List (List ℕ)). beside (ns ++ names_in domains) (numbers ++ numbers_from 0 (names_in domains)) q) n ∙ ap (λ (ms : List ℕ). beside (names_in domains) (ms ++ numbers_from 0 (names_in domains)) q) m };
  facts_are = record { each = λ q there. ap (λ (ns : List (List ℕ)). beside (ns ++ names_in domains) (facts ++ lines_in domains) q) n ∙ ap (λ (fs : List Lines). beside (names_in domains) (fs ++ lines_in domains) q) f };
  as_numbers = ap length n ∙ sym (ap length m);
  as_facts = ap length n ∙ sym (ap length f);
  few = omega (arith, ap length n);
}

names_next : (domains : List Domain) (at : ℕ) (d : Domain) (name : List ℕ) → slice_get domains at ≡ Some d → names_of (given_by domain_given d.lines) ≡ name ∷ [] → names_in (drop at domains) ≡ name ∷ names_in (drop (at + 1) domains)
names_next domains at d name here named =
    let rest = drop (at + 1) domains in
    ap names_in (drop_at domains at d here) ∙ gives_append d.lines (flat_map (λ (x : Domain). x.lines) rest) ∙ ap (λ (ns : List (List ℕ)). ns ++ names_in rest) named

pub domains_next : (loaded : List (List ℕ)) (domains : List Domain) (at : ℕ) (d : Domain) (n1 n2 : List (List ℕ)) (m1 m2 : List ℕ) (f1 f2 : List Lines) → DomainsTo loaded domains at n1 m1 f1 → slice_get domains at ≡ Some d → IsPut loaded d.lines at n1 n2 m1 m2 f1 f2 → DomainsTo loaded domains (at + 1) n2 m2 f2
domains_next loaded domains at d n1 n2 m1 m2 f1 f2 h here put =
    let rest = drop (at + 1) domains in
    let names : names_in (drop at domains) ≡ put.name ∷ names_in rest = names_next domains at d put.name here put.named in
    let numbers : numbers_from at (names_in (drop at domains)) ≡ at ∷ numbers_from (at + 1) (names_in rest) = ap (numbers_from at) names ∙ next_numbers at put.name (names_in rest) in
    let lines : lines_in (drop at domains) ≡ d.lines ∷ lines_in rest = ap lines_in (drop_at domains at d here) in
    let by_number = subst (λ (ms : List ℕ). SameBeside {A = ℕ} loaded (n1 ++ put.name ∷ names_in rest) (m1 ++ ms) (names_in domains) (numbers_from 0 (names_in domains))) numbers (subst (λ (ns : List (List ℕ)). SameBeside {A = ℕ} loaded (n1 ++ ns) (m1 ++ numbers_from at (names_in (drop at domains))) (names_in domains) (numbers_from 0 (names_in domains))) names h.numbers_are) in
    let by_lines = subst (λ (fs : List Lines). SameBeside {A = Lines} loaded (n1 ++ put.name ∷ names_in rest) (f1 ++ fs) (names_in domains) (lines_in domains)) lines (subst (λ (ns : List (List ℕ)). SameBeside {A = Lines} loaded (n1 ++ ns) (f1 ++ lines_in (drop at domains)) (names_in domains) (lines_in domains)) names h.facts_are) in
    let is = is_some (place_of put.name loaded) in
    record {
      numbers_are = beside_next {A = ℕ} loaded n1 n2 (names_in rest) (names_in domains) m1 m2 (numbers_from (at + 1) (names_in rest)) (numbers_from 0 (names_in domains)) put.name at h.as_numbers by_number is refl put.names_are put.numbers_are;
      facts_are = beside_next {A = Lines} loaded n1 n2 (names_in rest) (names_in domains) f1 f2 (lines_in rest) (lines_in domains) put.name d.lines h.as_facts by_lines is refl put.names_are put.facts_are;
      as_numbers = ap length put.names_are ∙ one_each is put.name at n1 m1 h.as_numbers ∙ sym (ap length put.numbers_are);
      as_facts = ap length put.names_are ∙ one_each is put.name d.lines n1 f1 h.as_facts ∙ sym (ap length put.facts_are);
      few = omega (arith, ap length put.names_are, one_most is put.name n1 at h.few);
    }

pub domains_all : (loaded : List (List ℕ)) (domains : List Domain) (lines : PlanLines) (at : ℕ) (names : List (List ℕ)) (numbers : List ℕ) (facts : List Lines) → loaded ≡ gives domains_loaded lines → DomainsTo loaded domains at names numbers facts → length domains ≤ at → AreLoaded (plan_bundle domains lines) names numbers facts
domains_all loaded domains lines at names numbers facts are h all =
    let none : drop at domains ≡ [] = drop_all at domains all in
    let names_end : names ++ names_in (drop at domains) ≡ names = ap (λ (ds : List Domain). names ++ names_in ds) none ∙ append-nil names in
    let numbers_end : numbers ++ numbers_from at (names_in (drop at domains)) ≡ numbers = ap (λ (ds : List Domain). numbers ++ numbers_from at (names_in ds)) none ∙ no_numbers at numbers in
    let facts_end : facts ++ lines_in (drop at domains) ≡ facts = ap (λ (ds : List Domain). facts ++ lines_in ds) none ∙ append-nil facts in
    record {
      numbers_are = λ q is. sym (ap (λ (ns : List (List ℕ)). beside ns (numbers ++ numbers_from at (names_in (drop at domains))) q) names_end ∙ ap (λ (ms : List ℕ). beside names ms q) numbers_end) ∙ h.numbers_are.each q (ap (λ (ns : List (List ℕ)). is_some (place_of q ns)) are ∙ is) ∙ numbered 0 (names_in domains) q ∙ from_first (place_of q (names_in domains)) ∙ ap (place_of q) (sym (names_are domains lines));
      facts_are = λ q is. sym (ap (λ (ns : List (List ℕ)). beside ns (facts ++ lines_in (drop at domains)) q) names_end ∙ ap (λ (fs : List Lines). beside names fs q) facts_end) ∙ h.facts_are.each q (ap (λ (ns : List (List ℕ)). is_some (place_of q ns)) are ∙ is) ∙ sym (lines_beside domains lines q);
    }

-- ---- one domain put

pub is_skipped : (loaded : List (List ℕ)) (lines : Lines) (number : ℕ) (names : List (List ℕ)) (numbers : List ℕ) (facts : List Lines) (name : List ℕ) → names_of (given_by domain_given lines) ≡ name ∷ [] → is_some (place_of name loaded) ≡ false → IsPut loaded lines number names names numbers numbers facts facts
is_skipped loaded lines number names numbers facts name named none = record {
  name = name;
  named = named;
  names_are = sym (append-nil names) ∙ ap (λ (b : Bool). names ++ wanted b name) (sym none);
  numbers_are = sym (append-nil numbers) ∙ ap (λ (b : Bool). numbers ++ wanted b number) (sym none);
  facts_are = sym (append-nil facts) ∙ ap (λ (b : Bool). facts ++ wanted b lines) (sym none);
}

pub is_kept : (loaded : List (List ℕ)) (lines fact : Lines) (number : ℕ) (n1 n2 : List (List ℕ)) (m1 m2 : List ℕ) (f1 f2 : List Lines) (name : List ℕ) → names_of (given_by domain_given lines) ≡ name ∷ [] → is_some (place_of name loaded) ≡ true → n2 ≡ n1 ++ name ∷ [] → m2 ≡ m1 ++ number ∷ [] → f2 ≡ f1 ++ fact ∷ [] → fact ≡ lines → IsPut loaded lines number n1 n2 m1 m2 f1 f2
is_kept loaded lines fact number n1 n2 m1 m2 f1 f2 name named there n m f same = record {
  name = name;
  named = named;
  names_are = n ∙ ap (λ (b : Bool). n1 ++ wanted b name) (sym there);
  numbers_are = m ∙ ap (λ (b : Bool). m1 ++ wanted b number) (sym there);
  facts_are = f ∙ ap (λ (ls : Lines). f1 ++ ls ∷ []) same ∙ ap (λ (b : Bool). f1 ++ wanted b lines) (sym there);
}

-- ---- what a name finds

pub number_found : (v b : Bundle) (names : List (List ℕ)) (numbers : List ℕ) (facts : List Lines) (q : List ℕ) (k : ℕ) → v ≡ b → AreLoaded v names numbers facts → IsLoaded b q → place_of q names ≡ Some k → slice_get numbers k ≡ place_of q (domain_names b)
number_found v b names numbers facts q k same h is at = sym (ap (at_place numbers) at) ∙ (subst (λ (x : Bundle). AreLoaded x names numbers facts) same h).numbers_are q is

pub number_missing : (v b : Bundle) (names : List (List ℕ)) (numbers : List ℕ) (facts : List Lines) (q : List ℕ) → v ≡ b → AreLoaded v names numbers facts → IsLoaded b q → place_of q names ≡ None → None ≡ place_of q (domain_names b)
number_missing v b names numbers facts q same h is at = sym (ap (at_place numbers) at) ∙ (subst (λ (x : Bundle). AreLoaded x names numbers facts) same h).numbers_are q is

pub facts_found : (v b : Bundle) (names : List (List ℕ)) (numbers : List ℕ) (facts : List Lines) (q : List ℕ) (k : ℕ) → v ≡ b → AreLoaded v names numbers facts → IsLoaded b q → place_of q names ≡ Some k → slice_get facts k ≡ lines_of_domain b q
facts_found v b names numbers facts q k same h is at = sym (ap (at_place facts) at) ∙ (subst (λ (x : Bundle). AreLoaded x names numbers facts) same h).facts_are q is

pub facts_missing : (v b : Bundle) (names : List (List ℕ)) (numbers : List ℕ) (facts : List Lines) (q : List ℕ) → v ≡ b → AreLoaded v names numbers facts → IsLoaded b q → place_of q names ≡ None → None ≡ lines_of_domain b q
facts_missing v b names numbers facts q same h is at = sym (ap (at_place facts) at) ∙ (subst (λ (x : Bundle). AreLoaded x names numbers facts) same h).facts_are q is

-- ---- what is loaded

name_picked : (names : List (List ℕ)) (o : Option ℕ) (d : List ℕ) → name_at names o ≡ Some d → is_some (place_of d names) ≡ true
name_picked names None d e = absurd cc
name_picked names (Some k) d e = place_some d names k e

-- the domain of a load is loaded
pub load_loaded : (b : Bundle) (load d : List ℕ) → domain_of_load b load ≡ Some d → IsLoaded b d
load_loaded b load d e = name_picked (gives domains_loaded b.plan.lines) (place_of load (Rattle.rl_defs.specs.BundleNames.load_names b)) d e

still_there : (q n : List ℕ) (ns : List (List ℕ)) → is_some (place_of q ns) ≡ true → is_some (place_of q (n ∷ ns)) ≡ true
still_there q n ns h = here (pointwise nat_eq n q) (place_of q ns) h where
  here : (b : Bool) (o : Option ℕ) → is_some o ≡ true → is_some (cond b (Some 0) (option_map (λ (i : ℕ). suc i) o)) ≡ true
  here true o h = refl
  here false None h = absurd cc
  here false (Some j) h = refl

line_behind : (n : ℕ) (form : PlanLine) (ls : PlanLines) (q : List ℕ) → is_some (place_of q (gives domains_loaded ls)) ≡ true → is_some (place_of q (gives domains_loaded (record { line = n; form = form } ∷ ls))) ≡ true
line_behind n (plan.Load name domain) ls q h = still_there q domain (gives domains_loaded ls) h
line_behind n (plan.Bind load import target) ls q h = h
line_behind n (plan.Shadow name load restarts) ls q h = h
line_behind n (plan.Device load blocks) ls q h = h
line_behind n (plan.Serial load) ls q h = h
line_behind n (plan.Fuel fuel) ls q h = h
line_behind n (plan.Order clients) ls q h = h

-- the domain that a line of the plan loads is loaded
pub line_loaded : (ls : PlanLines) (k n : ℕ) (name d : List ℕ) → slice_get ls k ≡ Some (record { line = n; form = plan.Load name d }) → is_some (place_of d (gives domains_loaded ls)) ≡ true
line_loaded [] k n name d e = absurd cc
line_loaded (l ∷ ls) zero n name d e =
    let same : l ≡ record { line = n; form = plan.Load name d } = cc in
    subst (λ (x : Numbered PlanLine). is_some (place_of d (gives domains_loaded (x ∷ ls))) ≡ true) (sym same) (place_some d (d ∷ gives domains_loaded ls) 0 refl)
line_loaded (l ∷ ls) (suc k) n name d e = line_behind l.line l.form ls d (line_loaded ls k n name d e)

form_loaded : (b : Bundle) (k n : ℕ) (form : PlanLine) → slice_get b.plan.lines k ≡ Some (record { line = n; form = form }) → LoadsLoaded b form
form_loaded b k n (plan.Load name domain) e = line_loaded b.plan.lines k n name domain e
form_loaded b k n (plan.Bind load import target) e = tt
form_loaded b k n (plan.Shadow name load restarts) e = tt
form_loaded b k n (plan.Device load blocks) e = tt
form_loaded b k n (plan.Serial load) e = tt
form_loaded b k n (plan.Fuel fuel) e = tt
form_loaded b k n (plan.Order clients) e = tt

pub loads_loaded : (b : Bundle) (k : ℕ) (l : Numbered PlanLine) → slice_get b.plan.lines k ≡ Some l → LoadsLoaded b l.form
loads_loaded b k l e = form_loaded b k l.line l.form e

pub loaded_by : (b : Bundle) (form : PlanLine) (name d : List ℕ) → LoadsLoaded b form → form ≡ plan.Load name d → IsLoaded b d
loaded_by b form name d h e = subst (LoadsLoaded b) e h
