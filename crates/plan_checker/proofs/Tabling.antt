-- What the look-ups of a plan give.
use Rattle.std.proofs.Common.{◌≡◌, ℕ, ◌+◌, ◌<◌, ◌^◌, List, [], ◌∷◌, ◌++◌, length, map, get_or, cond, Option, Some, None, refl, sym, ap, subst, ◌∙◌, arith}
use Rattle.std.specs.Prelude.{slice_get, is_some, IfSome}
use Rattle.std.specs.List.{flat_map}
use Rattle.rl_defs.specs.declared.bundle.Bundle.{Bundle}
use Rattle.rl_defs.specs.declared.bundle.Numbered.{Numbered}
use Rattle.rl_defs.specs.declared.code.DomainLine.{DomainLine}
use Rattle.rl_defs.specs.declared.code.DomainLine.TheVariants as line
use Rattle.rl_defs.specs.DomainValue.{Domain}
use Rattle.rl_defs.specs.Domains.{Lines}
use Rattle.rl_defs.specs.DomainParts.{begins_domain, rest_of_domain}
use Rattle.rl_defs.specs.DomainParts.{IsOneDomain}
use Rattle.rl_defs.specs.Interfaces.{place_of}
use Rattle.rl_defs.specs.BundleNames.{Given, given, given_by, names_of, domain_given, load_names, domains_loaded, serial_given, shadow_names, shadowed}
use Rattle.rl_defs.specs.LoadOf.{target_number, is_serial_in, bound_to}
use Rattle.plan_checker.specs.Facts.{AreNames}
use Rattle.plan_checker.specs.Lookups.{bound_at, load_of_shadow}
use Rattle.plan_checker.specs.Tables.{ArePairs}
use Rattle.plan_checker.proofs.Steps.{gives}
use Rattle.plan_checker.proofs.Placing.{is_there, place_within}
use Rattle.plan_checker.proofs.Looking.{shadow_some, shadow_none, number_of_shadow, number_of_none, number_none}

-- loads and shadows of a plan, kept as pairs
abbrev pub Loads : Bundle → List (List ℕ) → List (List ℕ) → Type 0
Loads b names others = ArePairs names others (load_names b) (names_of (given_by domains_loaded b.plan.lines))

abbrev pub Shadows : Bundle → List (List ℕ) → List (List ℕ) → Type 0
Shadows b names others = ArePairs names others (shadow_names b) (names_of (given_by shadowed b.plan.lines))

pub shadow_found : (v b : Bundle) (names others : List (List ℕ)) (target : List ℕ) (k : ℕ) → v ≡ b → Shadows v names others → place_of target names ≡ Some k → slice_get others k ≡ load_of_shadow b target
shadow_found v b names others target k same h at = subst (λ (x : Bundle). slice_get others k ≡ load_of_shadow x target) same (ap (λ xs. slice_get xs k) h.others_are ∙ shadow_some v target k (ap (place_of target) (sym h.names_are) ∙ at))

pub shadow_missing : (v b : Bundle) (names others : List (List ℕ)) (target : List ℕ) → v ≡ b → Shadows v names others → place_of target names ≡ None → None ≡ load_of_shadow b target
shadow_missing v b names others target same h at = subst (λ (x : Bundle). None ≡ load_of_shadow x target) same (sym (shadow_none v target (ap (place_of target) (sym h.names_are) ∙ at)))

pub serial_found : (v b : Bundle) (names : List (List ℕ)) (load : List ℕ) → v ≡ b → names ≡ names_of (given_by serial_given v.plan.lines) → is_some (place_of load names) ≡ is_serial_in b load
serial_found v b names load same is = subst (λ (x : Bundle). is_some (place_of load names) ≡ is_serial_in x load) same (ap (λ xs. is_some (place_of load xs)) is ∙ is_there load (names_of (given_by serial_given v.plan.lines)))

few_some : (o : Option ℕ) → ((k : ℕ) → o ≡ Some k → k < 2 ^ 31) → IfSome o (λ k. k < 2 ^ 31)
few_some None h = tt
few_some (Some k) h = h k refl

pub few_places : {all_names all_others : List (List ℕ)} (names others : List (List ℕ)) (load : List ℕ) (o : Option ℕ) → ArePairs names others all_names all_others → o ≡ place_of load names → IfSome o (λ k. k < 2 ^ 31)
few_places names others load o h is = few_some o (λ k e. omega (arith, h.few, place_within load names k (sym is ∙ e)))

pub target_of_shadow : (v b : Bundle) (loads domains shadows others : List (List ℕ)) (target : List ℕ) (k n : ℕ) → v ≡ b → Loads v loads domains → Shadows v shadows others → n ≡ length loads → place_of target (load_names b) ≡ None → place_of target shadows ≡ Some k → n + k + 1 ≡ target_number b target
target_of_shadow v b loads domains shadows others target k n same l s count none at =
    subst (λ (x : Bundle). place_of target (load_names x) ≡ None → n + k + 1 ≡ target_number x target) same
    (λ e. ap (λ (m : ℕ). m + k + 1) (count ∙ ap length l.names_are) ∙ number_of_shadow target (load_names v) (shadow_names v) k e (ap (place_of target) (sym s.names_are) ∙ at))
    none

pub target_of_none : (v b : Bundle) (shadows others : List (List ℕ)) (target : List ℕ) → v ≡ b → Shadows v shadows others → place_of target (load_names b) ≡ None → place_of target shadows ≡ None → 0 ≡ target_number b target
target_of_none v b shadows others target same s none at =
    subst (λ (x : Bundle). place_of target (load_names x) ≡ None → 0 ≡ target_number x target) same
    (λ e. number_of_none target (load_names v) (shadow_names v) e (ap (place_of target) (sym s.names_are) ∙ at))
    none

pub number_unbound : (v b : Bundle) (loads domains shadows others : List (List ℕ)) (load import : List ℕ) → v ≡ b → Loads v loads domains → Shadows v shadows others → bound_at b.plan.lines load import ≡ None → 0 ≡ target_number b (bound_to b load import)
number_unbound v b loads domains shadows others load import same l s none =
    subst (λ (x : Bundle). bound_at x.plan.lines load import ≡ None → 0 ≡ target_number x (bound_to x load import)) same
    (λ e. number_none v load import e (subst AreNames l.names_are l.named) (subst AreNames s.names_are s.named))
    none

-- only the first line of a domain begins one
rest_none : (ls : Lines) → rest_of_domain ls ≡ ls → given_by domain_given ls ≡ []
rest_none [] e = refl
rest_none (l ∷ ls) e = by_form l.form (λ h. rest_none ls h) e where
  tail : {x y : Numbered DomainLine} {xs ys : Lines} → x ∷ xs ≡ y ∷ ys → xs ≡ ys
  tail e = cc

  by_form : (form : DomainLine) → (rest_of_domain ls ≡ ls → given_by domain_given ls ≡ []) → cond (begins_domain form) [] (l ∷ rest_of_domain ls) ≡ l ∷ ls → map (given l.line) (domain_given form) ++ given_by domain_given ls ≡ []
  by_form (line.Domain name has) more e = absurd cc
  by_form (line.Words n) more e = more (tail e)
  by_form (line.Slot name ty) more e = more (tail e)
  by_form (line.Import name has) more e = more (tail e)
  by_form (line.Native body) more e = more (tail e)
  by_form (line.Function name) more e = more (tail e)
  by_form (line.Head label items) more e = more (tail e)
  by_form (line.Code i) more e = more (tail e)
  by_form line.Close more e = more (tail e)

pub domain_name : (lines : Lines) (l : Numbered DomainLine) (name has : List ℕ) → IsOneDomain lines → l ≡ get_or lines 0 l → l.form ≡ line.Domain name has → names_of (given_by domain_given lines) ≡ name ∷ []
domain_name [] l name has one at form = absurd one
domain_name (x ∷ xs) l name has one at form =
    ap (λ (y : Numbered DomainLine). names_of (map (given y.line) (domain_given y.form) ++ given_by domain_given xs)) (sym at)
    ∙ ap (λ (f : DomainLine). names_of (map (given l.line) (domain_given f) ++ given_by domain_given xs)) form
    ∙ ap (λ (gs : List Given). name ∷ names_of gs) (rest_none xs one.1)

-- the names that domains give, one domain after the other
pub gives_append : (xs ys : Lines) → gives domain_given (xs ++ ys) ≡ gives domain_given xs ++ gives domain_given ys
gives_append [] ys = refl
gives_append (x ∷ xs) ys = over (gives_append xs ys) (domain_given x.form) where
  over : gives domain_given (xs ++ ys) ≡ gives domain_given xs ++ gives domain_given ys → (ns : List (List ℕ)) → names_of (map (given x.line) ns ++ given_by domain_given (xs ++ ys)) ≡ names_of (map (given x.line) ns ++ given_by domain_given xs) ++ gives domain_given ys
  over e [] = e
  over e (n ∷ ns) = ap (λ zs. n ∷ zs) (over e ns)

abbrev pub names_in : List Domain → List (List ℕ)
names_in domains = names_of (given_by domain_given (flat_map (λ (x : Domain). x.lines) domains))

abbrev pub lines_in : List Domain → List Lines
lines_in domains = map (λ (x : Domain). x.lines) domains
