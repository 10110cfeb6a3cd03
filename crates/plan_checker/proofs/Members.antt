-- Things in lists, and the lines that give them.
use Rattle.rl_defs.proofs.Places.{get_front}
use Rattle.rl_defs.specs.BundleNames.{given_by, Given, given, names_of, load_given, slot_given, client_given, shadowed, device_given}
use Rattle.std.proofs.Common.{append_assoc, ◌++◌, ◌∙◌, ◌≡◌, ℕ, zero, suc, ◌<◌, ◌⊎◌, inl, inr, Bool, true, false, ◌||◌, nat_lt, List, [], ◌∷◌, map, take, length, Option, Some, None, refl, ap, subst, arith, lt-ltb, ltb-true, drop, sym}
use Rattle.std.specs.Prelude.{slice_get, is_none, is_some, IsTrue}
use Rattle.std.specs.List.{list_any}
use Rattle.rl_defs.specs.declared.bundle.Numbered.{Numbered}
use Rattle.rl_defs.specs.declared.bundle.PlanLine.{PlanLine}
use Rattle.rl_defs.specs.declared.bundle.PlanLine.TheVariants as plan
use Rattle.rl_defs.specs.declared.bundle.ClientLine.{ClientLine}
use Rattle.rl_defs.specs.declared.bundle.ClientLine.TheVariants as client
use Rattle.rl_defs.specs.declared.code.DomainLine.{DomainLine}
use Rattle.rl_defs.specs.declared.code.DomainLine.TheVariants as line
use Rattle.rl_defs.specs.Words.{is_name}
use Rattle.rl_defs.specs.DomainValue.{Domain}
use Rattle.rl_defs.specs.declared.code.DomainText.{DomainText}
use Rattle.rl_defs.specs.BundleOrder.{text_of}
use Rattle.rl_defs.specs.PlanRules.{IsOutside}
use Rattle.plan_checker.specs.Facts.{AreNames}
use Rattle.plan_checker.specs.LineScan.{given_before}
use Rattle.plan_checker.specs.PlanTests.{is_outside}
use Rattle.plan_checker.proofs.Scanning.{given_here}

pub any_there : {X : Type 0} (test : X → Bool) (xs : List X) (k : ℕ) (x : X) → slice_get xs k ≡ Some x → test x ≡ true → list_any test xs ≡ true
any_there test [] k x e t = absurd cc
any_there {X} test (y ∷ ys) zero x e t = let same : x ≡ y = cc in ap (λ b. b || list_any test ys) (subst (λ (z : X). test z ≡ true) same t)
any_there test (y ∷ ys) (suc k) x e t = or_true (test y) (list_any test ys) (any_there test ys k x e t) where
  or_true : (a b : Bool) → b ≡ true → (a || b) ≡ true
  or_true true b h = refl
  or_true false b h = h

-- one of the things of a list that passes a test
pub record Passes {X : Type 0} (test : X → Bool) (xs : List X) : Type 0 where
  pub place : ℕ
  pub one : X
  pub here : slice_get xs place ≡ Some one
  pub passes : test one ≡ true

pub any_where : {X : Type 0} (test : X → Bool) (xs : List X) → list_any test xs ≡ true → Passes test xs
any_where test [] e = absurd cc
any_where {X} test (y ∷ ys) e = at (test y) refl e (λ h. any_where test ys h) where
  at : (b : Bool) → test y ≡ b → (b || list_any test ys) ≡ true → (list_any test ys ≡ true → Passes test ys) → Passes test (y ∷ ys)
  at true t h more = record { place = 0; one = y; here = refl; passes = t }
  at false t h more = let p = more h in record { place = suc p.place; one = p.one; here = p.here; passes = p.passes }

pub none_from : {X : Type 0} (o : Option X) → is_none o ≡ true → o ≡ None
none_from None e = refl
none_from (Some x) e = absurd cc

pub some_from : {X : Type 0} (o : Option X) → is_some o ≡ true → (x : X) × (o ≡ Some x)
some_from None e = absurd cc
some_from (Some x) e = (x, refl)

pub or_parts : (a b : Bool) → (a || b) ≡ true → (a ≡ true) ⊎ (b ≡ true)
or_parts true b e = inl refl
or_parts false b e = inr e

pub or_first : (a b : Bool) → a ≡ true → (a || b) ≡ true
or_first true b e = refl
or_first false b e = absurd cc

pub or_second : (a b : Bool) → b ≡ true → (a || b) ≡ true
or_second true b e = refl
or_second false b e = e

pub get_names : (gs : List Given) (p : ℕ) (g : Given) → slice_get gs p ≡ Some g → slice_get (names_of gs) p ≡ Some g.name
get_names [] p g e = absurd cc
get_names (x ∷ xs) zero g e = let same : x ≡ g = cc in ap (λ (h : Given). Some h.name) same
get_names (x ∷ xs) (suc p) g e = get_names xs p g e

-- the line that gives the name at a place
pub record Names (gs : List Given) (p : ℕ) (q : List ℕ) : Type 0 where
  pub one : Given
  pub here : slice_get gs p ≡ Some one
  pub name : one.name ≡ q

pub get_giver : (gs : List Given) (p : ℕ) (q : List ℕ) → slice_get (names_of gs) p ≡ Some q → Names gs p q
get_giver [] p q e = absurd cc
get_giver (x ∷ xs) zero q e = record { one = x; here = refl; name = cc }
get_giver (x ∷ xs) (suc p) q e = let r = get_giver xs p q e in record { one = r.one; here = r.here; name = r.name }

pub named_at : {Form : Type 0} (names : Form → List (List ℕ)) (lines : List (Numbered Form)) (k n : ℕ) (form : Form) (name : List ℕ) → slice_get lines k ≡ Some (record { line = n; form = form }) → names form ≡ name ∷ [] → AreNames (names_of (given_by names lines)) → IsTrue (is_name name)
named_at names lines k n form name here one h = h.each (given_before names lines k) name (get_names (given_by names lines) (given_before names lines k) (given n name) (given_here names lines k n form name here one))

pub take_get : {X : Type 0} (xs : List X) (n k : ℕ) (x : X) → slice_get (take n xs) k ≡ Some x → (k < n) × (slice_get xs k ≡ Some x)
take_get [] zero k x e = absurd cc
take_get [] (suc n) k x e = absurd cc
take_get (y ∷ ys) zero k x e = absurd cc
take_get (y ∷ ys) (suc n) zero x e = (omega arith, e)
take_get (y ∷ ys) (suc n) (suc k) x e = let r = take_get ys n k x e in (omega (arith, r.0), r.1)

pub get_take : {X : Type 0} (xs : List X) (n k : ℕ) (x : X) → k < n → slice_get xs k ≡ Some x → slice_get (take n xs) k ≡ Some x
get_take [] n k x lt e = absurd cc
get_take (y ∷ ys) zero k x lt e = absurd (omega arith)
get_take (y ∷ ys) (suc n) zero x lt e = e
get_take (y ∷ ys) (suc n) (suc k) x lt e = get_take ys n k x (omega arith) e

pub get_zero : {X : Type 0} (xs : List X) → 0 < length xs → (x : X) × (slice_get xs 0 ≡ Some x)
get_zero [] lt = absurd (omega arith)
get_zero (x ∷ xs) lt = (x, refl)

-- the forms that give a name
pub load_one : (form : PlanLine) (j : ℕ) (name : List ℕ) → slice_get (load_given form) j ≡ Some name → (domain : List ℕ) × (form ≡ plan.Load name domain) × (j ≡ 0)
load_one (plan.Load n domain) zero name e = let same : n ≡ name = cc in (domain, ap (λ (x : List ℕ). plan.Load x domain) same, refl)
load_one (plan.Load n domain) (suc j) name e = absurd cc
load_one (plan.Bind load import target) j name e = absurd cc
load_one (plan.Shadow n load restarts) j name e = absurd cc
load_one (plan.Device load blocks) j name e = absurd cc
load_one (plan.Serial load) j name e = absurd cc
load_one (plan.Fuel n) j name e = absurd cc
load_one (plan.Order clients) j name e = absurd cc

pub shadow_one : (form : PlanLine) (j : ℕ) (load : List ℕ) → slice_get (shadowed form) j ≡ Some load → (name : List ℕ) × (restarts : ℕ) × (form ≡ plan.Shadow name load restarts) × (j ≡ 0)
shadow_one (plan.Shadow n l restarts) zero load e = let same : l ≡ load = cc in (n, restarts, ap (λ (x : List ℕ). plan.Shadow n x restarts) same, refl)
shadow_one (plan.Shadow n l restarts) (suc j) load e = absurd cc
shadow_one (plan.Load n domain) j load e = absurd cc
shadow_one (plan.Bind l import target) j load e = absurd cc
shadow_one (plan.Device l blocks) j load e = absurd cc
shadow_one (plan.Serial l) j load e = absurd cc
shadow_one (plan.Fuel n) j load e = absurd cc
shadow_one (plan.Order clients) j load e = absurd cc

pub device_one : (form : PlanLine) (j : ℕ) (name : List ℕ) → slice_get (device_given form) j ≡ Some name → (load : List ℕ) × (blocks : ℕ) × (form ≡ plan.Device load blocks) × (j ≡ 0) × (name ≡ [])
device_one (plan.Device l blocks) zero name e = (l, blocks, refl, refl, cc)
device_one (plan.Device l blocks) (suc j) name e = absurd cc
device_one (plan.Load n domain) j load e = absurd cc
device_one (plan.Bind l import target) j load e = absurd cc
device_one (plan.Shadow n l restarts) j load e = absurd cc
device_one (plan.Serial l) j load e = absurd cc
device_one (plan.Fuel n) j load e = absurd cc
device_one (plan.Order clients) j load e = absurd cc

pub slot_one : (form : DomainLine) (j : ℕ) (name : List ℕ) → slice_get (slot_given form) j ≡ Some name → (ty : List ℕ) × (form ≡ line.Slot name ty) × (j ≡ 0)
slot_one (line.Slot n ty) zero name e = let same : n ≡ name = cc in (ty, ap (λ (x : List ℕ). line.Slot x ty) same, refl)
slot_one (line.Slot n ty) (suc j) name e = absurd cc
slot_one (line.Domain n has) j name e = absurd cc
slot_one (line.Words n) j name e = absurd cc
slot_one (line.Import n has) j name e = absurd cc
slot_one (line.Native body) j name e = absurd cc
slot_one (line.Function n) j name e = absurd cc
slot_one (line.Head label items) j name e = absurd cc
slot_one (line.Code i) j name e = absurd cc
slot_one line.Close j name e = absurd cc

pub client_one : (form : ClientLine) (j : ℕ) (name : List ℕ) → slice_get (client_given form) j ≡ Some name → (form ≡ client.Client name) × (j ≡ 0)
client_one (client.Client n) zero name e = let same : n ≡ name = cc in (ap (λ (x : List ℕ). client.Client x) same, refl)
client_one (client.Client n) (suc j) name e = absurd cc
client_one (client.Let n ty values) j name e = absurd cc
client_one (client.Text n ty bytes) j name e = absurd cc
client_one (client.Call target method args names) j name e = absurd cc
client_one (client.Show n) j name e = absurd cc
client_one (client.Drop n) j name e = absurd cc
client_one (client.Kill target) j name e = absurd cc
client_one client.Close j name e = absurd cc

-- a number outside its bounds
pub outside_test : (least most n : ℕ) → IsOutside least most n → is_outside least most n ≡ true
outside_test least most n (inl low) = or_first (nat_lt n least) (nat_lt most n) (lt-ltb n least low)
outside_test least most n (inr high) = or_second (nat_lt n least) (nat_lt most n) (lt-ltb most n high)

pub outside_is : (least most n : ℕ) → is_outside least most n ≡ true → IsOutside least most n
outside_is least most n e = elim (or_parts (nat_lt n least) (nat_lt most n) e) [ inl a ↦ inl (ltb-true n least a) | inr a ↦ inr (ltb-true most n a) ]

-- the domain whose lines a text has
pub domain_there : (domains : List Domain) (k : ℕ) (t : DomainText) → slice_get (map text_of domains) k ≡ Some t → (d : Domain) × (slice_get domains k ≡ Some d) × (text_of d ≡ t)
domain_there [] k t e = absurd cc
domain_there (d ∷ ds) zero t e = (d, refl, cc)
domain_there (d ∷ ds) (suc k) t e = domain_there ds k t e

pub text_there : (domains : List Domain) (k : ℕ) (d : Domain) → slice_get domains k ≡ Some d → slice_get (map text_of domains) k ≡ Some (text_of d)
text_there [] k d e = absurd cc
text_there (x ∷ xs) zero d e = let same : x ≡ d = cc in ap (λ (y : Domain). Some (text_of y)) same
text_there (x ∷ xs) (suc k) d e = text_there xs k d e

-- what stands in a first part stands there in the whole, and back
pub get_before : {X : Type 0} (xs ys : List X) (i : ℕ) (x : X) → slice_get (xs ++ ys) i ≡ Some x → i < length xs → slice_get xs i ≡ Some x
get_before [] ys i x e lt = absurd (omega (arith, lt))
get_before (y ∷ xs) ys zero x e lt = e
get_before (y ∷ xs) ys (suc i) x e lt = get_before xs ys i x e (omega (arith, lt))

-- what the lines before a place give, and then the others
pub given_split : {Form : Type 0} (names : Form → List (List ℕ)) (k : ℕ) (lines : List (Numbered Form)) → given_by names (take k lines) ++ given_by names (drop k lines) ≡ given_by names lines
given_split names zero [] = refl
given_split names (suc k) [] = refl
given_split names zero (l ∷ ls) = refl
given_split names (suc k) (l ∷ ls) = append_assoc (map (given l.line) (names l.form)) (given_by names (take k ls)) (given_by names (drop k ls)) ∙ ap (λ (gs : List Given). map (given l.line) (names l.form) ++ gs) (given_split names k ls)

pub given_earlier : {Form : Type 0} (names : Form → List (List ℕ)) (lines : List (Numbered Form)) (k i : ℕ) (g : Given) → slice_get (given_by names (take k lines)) i ≡ Some g → slice_get (given_by names lines) i ≡ Some g
given_earlier names lines k i g e = ap (λ (gs : List Given). slice_get gs i) (sym (given_split names k lines)) ∙ get_front (given_by names (take k lines)) (given_by names (drop k lines)) i g e

pub earlier_given : {Form : Type 0} (names : Form → List (List ℕ)) (lines : List (Numbered Form)) (k i : ℕ) (g : Given) → slice_get (given_by names lines) i ≡ Some g → i < given_before names lines k → slice_get (given_by names (take k lines)) i ≡ Some g
earlier_given names lines k i g e lt = get_before (given_by names (take k lines)) (given_by names (drop k lines)) i g (ap (λ (gs : List Given). slice_get gs i) (given_split names k lines) ∙ e) lt
