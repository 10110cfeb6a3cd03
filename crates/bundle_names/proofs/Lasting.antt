-- Names that a scope has, and the lines that gave them.
use Rattle.rl_defs.specs.NameRules.{GivenTwice, GivenTwiceInOne}
use Rattle.std.proofs.Common.{◌++◌, ◌≡◌, ℕ, zero, suc, ◌<◌, ◌⊎◌, inl, inr, true, List, [], ◌∷◌, map, take, Some, None, refl, sym, ap, ◌∙◌, arith, subst}
use Rattle.std.specs.Prelude.{slice_get, is_some}
use Rattle.rl_defs.specs.declared.bundle.Numbered.{Numbered}
use Rattle.rl_defs.specs.BundleNames.{Given, given, given_by}
use Rattle.bundle_names.specs.declared.roles.Role.{Role}
use Rattle.bundle_names.specs.declared.roles.Role.TheVariants as role
use Rattle.bundle_names.specs.Scopes.{Scope, behind, behind_all, has_name, repeats, TwiceBehind, Repeats, ScopeTwice, member_before, members, scope_before, scopes}
use Rattle.bundle_names.proofs.Scoping.{in_push, in_front, in_last, open_repeats, repeats_twice}

-- what a line gives again is a name that the scope has
pub repeats_gives : (r : Role) (scope : Scope) → repeats r scope ≡ true → (name : List ℕ) × (r ≡ role.Gives name) × (has_name name scope ≡ true)
repeats_gives role.Opens scope e = absurd cc
repeats_gives role.Ends scope e = absurd cc
repeats_gives role.Passes scope e = absurd cc
repeats_gives (role.Gives name) scope e = (name, refl, e)

from_one : (r : Role) (scope : Scope) (name : List ℕ) → has_name name (behind r scope) ≡ true → (has_name name scope ≡ true) ⊎ (r ≡ role.Gives name)
from_one role.Opens scope name e = absurd cc
from_one role.Ends scope name e = absurd cc
from_one role.Passes scope name e = inl e
from_one (role.Gives other) None name e = absurd cc
from_one (role.Gives other) (Some names) name e = elim (in_push names other name e) [ inl a ↦ inl a | inr b ↦ inr (ap (λ (q : List ℕ). role.Gives q) b) ]

-- a name that a scope has was there before the lines, or one of them gave it
pub known_from : {Form : Type 0} (f : Form → Role) (lines : List (Numbered Form)) (k : ℕ) (scope : Scope) (name : List ℕ) → has_name name (behind_all f scope (take k lines)) ≡ true → (has_name name scope ≡ true) ⊎ ((j : ℕ) × (x : Numbered Form) × (j < k) × (slice_get lines j ≡ Some x) × (f x.form ≡ role.Gives name))
known_from f [] zero scope name e = inl e
known_from f [] (suc k) scope name e = inl e
known_from f (l ∷ ls) zero scope name e = inl e
known_from f (l ∷ ls) (suc k) scope name e = elim (known_from f ls k (behind (f l.form) scope) name e) [
  | inl a ↦ elim (from_one (f l.form) scope name a) [ inl b ↦ inl b | inr c ↦ inr (0, l, omega arith, refl, c) ]
  | inr b ↦ inr (suc b.0, b.1, omega (arith, b.2), b.3, b.4)
]

-- the line neither opens nor ends the scope
abbrev pub Lasts : Role → Type 0
Lasts role.Opens = ⊥
Lasts role.Ends = ⊥
Lasts _ = Unit {0}

keeps_one : (r : Role) (scope : Scope) (name : List ℕ) → Lasts r → has_name name scope ≡ true → has_name name (behind r scope) ≡ true
keeps_one role.Opens scope name h e = absurd h
keeps_one role.Ends scope name h e = absurd h
keeps_one role.Passes scope name h e = e
keeps_one (role.Gives other) None name h e = absurd cc
keeps_one (role.Gives other) (Some names) name h e = in_front names other name e

stays_open : (r : Role) (scope : Scope) → Lasts r → is_some scope ≡ true → is_some (behind r scope) ≡ true
stays_open role.Opens scope h e = absurd h
stays_open role.Ends scope h e = absurd h
stays_open role.Passes scope h e = e
stays_open (role.Gives other) None h e = absurd cc
stays_open (role.Gives other) (Some names) h e = refl

pub gives_one : (r : Role) (scope : Scope) (name : List ℕ) → r ≡ role.Gives name → is_some scope ≡ true → has_name name (behind r scope) ≡ true
gives_one r None name e opened = absurd cc
gives_one r (Some names) name e opened = ap (λ (x : Role). has_name name (behind x (Some names))) e ∙ in_last names name

module _ {Form : Type 0} (f : Form → Role) (lasts : (form : Form) → Lasts (f form)) where
  pub keeps_name : (lines : List (Numbered Form)) (scope : Scope) (name : List ℕ) → has_name name scope ≡ true → has_name name (behind_all f scope lines) ≡ true
  keeps_name [] scope name e = e
  keeps_name (l ∷ ls) scope name e = keeps_name ls (behind (f l.form) scope) name (keeps_one (f l.form) scope name (lasts l.form) e)

  -- a name that a line gives stays in the scope
  pub known_behind : (lines : List (Numbered Form)) (scope : Scope) (j k : ℕ) (x : Numbered Form) (name : List ℕ) → is_some scope ≡ true → j < k → slice_get lines j ≡ Some x → f x.form ≡ role.Gives name → has_name name (behind_all f scope (take k lines)) ≡ true
  known_behind [] scope j k x name opened lt here gives = absurd cc
  known_behind (l ∷ ls) scope j zero x name opened lt here gives = absurd (omega (arith, lt))
  known_behind (l ∷ ls) scope zero (suc k) x name opened lt here gives =
      let same : l ≡ x = cc in
      keeps_name (take k ls) (behind (f l.form) scope) name (gives_one (f l.form) scope name (ap (λ (z : Numbered Form). f z.form) same ∙ gives) opened)
  known_behind (l ∷ ls) scope (suc j) (suc k) x name opened lt here gives = known_behind ls (behind (f l.form) scope) j k x name (stays_open (f l.form) scope (lasts l.form) opened) (omega (arith, lt)) here gives

-- a name that is given twice is behind itself, and back
pub given_behind : (gs : List Given) (n : ℕ) → GivenTwice gs n → TwiceBehind [] gs n
given_behind gs n t = record {
  place = t.place;
  name = t.second.name;
  here = t.here ∙ ap (λ (m : ℕ). Some (given m t.second.name)) t.line;
  before = inr (t.earlier, t.first.line, t.before, t.there ∙ ap (λ (q : List ℕ). Some (given t.first.line q)) (sym t.again));
}

pub behind_given : (gs : List Given) (n : ℕ) → TwiceBehind [] gs n → GivenTwice gs n
behind_given gs n t = elim t.before [
  | inl a ↦ absurd cc
  | inr b ↦ record { earlier = b.0; place = t.place; before = b.2; first = given b.1 t.name; second = given n t.name; there = b.3; here = t.here; line = refl; again = refl }
]

pub given_scope : (all : List (List Given)) (n : ℕ) → GivenTwiceInOne all n → ScopeTwice all n
given_scope all n h = record { number = h.number; gives = h.names; here = h.here; twice = given_behind h.names n h.twice }

pub scope_given : (all : List (List Given)) (n : ℕ) → ScopeTwice all n → GivenTwiceInOne all n
scope_given all n h = record { number = h.number; names = h.gives; here = h.here; twice = behind_given h.gives n h.twice }

-- the line neither opens nor ends the scope, and its role gives it these names: none, or one
abbrev pub GivesTo : Role → List (List ℕ) → Type 0
GivesTo r names = Lasts r × ((n : ℕ) (more : List Given) → member_before n r more ≡ map (given n) names ++ more)

pub passes : GivesTo role.Passes []
passes = (tt, λ n more. refl)

pub gives : (name : List ℕ) → GivesTo (role.Gives name) (name ∷ [])
gives name = (tt, λ n more. refl)

-- A role that neither opens nor ends a scope gives the names that a line gives.
pub record Giving {Form : Type 0} (f : Form → Role) (g : Form → List (List ℕ)) : Type 0 where
  pub lasts : (form : Form) → Lasts (f form)
  pub gives : (n : ℕ) (form : Form) (more : List Given) → member_before n (f form) more ≡ map (given n) (g form) ++ more

pub giving : {Form : Type 0} (f : Form → Role) (g : Form → List (List ℕ)) → ((form : Form) → GivesTo (f form) (g form)) → Giving f g
giving f g each = record { lasts = λ form. (each form).0; gives = λ n form more. (each form).1 n more }

opens_none : (r : Role) (ms : List Given) (bs : List (List Given)) → Lasts r → scope_before r ms bs ≡ bs
opens_none role.Opens ms bs h = absurd h
opens_none role.Ends ms bs h = absurd h
opens_none role.Passes ms bs h = refl
opens_none (role.Gives name) ms bs h = refl

module _ {Form : Type 0} (f : Form → Role) (g : Form → List (List ℕ)) (h : Giving f g) where
  given_members : (lines : List (Numbered Form)) → members f lines ≡ given_by g lines
  given_members [] = refl
  given_members (l ∷ ls) = h.gives l.line l.form (members f ls) ∙ ap (λ (ms : List Given). map (given l.line) (g l.form) ++ ms) (given_members ls)

  no_scopes : (lines : List (Numbered Form)) → scopes f lines ≡ []
  no_scopes [] = refl
  no_scopes (l ∷ ls) = opens_none (f l.form) (members f ls) (scopes f ls) (h.lasts l.form) ∙ no_scopes ls

  -- what is given twice is given again at a line, and back
  pub repeats_given : (lines : List (Numbered Form)) (n : ℕ) → GivenTwice (given_by g lines) n → Repeats f (Some []) lines n
  repeats_given lines n t = open_repeats f (Some []) lines n (subst (λ (gs : List Given). TwiceBehind [] gs n) (sym (given_members lines)) (given_behind (given_by g lines) n t))

  pub given_repeats : (lines : List (Numbered Form)) (n : ℕ) → Repeats f (Some []) lines n → GivenTwice (given_by g lines) n
  given_repeats lines n r = elim (repeats_twice f (Some []) lines n r) [
    | inl a ↦ behind_given (given_by g lines) n (subst (λ (gs : List Given). TwiceBehind [] gs n) (given_members lines) a)
    | inr b ↦ absurd (none b.number b.gives (subst (λ (all : List (List Given)). slice_get all b.number ≡ Some b.gives) (no_scopes lines) b.here))
  ] where
    none : (number : ℕ) (gives : List Given) → slice_get [] number ≡ Some gives → ⊥
    none number gives e = absurd cc
