-- Names that are given again in a scope, and the scopes that lines open.
use Rattle.std.proofs.Common.{◌≡◌, ℕ, zero, suc, ◌+◌, ◌<◌, ◌≤◌, ◌⊎◌, inl, inr, Bool, true, false, List, [], ◌∷◌, ◌++◌, length, take, Option, Some, None, refl, sym, ap, subst, ◌∙◌, arith, cond, nat_eq, add-one, length-append}
use Rattle.std.specs.Prelude.{slice_get, is_some}
use Rattle.std.specs.Cmp.Lexicographic.{pointwise}
use Rattle.std.proofs.lemmas.Bool.Decides.{Decides-eqb}
use Rattle.std.proofs.lemmas.Slice.Eq.{slice_eq-Decides}
use Rattle.name_tables.proofs.Placing.{place_of_push, same_name}
use Rattle.rl_defs.specs.declared.bundle.Numbered.{Numbered}
use Rattle.rl_defs.specs.Interfaces.{place_of}
use Rattle.rl_defs.specs.BundleNames.{Given, given}
use Rattle.bundle_names.specs.declared.roles.Role.{Role}
use Rattle.bundle_names.specs.declared.roles.Role.TheVariants as role
use Rattle.bundle_names.specs.Scopes.{Scope, names_in, behind, behind_all, repeats, Repeats, member_before, members, scope_before, scopes, TwiceBehind, OpenTwice, ScopeTwice}

-- a name among names with one more
pub in_push : (names : List (List ℕ)) (name q : List ℕ) → is_some (place_of q (names ++ name ∷ [])) ≡ true → (is_some (place_of q names) ≡ true) ⊎ (name ≡ q)
in_push names name q h = by (place_of q names) (pointwise nat_eq name q) (same_name name q) (ap is_some (sym (place_of_push names name q)) ∙ h) where
  by : (o : Option ℕ) (b : Bool) → (b ≡ true → name ≡ q) → is_some (cond (is_some o) o (cond b (Some (length names)) None)) ≡ true → (is_some o ≡ true) ⊎ (name ≡ q)
  by (Some k) b same h = inl refl
  by None true same h = inr (same refl)
  by None false same h = absurd cc

pub in_front : (names : List (List ℕ)) (name q : List ℕ) → is_some (place_of q names) ≡ true → is_some (place_of q (names ++ name ∷ [])) ≡ true
in_front names name q h = ap is_some (place_of_push names name q) ∙ by (place_of q names) (pointwise nat_eq name q) h where
  by : (o : Option ℕ) (b : Bool) → is_some o ≡ true → is_some (cond (is_some o) o (cond b (Some (length names)) None)) ≡ true
  by (Some k) b h = refl
  by None b h = absurd cc

pub in_last : (names : List (List ℕ)) (name : List ℕ) → is_some (place_of name (names ++ name ∷ [])) ≡ true
in_last names name = ap is_some (place_of_push names name name) ∙ by (place_of name names) (pointwise nat_eq name name) ((slice_eq-Decides Decides-eqb name name (pointwise nat_eq name name) refl).1 refl) where
  by : (o : Option ℕ) (b : Bool) → b ≡ true → is_some (cond (is_some o) o (cond b (Some (length names)) None)) ≡ true
  by (Some k) b h = refl
  by None true h = refl
  by None false h = absurd cc

pub no_open : (scope : Scope) (n : ℕ) → OpenTwice scope [] n → ⊥
no_open None n t = t
no_open (Some names) n t = by t.place (given n t.name) t.here where
  by : (place : ℕ) (g : Given) → slice_get [] place ≡ Some g → ⊥
  by place g e = absurd cc

-- a name given again in the open scope is given by its first line, or behind it
pub unlift : (r : Role) (scope : Scope) (line : ℕ) (ms : List Given) (n : ℕ) → OpenTwice scope (member_before line r ms) n → ((line ≡ n) × (repeats r scope ≡ true)) ⊎ OpenTwice (behind r scope) ms n
unlift role.Opens scope line ms n t = absurd (no_open scope n t)
unlift role.Ends scope line ms n t = absurd (no_open scope n t)
unlift role.Passes scope line ms n t = inr t
unlift (role.Gives name) None line ms n t = absurd t
unlift (role.Gives name) (Some names) line ms n t = by t.place t.name t.here t.before where
  by : (place : ℕ) (other : List ℕ) → slice_get (given line name ∷ ms) place ≡ Some (given n other) → (is_some (place_of other names) ≡ true) ⊎ ((earlier : ℕ) × (first : ℕ) × (earlier < place) × (slice_get (given line name ∷ ms) earlier ≡ Some (given first other))) → ((line ≡ n) × (is_some (place_of name names) ≡ true)) ⊎ TwiceBehind (names ++ name ∷ []) ms n
  by zero other here (inl known) = let e : given line name ≡ given n other = cc in inl (ap (λ (g : Given). g.line) e, subst (λ (q : List ℕ). is_some (place_of q names) ≡ true) (sym (ap (λ (g : Given). g.name) e)) known)
  by zero other here (inr (i, first, lt, there)) = absurd (omega (arith, lt))
  by (suc p) other here (inl known) = inr (record { place = p; name = other; here = here; before = inl (in_front names name other known) })
  by (suc p) other here (inr (zero, first, lt, there)) = let e : given line name ≡ given first other = cc in inr (record { place = p; name = other; here = here; before = inl (subst (λ (q : List ℕ). is_some (place_of q (names ++ name ∷ [])) ≡ true) (ap (λ (g : Given). g.name) e) (in_last names name)) })
  by (suc p) other here (inr (suc i, first, lt, there)) = inr (record { place = p; name = other; here = here; before = inr (i, first, omega (arith, lt), there) })

pub lift : (r : Role) (scope : Scope) (line : ℕ) (ms : List Given) (bs : List (List Given)) (n : ℕ) → OpenTwice (behind r scope) ms n → OpenTwice scope (member_before line r ms) n ⊎ ScopeTwice (scope_before r ms bs) n
lift role.Opens scope line ms bs n t = inr (record { number = 0; gives = ms; here = refl; twice = t })
lift role.Ends scope line ms bs n t = absurd t
lift role.Passes scope line ms bs n t = inl t
lift (role.Gives name) None line ms bs n t = absurd t
lift (role.Gives name) (Some names) line ms bs n t = inl (by t.place t.name t.here t.before) where
  by : (place : ℕ) (other : List ℕ) → slice_get ms place ≡ Some (given n other) → (is_some (place_of other (names ++ name ∷ [])) ≡ true) ⊎ ((earlier : ℕ) × (first : ℕ) × (earlier < place) × (slice_get ms earlier ≡ Some (given first other))) → TwiceBehind names (given line name ∷ ms) n
  by place other here (inl known) = elim (in_push names name other known) [
    | inl a ↦ record { place = suc place; name = other; here = here; before = inl a }
    | inr e ↦ record { place = suc place; name = other; here = here; before = inr (0, line, omega arith, ap (λ (q : List ℕ). Some (given line q)) e) }
  ]
  by place other here (inr (i, first, lt, there)) = record { place = suc place; name = other; here = here; before = inr (suc i, first, omega (arith, lt), there) }

later : (r : Role) (ms : List Given) (bs : List (List Given)) (n : ℕ) → ScopeTwice bs n → ScopeTwice (scope_before r ms bs) n
later role.Opens ms bs n t = record { number = suc t.number; gives = t.gives; here = t.here; twice = t.twice }
later role.Ends ms bs n t = t
later role.Passes ms bs n t = t
later (role.Gives name) ms bs n t = t

unscope : (r : Role) (scope : Scope) (ms : List Given) (bs : List (List Given)) (n : ℕ) → ScopeTwice (scope_before r ms bs) n → OpenTwice (behind r scope) ms n ⊎ ScopeTwice bs n
unscope role.Opens scope ms bs n t = by t.number t.gives t.here t.twice where
  by : (number : ℕ) (gives : List Given) → slice_get (ms ∷ bs) number ≡ Some gives → TwiceBehind [] gives n → TwiceBehind [] ms n ⊎ ScopeTwice bs n
  by zero gives here twice = let e : ms ≡ gives = cc in inl (subst (λ (gs : List Given). TwiceBehind [] gs n) (sym e) twice)
  by (suc k) gives here twice = inr (record { number = k; gives = gives; here = here; twice = twice })
unscope role.Ends scope ms bs n t = inr t
unscope role.Passes scope ms bs n t = inr t
unscope (role.Gives name) scope ms bs n t = inr t

at_front : {Form : Type 0} (f : Form → Role) (scope : Scope) (l : Numbered Form) (ls : List (Numbered Form)) (n : ℕ) → l.line ≡ n → repeats (f l.form) scope ≡ true → Repeats f scope (l ∷ ls) n
at_front {Form} f scope l ls n e again = record { place = 0; form = l.form; here = ap (λ (m : ℕ). Some (record { line = m; form = l.form })) e; again = again }

behind_front : {Form : Type 0} (f : Form → Role) (scope : Scope) (l : Numbered Form) (ls : List (Numbered Form)) (n : ℕ) → Repeats f (behind (f l.form) scope) ls n → Repeats f scope (l ∷ ls) n
behind_front f scope l ls n h = record { place = suc h.place; form = h.form; here = h.here; again = h.again }

-- what is given twice in the open scope, or in one that the lines open, is given again at a line
pub open_repeats : {Form : Type 0} (f : Form → Role) (scope : Scope) (lines : List (Numbered Form)) (n : ℕ) → OpenTwice scope (members f lines) n → Repeats f scope lines n
open_repeats f scope [] n t = absurd (no_open scope n t)
open_repeats f scope (l ∷ ls) n t = elim (unlift (f l.form) scope l.line (members f ls) n t) [
  | inl a ↦ at_front f scope l ls n a.0 a.1
  | inr b ↦ behind_front f scope l ls n (open_repeats f (behind (f l.form) scope) ls n b)
]

pub scope_repeats : {Form : Type 0} (f : Form → Role) (scope : Scope) (lines : List (Numbered Form)) (n : ℕ) → ScopeTwice (scopes f lines) n → Repeats f scope lines n
scope_repeats f scope [] n t = by t.number t.gives t.here where
  by : (number : ℕ) (gives : List Given) → slice_get [] number ≡ Some gives → Repeats f scope [] n
  by number gives e = absurd cc
scope_repeats f scope (l ∷ ls) n t = elim (unscope (f l.form) scope (members f ls) (scopes f ls) n t) [
  | inl a ↦ behind_front f scope l ls n (open_repeats f (behind (f l.form) scope) ls n a)
  | inr b ↦ behind_front f scope l ls n (scope_repeats f (behind (f l.form) scope) ls n b)
]

first_again : (r : Role) (scope : Scope) (line : ℕ) (ms : List Given) (n : ℕ) → line ≡ n → repeats r scope ≡ true → OpenTwice scope (member_before line r ms) n
first_again role.Opens scope line ms n e again = absurd cc
first_again role.Ends scope line ms n e again = absurd cc
first_again role.Passes scope line ms n e again = absurd cc
first_again (role.Gives name) None line ms n e again = absurd cc
first_again (role.Gives name) (Some names) line ms n e again = record { place = 0; name = name; here = ap (λ (m : ℕ). Some (given m name)) e; before = inl again }

twice_at : {Form : Type 0} (f : Form → Role) (scope : Scope) (lines : List (Numbered Form)) (n place : ℕ) (form : Form) → slice_get lines place ≡ Some (record { line = n; form = form }) → repeats (f form) (behind_all f scope (take place lines)) ≡ true → OpenTwice scope (members f lines) n ⊎ ScopeTwice (scopes f lines) n
twice_at f scope [] n place form here again = absurd cc
twice_at {Form} f scope (l ∷ ls) n zero form here again =
    let e : l ≡ record { line = n; form = form } = cc in
    inl (first_again (f l.form) scope l.line (members f ls) n (ap (λ (x : Numbered Form). x.line) e) (ap (λ (x : Numbered Form). repeats (f x.form) scope) e ∙ again))
twice_at f scope (l ∷ ls) n (suc k) form here again = elim (twice_at f (behind (f l.form) scope) ls n k form here again) [
  | inl a ↦ lift (f l.form) scope l.line (members f ls) (scopes f ls) n a
  | inr b ↦ inr (later (f l.form) (members f ls) (scopes f ls) n b)
]

-- what a line gives again is given twice in the open scope, or in one that the lines open
pub repeats_twice : {Form : Type 0} (f : Form → Role) (scope : Scope) (lines : List (Numbered Form)) (n : ℕ) → Repeats f scope lines n → OpenTwice scope (members f lines) n ⊎ ScopeTwice (scopes f lines) n
repeats_twice f scope lines n h = twice_at f scope lines n h.place h.form h.here h.again

pub behind_suc : {Form : Type 0} (f : Form → Role) (scope : Scope) (lines : List (Numbered Form)) (k : ℕ) (x : Numbered Form) → slice_get lines k ≡ Some x → behind (f x.form) (behind_all f scope (take k lines)) ≡ behind_all f scope (take (suc k) lines)
behind_suc f scope [] k x e = absurd cc
behind_suc {Form} f scope (y ∷ ys) zero x e = let same : y ≡ x = cc in ap (λ (z : Numbered Form). behind (f z.form) scope) (sym same)
behind_suc f scope (y ∷ ys) (suc k) x e = behind_suc f (behind (f y.form) scope) ys k x e

-- the scope behind one line more
pub behind_more : {Form : Type 0} (f : Form → Role) (scope : Scope) (lines : List (Numbered Form)) (k : ℕ) (x : Numbered Form) → slice_get lines k ≡ Some x → behind (f x.form) (behind_all f scope (take k lines)) ≡ behind_all f scope (take (k + 1) lines)
behind_more f scope lines k x e = rw add-one (behind_suc f scope lines k x e)

pub few_behind : (r : Role) (scope : Scope) → names_in (behind r scope) ≤ names_in scope + 1
few_behind role.Opens scope = omega arith
few_behind role.Ends scope = omega arith
few_behind role.Passes scope = omega arith
few_behind (role.Gives name) None = omega arith
few_behind (role.Gives name) (Some names) = omega (arith, length-append names (name ∷ []))

-- a scope has no more names than lines
pub few_names : {Form : Type 0} (f : Form → Role) (scope : Scope) (lines : List (Numbered Form)) (k : ℕ) → names_in (behind_all f scope (take k lines)) ≤ names_in scope + k
few_names f scope [] zero = omega arith
few_names f scope [] (suc k) = omega arith
few_names f scope (l ∷ ls) zero = omega arith
few_names f scope (l ∷ ls) (suc k) = omega (arith, few_names f (behind (f l.form) scope) ls k, few_behind (f l.form) scope)
