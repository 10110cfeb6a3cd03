-- Scopes in which a name is given once: what each line is for a scope, and which names the scope has behind some lines.
use Rattle.std.specs.Prelude.{◌≡◌, ℕ, ◌<◌, ◌⊎◌, Bool, true, false, List, [], ◌∷◌, ◌++◌, Option, Some, None, is_some, if◌then◌else◌, length, slice_get, take}
use Rattle.rl_defs.specs.declared.bundle.Numbered.{Numbered}
use Rattle.rl_defs.specs.Refusals.{Failing}
use Rattle.rl_defs.specs.Interfaces.{place_of}
use Rattle.rl_defs.specs.BundleNames.{Given, given}
use Rattle.bundle_names.specs.declared.roles.Role.{Role}
use Rattle.bundle_names.specs.declared.roles.Role.TheVariants as role

-- the names of a scope, where it is open
abbrev pub Scope : Type 0
Scope = Option (List (List ℕ))

abbrev pub names_in : Scope → ℕ
names_in None = 0
names_in (Some names) = length names

abbrev pub with_name : List ℕ → Scope → Scope
with_name name None = None
with_name name (Some names) = Some (names ++ name ∷ [])

-- the scope behind a line
abbrev pub behind : Role → Scope → Scope
behind role.Opens scope = Some []
behind (role.Gives name) scope = with_name name scope
behind role.Passes scope = scope
behind role.Ends scope = None

-- the scope behind these lines
abbrev pub behind_all : {Form : Type 0} → (Form → Role) → Scope → List (Numbered Form) → Scope
behind_all role_of scope [] = scope
behind_all role_of scope (l ∷ ls) = behind_all role_of (behind (role_of l.form) scope) ls

abbrev pub has_name : List ℕ → Scope → Bool
has_name name None = false
has_name name (Some names) = is_some (place_of name names)

-- the line gives a name that the scope has
abbrev pub repeats : Role → Scope → Bool
repeats (role.Gives name) scope = has_name name scope
repeats _ scope = false

-- a line of this number gives a name again
pub record Repeats {Form : Type 0} (role_of : Form → Role) (scope : Scope) (lines : List (Numbered Form)) (n : ℕ) : Type 0 where
  pub place : ℕ
  pub form : Form
  pub here : slice_get lines place ≡ Some (record { line = n; form = form })
  pub again : repeats (role_of form) (behind_all role_of scope (take place lines)) ≡ true

-- the names that a scope is given by the lines behind the one that opens it
abbrev pub member_before : ℕ → Role → List Given → List Given
member_before n (role.Gives name) more = given n name ∷ more
member_before n role.Passes more = more
member_before n _ more = []

abbrev pub members : {Form : Type 0} → (Form → Role) → List (Numbered Form) → List Given
members role_of [] = []
members role_of (l ∷ ls) = member_before l.line (role_of l.form) (members role_of ls)

-- the scopes that these lines open, each with the names that it is given
abbrev pub scope_before : Role → List Given → List (List Given) → List (List Given)
scope_before role.Opens names more = names ∷ more
scope_before _ names more = more

abbrev pub scopes : {Form : Type 0} → (Form → Role) → List (Numbered Form) → List (List Given)
scopes role_of [] = []
scopes role_of (l ∷ ls) = scope_before (role_of l.form) (members role_of ls) (scopes role_of ls)

-- a name given at a line of this number is among these names, or was given before
pub record TwiceBehind (names : List (List ℕ)) (gives : List Given) (n : ℕ) : Type 0 where
  pub place : ℕ
  pub name : List ℕ
  pub here : slice_get gives place ≡ Some (given n name)
  pub before : (is_some (place_of name names) ≡ true) ⊎ ((earlier : ℕ) × (first : ℕ) × (earlier < place) × (slice_get gives earlier ≡ Some (given first name)))

abbrev pub OpenTwice : Scope → List Given → ℕ → Type 0
OpenTwice None gives n = ⊥
OpenTwice (Some names) gives n = TwiceBehind names gives n

-- one of the scopes is given a name twice
pub record ScopeTwice (all : List (List Given)) (n : ℕ) : Type 0 where
  pub number : ℕ
  pub gives : List Given
  pub here : slice_get all number ≡ Some gives
  pub twice : TwiceBehind [] gives n

-- the lower of the rules 3 and 4 that fails
abbrev pub rule_when : Bool → Bool → Option ℕ
rule_when repeated unknown = if repeated then Some 3 else (if unknown then Some 4 else None)

-- which of the rules 3 and 4 fail
abbrev pub FailsWhen : Bool → Bool → ℕ → Type 0
FailsWhen repeated unknown rule = ((rule ≡ 3) × (repeated ≡ true)) ⊎ ((rule ≡ 4) × (unknown ≡ true))

-- which of the rules 3 and 4 fail at the line at a place
abbrev pub FailsAt : {Form : Type 0} → List (Numbered Form) → (ℕ → Form → Bool) → (ℕ → Form → Bool) → ℕ → ℕ → ℕ → Type 0
FailsAt {Form} lines three four place n rule = (form : Form) × (slice_get lines place ≡ Some (record { line = n; form = form })) × FailsWhen (three place form) (four place form) rule

-- what fails at one of the items
abbrev pub Somewhere : (ℕ → Failing) → Failing
Somewhere F l r = (k : ℕ) × F k l r
