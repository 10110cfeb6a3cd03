-- What fails at lines one after the other.
use Rattle.std.specs.Prelude.{◌≡◌, ℕ, ◌+◌, ◌<◌, ◌≤◌, ◌⊎◌, Bool, true, List, length, take, Option, Some, None, slice_get, if◌then◌else◌}
use Rattle.rl_defs.specs.declared.bundle.Numbered.{Numbered}
use Rattle.rl_defs.specs.BundleNames.{given_by}

-- the lines are numbered upwards
abbrev pub LinesRise : {Form : Type 0} → List (Numbered Form) → Type 0
LinesRise {Form} lines = (j k : ℕ) (x y : Numbered Form) → j < k → slice_get lines j ≡ Some x → slice_get lines k ≡ Some y → x.line < y.line

-- the line of this number is among these, and the rule fails at its place and form
pub record FailsIn {Form : Type 0} (lines : List (Numbered Form)) (FailsAt : ℕ → Form → ℕ → Type 0) (n rule : ℕ) : Type 0 where
  pub place : ℕ
  pub form : Form
  pub here : slice_get lines place ≡ Some (record { line = n; form = form })
  pub fails : FailsAt place form rule

-- no rule fails at the lines before a place
pub record NoneBefore {Form : Type 0} (lines : List (Numbered Form)) (FailsAt : ℕ → Form → ℕ → Type 0) (end : ℕ) : Type 0 where
  pub none : (k : ℕ) (l : Numbered Form) (rule : ℕ) → k < end → slice_get lines k ≡ Some l → FailsAt k l.form rule → ⊥

-- how many names the lines before a place give
abbrev pub given_before : {Form : Type 0} → (Form → List (List ℕ)) → List (Numbered Form) → ℕ → ℕ
given_before names lines place = length (given_by names (take place lines))

-- the lowest of the rules that fail, none where no rule does
abbrev pub IsLowest : (ℕ → Type 0) → Option ℕ → Type 0
IsLowest Fails None = (rule : ℕ) → Fails rule → ⊥
IsLowest Fails (Some low) = Fails low × ((rule : ℕ) → Fails rule → low ≤ rule)

-- of two rules of a line those that fail, each by its test
abbrev pub FailsOneOf : Bool → ℕ → Bool → ℕ → ℕ → Type 0
FailsOneOf first low second high rule = ((rule ≡ low) × (first ≡ true)) ⊎ ((rule ≡ high) × (second ≡ true))

abbrev pub lowest_of : Bool → ℕ → Bool → ℕ → Option ℕ
lowest_of first low second high = if first then Some low else (if second then Some high else None)

-- a count has grown by one at most
abbrev pub IsSmallStep : ℕ → ℕ → Type 0
IsSmallStep before after = after ≤ before + 1
