-- The first failing pair of a line and a rule, and what a phase of the checks answers.
use Rattle.std.specs.Prelude.{◌≡◌, ℕ, ◌<◌, ◌≤◌, ◌⊎◌, Result, Ok, Err, List, Some, slice_get}
use Rattle.rl_defs.specs.declared.bundle.Numbered.{Numbered}
use Rattle.rl_defs.specs.declared.LoadFault.{LoadFault}
use Rattle.rl_defs.specs.declared.LoadFault.TheVariants.{Refused, Memory}

-- which rules fail at which lines
abbrev pub Failing : Type 1
Failing = ℕ → ℕ → Type 0

-- the line of this number is among these lines, and has this form
pub record HasLine {Form : Type 0} (lines : List (Numbered Form)) (n : ℕ) (form : Form) : Type 0 where
  pub place : ℕ
  pub here : slice_get lines place ≡ Some (record { line = n; form = form })

-- the line is earlier, or it is the same line and the rule is not greater
abbrev pub NotAfter : ℕ → ℕ → ℕ → ℕ → Type 0
NotAfter line rule l r = (line < l) ⊎ ((line ≡ l) × (rule ≤ r))

-- The rule fails at the line; no rule fails at an earlier line, and no lower one at this line.
pub record IsFirst (F : Failing) (line rule : ℕ) : Type 0 where
  pub fails : F line rule
  pub first : (l r : ℕ) → F l r → NotAfter line rule l r

-- no rule fails at any line
abbrev pub Nowhere : Failing → Type 0
Nowhere F = (l r : ℕ) → F l r → ⊥

-- What a phase answers: nothing fails and the value is one that the text stands for, or the first failing pair. Want of memory is free.
abbrev pub Answers : {X : Type 0} → Failing → (X → Type 0) → Result X LoadFault → Type 0
Answers F StandsFor (Ok x) = Nowhere F × StandsFor x
Answers F StandsFor (Err (Refused at)) = IsFirst F at.line at.rule
Answers F StandsFor (Err Memory) = Unit {0}

-- A later phase speaks only of a value of the earlier one, where nothing of the earlier one fails.
abbrev pub Then : {X : Type 0} → Failing → (X → Type 0) → (X → Failing) → Failing
Then {X} F StandsFor G l r = F l r ⊎ (Nowhere F × ((x : X) × StandsFor x × G x l r))
