-- What is written is read again.
use Rattle.std.specs.Prelude.{◌≡◌, ℕ, ◌≤◌, Some, List, [], ◌∷◌, length}
use Rattle.rl_defs.specs.declared.bundle.Numbered.{Numbered}
use Rattle.rl_defs.specs.declared.bundle.PlanLine.{PlanLine}
use Rattle.rl_defs.specs.declared.bundle.ClientLine.{ClientLine}
use Rattle.rl_defs.specs.Tokens.{Token}
use Rattle.rl_defs.specs.Lines.{lines_of}
use Rattle.rl_defs.specs.Refusals.{Nowhere}
use Rattle.rl_defs.specs.Parts.{StandFor, block_behind, forms_of}
use Rattle.rl_defs.specs.BundleForms.{IsPlanForm, spell_plan, spell_client}
use Rattle.rl_defs.specs.BundleParts.{plan_part, FailsPlan, Outside, client_part, FailsClients}
use Rattle.rl_text.specs.Writable.{AreWritable, written_inside, renumbered}
use Rattle.bundle_syntax.specs.PlanCanonical as plan
use Rattle.bundle_syntax.specs.ClientCanonical as clients

-- a line's names are names, its numbers fit 64 bits, its texts have bytes of a text, and it is no longer than a line may be
abbrev pub Fits : ℕ → List Token → Type 0
Fits depth tokens = AreWritable tokens × (length (written_inside depth tokens) ≤ 2048)

-- each line can be read where it is written
abbrev pub PlanCanBeRead : List (Numbered PlanLine) → Type 0
PlanCanBeRead [] = Unit {0}
PlanCanBeRead (l ∷ ls) = (IsPlanForm l.form × Fits (plan.depth_of l.form) (spell_plan l.form)) × PlanCanBeRead ls

-- A text that was written for a plan is a plan that no rule refuses, with the same lines, but for their numbers.
abbrev pub IsPlanAgain : List (Numbered PlanLine) → List ℕ → Type 0
IsPlanAgain lines text =
    PlanCanBeRead lines → (first : ℕ) → Nowhere (FailsPlan first (lines_of text)) × StandFor plan_part first (lines_of text) (renumbered first lines)

-- each line can be read where it is written
abbrev pub ClientsCanBeRead : List (Numbered ClientLine) → Type 0
ClientsCanBeRead [] = Unit {0}
ClientsCanBeRead (l ∷ ls) = Fits (clients.depth_of l.form) (spell_client l.form) × ClientsCanBeRead ls

-- A text that was written for lines of the clients stands for the same lines, but for their numbers.
abbrev pub IsReadAgain : List (Numbered ClientLine) → List ℕ → Type 0
IsReadAgain lines text = ClientsCanBeRead lines → (first : ℕ) → StandFor client_part first (lines_of text) (renumbered first lines)

-- Where the lines stand in an order in which they may stand, and each client is closed, no rule refuses the text.
abbrev pub NothingRefused : List (Numbered ClientLine) → List ℕ → Type 0
NothingRefused lines text =
    ClientsCanBeRead lines → block_behind client_part (forms_of lines) ≡ Some Outside → (first : ℕ) → Nowhere (FailsClients first (lines_of text))
