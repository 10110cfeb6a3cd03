-- The lines of the plan, as readings of their tokens.
use Rattle.std.proofs.Common.{◌≡◌, ℕ, List, [], Option, None, Some, refl, subst}
use Rattle.rl_defs.specs.declared.bundle.PlanLine.{PlanLine}
use Rattle.rl_defs.specs.Tokens.{Token, HasTokens}
use Rattle.rl_defs.specs.BundleForms.{spell_plan, IsPlanLine}
use Rattle.rl_defs.specs.BundleParts.{plan_part}
use Rattle.rl_text.specs.Reading.{name_at}
use Rattle.rl_text.specs.Forms.{IsReading}
use Rattle.rl_text.proofs.PartRules.{AreForms, forms_read}
use Rattle.bundle_syntax.specs.PlanLines.{line_at, form_at}
use Rattle.bundle_syntax.proofs.PlanTakes.{line_takes}
use Rattle.bundle_syntax.proofs.PlanAgain.{line_again}

abbrev pub read : List ℕ → List Token → Option PlanLine
read text ts = line_at ts

is_line : (text : List ℕ) (ts : List Token) (form : PlanLine) → HasTokens ts text → line_at ts ≡ Some form → IsPlanLine form text
is_line text ts form h e =
    let x = line_takes ts form e in
    record { tokens = subst (λ (t : List Token). HasTokens t text) x.0 h; whole = x.1 }

nothing : line_at [] ≡ None
unfolding line_at form_at name_at
nothing = refl

pub reading : IsReading IsPlanLine read
reading = record {
  takes = is_line;
  finds = λ text form f. record { tokens = spell_plan form; has = f.tokens; found = line_again form f.whole };
  nothing = λ text. nothing;
}

pub plan_forms : AreForms plan_part
plan_forms = forms_read plan_part read reading
