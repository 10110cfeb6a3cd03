-- Writing lines, one behind the other.
use Rattle.std.proofs.Common.{◌≡◌, ℕ, ◌+◌, ◌<◌, ◌≤◌, true, List, ◌∷◌, ◌++◌, length, drop, get_or, refl, sym, ap, ◌∙◌, append_assoc, append-nil}
use Rattle.std.proofs.lemmas.List.{at_drop_more, drop_all}
use Rattle.rl_defs.specs.declared.bundle.Numbered.{Numbered}
use Rattle.rl_defs.specs.Words.{is_name}
use Rattle.rl_defs.specs.Tokens.{Token}
use Rattle.rl_text.specs.Canonical.{render_line}
use Rattle.bundle_syntax.specs.declared.plan.form.Verb as plan
use Rattle.bundle_syntax.specs.declared.plan.form.Verb.TheVariants as plans
use Rattle.bundle_syntax.specs.declared.clients.form.Verb as client
use Rattle.bundle_syntax.specs.declared.clients.form.Verb.TheVariants as clients
use Rattle.bundle_syntax.specs.PlanVerbs as of_plan
use Rattle.bundle_syntax.specs.ClientVerbs as of_clients
use Rattle.bundle_syntax.specs.LinesCanonical.{write_lines}

-- the words that lines begin with are names
pub plan_verb : (v : plan.Verb) → is_name (of_plan.verb_text v) ≡ true
plan_verb plans.Load = refl
plan_verb plans.Bind = refl
plan_verb plans.Shadow = refl
plan_verb plans.Device = refl
plan_verb plans.Serial = refl
plan_verb plans.Fuel = refl
plan_verb plans.Order = refl

pub client_verb : (v : client.Verb) → is_name (of_clients.verb_text v) ≡ true
client_verb clients.Client = refl
client_verb clients.Let = refl
client_verb clients.Text = refl
client_verb clients.Show = refl
client_verb clients.Drop = refl
client_verb clients.Kill = refl

pub lines_step : {Form : Type 0} (depth : Form → ℕ) (spell : Form → List Token) (xs : List (Numbered Form)) (i : ℕ) (x : Numbered Form) (before out new : List ℕ) → i < length xs → x ≡ get_or xs i x → before ≡ out ++ write_lines depth spell (drop i xs) → new ≡ out ++ render_line (depth x.form) (spell x.form) → before ≡ new ++ write_lines depth spell (drop (i + 1) xs)
unfolding write_lines
lines_step {Form} depth spell xs i x before out new lt is so_far new-is =
    let here : List ℕ = render_line (depth x.form) (spell x.form) in
    let more : List ℕ = write_lines depth spell (drop (i + 1) xs) in
    let one : write_lines depth spell (drop i xs) ≡ here ++ more = at_drop_more (write_lines depth spell) xs i x lt ∙ ap (λ (y : Numbered Form). write_lines depth spell (y ∷ drop (i + 1) xs)) (sym is) in
    so_far ∙ ap (λ (t : List ℕ). out ++ t) one ∙ sym (append_assoc out here more) ∙ ap (λ (t : List ℕ). t ++ more) (sym new-is)

pub lines_all : {Form : Type 0} (depth : Form → ℕ) (spell : Form → List Token) (xs : List (Numbered Form)) (i : ℕ) (before out : List ℕ) → length xs ≤ i → before ≡ out ++ write_lines depth spell (drop i xs) → out ≡ before
unfolding write_lines
lines_all {Form} depth spell xs i before out le so_far = sym (so_far ∙ ap (λ (t : List (Numbered Form)). out ++ write_lines depth spell t) (drop_all i xs le) ∙ append-nil out)
