-- Lines that are written are read again.
use Rattle.std.proofs.Common.{◌≡◌, ℕ, ◌+◌, inr, List, [], ◌∷◌, ◌++◌, Some, refl, sym, ap, subst, ◌∙◌}
use Rattle.std.specs.Prelude.{fold}
use Rattle.rl_defs.specs.declared.bundle.Numbered.{Numbered}
use Rattle.rl_defs.specs.declared.bundle.PlanLine.{PlanLine}
use Rattle.rl_defs.specs.declared.bundle.ClientLine.{ClientLine}
use Rattle.rl_defs.specs.Lines.{lines_of}
use Rattle.rl_defs.specs.Tokens.{Token}
use Rattle.rl_text.specs.Canonical.{render_line}
use Rattle.rl_defs.specs.Parts.{Grammar, StandFor, next_open, block_behind, forms_of}
use Rattle.rl_defs.specs.BundleForms.{spell_plan, spell_client}
use Rattle.rl_defs.specs.BundleParts.{plan_part, Anywhere, client_part}
use Rattle.rl_text.specs.Writable.{AreWritable, written_inside, renumbered}
use Rattle.rl_text.proofs.WrittenLines.{written_first, written_has}
use Rattle.bundle_syntax.specs.LinesCanonical.{write_lines}
use Rattle.bundle_syntax.specs.PlanCanonical as plan
use Rattle.bundle_syntax.specs.ClientCanonical as clients
use Rattle.bundle_syntax.specs.Writable.{PlanCanBeRead, IsPlanAgain, ClientsCanBeRead, IsReadAgain, NothingRefused}
use Rattle.bundle_syntax.proofs.PlanLaws.{plan_forms}
use Rattle.bundle_syntax.proofs.ClientLaws.{client_forms}
use Rattle.bundle_syntax.proofs.OrderLaws.{ordered_nowhere}

-- each line is one where it is written
abbrev AreRead : {Form Block : Type 0} → Grammar Form Block → (Form → ℕ) → (Form → List Token) → List (Numbered Form) → Type 0
AreRead G depth spell [] = Unit {0}
AreRead G depth spell (l ∷ ls) = (AreWritable (spell l.form) × G.is_line l.form (written_inside (depth l.form) (spell l.form))) × AreRead G depth spell ls

lines_again : {Form Block : Type 0} (G : Grammar Form Block) (depth : Form → ℕ) (spell : Form → List Token) (lines : List (Numbered Form)) → AreRead G depth spell lines → (first : ℕ) → StandFor G first (lines_of (write_lines depth spell lines)) (renumbered first lines)
unfolding write_lines
lines_again G depth spell [] h first = refl
lines_again {Form} G depth spell (l ∷ ls) h first =
    let tokens : List Token = spell l.form in
    let more : List ℕ = write_lines depth spell ls in
    let e : lines_of (render_line (depth l.form) tokens ++ more) ≡ written_inside (depth l.form) tokens ∷ lines_of more = written_first (depth l.form) tokens more h.0.0 in
    subst (λ (texts : List (List ℕ)). StandFor G first texts (renumbered first (l ∷ ls))) (sym e) (inr (l.form, renumbered (first + 1) ls, refl, h.0.1, lines_again G depth spell ls h.1 (first + 1)))

same_forms : {Form : Type 0} (first : ℕ) (lines : List (Numbered Form)) → forms_of (renumbered first lines) ≡ forms_of lines
same_forms first [] = refl
same_forms {Form} first (l ∷ ls) = ap (λ (x : List Form). l.form ∷ x) (same_forms (first + 1) ls)

-- ---- the plan

plan_read : (lines : List (Numbered PlanLine)) → PlanCanBeRead lines → AreRead plan_part plan.depth_of spell_plan lines
plan_read [] h = tt
plan_read (l ∷ ls) h = ((h.0.1.0, record { tokens = written_has (plan.depth_of l.form) (spell_plan l.form) h.0.1.0 h.0.1.1; whole = h.0.0 }), plan_read ls h.1)

any_order : (forms : List PlanLine) → fold (next_open plan_part) (Some Anywhere) forms ≡ Some Anywhere
any_order [] = refl
any_order (form ∷ forms) = any_order forms

pub plan_again : (lines : List (Numbered PlanLine)) (text : List ℕ) → text ≡ plan.write_plan lines → IsPlanAgain lines text
plan_again lines text is h first =
    let stand = subst (λ (t : List ℕ). StandFor plan_part first (lines_of t) (renumbered first lines)) (sym is) (lines_again plan_part plan.depth_of spell_plan lines (plan_read lines h) first) in
    (ordered_nowhere plan_part plan_forms first (lines_of text) (renumbered first lines) stand (any_order (forms_of (renumbered first lines))), stand)

-- ---- the clients

clients_read : (lines : List (Numbered ClientLine)) → ClientsCanBeRead lines → AreRead client_part clients.depth_of spell_client lines
clients_read [] h = tt
clients_read (l ∷ ls) h = ((h.0.0, written_has (clients.depth_of l.form) (spell_client l.form) h.0.0 h.0.1), clients_read ls h.1)

pub clients_again : (lines : List (Numbered ClientLine)) (text : List ℕ) → text ≡ clients.write_clients lines → IsReadAgain lines text
clients_again lines text is h first = subst (λ (t : List ℕ). StandFor client_part first (lines_of t) (renumbered first lines)) (sym is) (lines_again client_part clients.depth_of spell_client lines (clients_read lines h) first)

pub clients_accepted : (lines : List (Numbered ClientLine)) (text : List ℕ) → text ≡ clients.write_clients lines → NothingRefused lines text
clients_accepted lines text is h order first =
    ordered_nowhere client_part client_forms first (lines_of text) (renumbered first lines) (clients_again lines text is h first) (ap (block_behind client_part) (same_forms first lines) ∙ order)
