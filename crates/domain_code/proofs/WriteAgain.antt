-- A domain that is written is read again.
use Rattle.std.proofs.Common.{◌≡◌, ℕ, ◌+◌, inr, Bool, true, false, List, [], ◌∷◌, ◌++◌, refl, sym, ap, subst, ◌∙◌}
use Rattle.rl_defs.specs.declared.bundle.Numbered.{Numbered}
use Rattle.rl_defs.specs.declared.code.DomainLine.{DomainLine}
use Rattle.rl_defs.specs.declared.code.DomainText.{DomainText}
use Rattle.rl_defs.specs.Domains.{Lines}
use Rattle.rl_defs.specs.Lines.{lines_of}
use Rattle.rl_defs.specs.Tokens.{Token}
use Rattle.rl_text.specs.Canonical.{render_line}
use Rattle.rl_defs.specs.Parts.{StandFor, numbered, block_behind, forms_of}
use Rattle.rl_defs.specs.DomainForms.{spell_line, HasDecimals, PlaceIsDecimal, IsDomainLine}
use Rattle.rl_defs.specs.DomainParts.{domain_part, rest_of_domain, domains_of}
use Rattle.domain_code.specs.DomainCanonical.{depth_of, depth_behind, write_lines}
use Rattle.rl_text.specs.Writable.{renumbered}
use Rattle.rl_text.proofs.WrittenLines.{written_first, written_has, written_decimal}
use Rattle.domain_code.specs.Decimals.{names_place}
use Rattle.domain_code.specs.Writable.{written, CanBeRead, IsReadAgain, GoOn, BeginOnce, IsDomainAgain}
use Rattle.domain_code.proofs.DomainLaws.{domain_forms, PlaceRule, place_rule}
use Rattle.domain_code.proofs.OrderLaws.{ordered_nowhere}

decimal_place : (form : DomainLine) (text : List ℕ) (b : Bool) → PlaceRule form text b → HasDecimals text → PlaceIsDecimal form text
decimal_place form text true rule h = rule.bound refl h
decimal_place form text false rule h = rule.free refl

pub lines_again : (lines : Lines) (open_blocks : ℕ) → CanBeRead open_blocks lines → (first : ℕ) → StandFor domain_part first (lines_of (write_lines open_blocks lines)) (renumbered first lines)
unfolding write_lines
lines_again [] open_blocks h first = refl
lines_again (line ∷ lines) open_blocks h first =
    let form : DomainLine = line.form in
    let tokens : List Token = spell_line form in
    let depth : ℕ = depth_of open_blocks form in
    let text : List ℕ = written open_blocks form in
    let more : List ℕ = write_lines (depth_behind open_blocks form) lines in
    let is : IsDomainLine form text = record { tokens = written_has depth tokens h.0.0 h.0.1; decimal = decimal_place form text (names_place form) (place_rule form text) (written_decimal depth tokens h.0.0 h.0.1) } in
    let e : lines_of (render_line depth tokens ++ more) ≡ text ∷ lines_of more = written_first depth tokens more h.0.0 in
    subst (λ (texts : List (List ℕ)). StandFor domain_part first texts (renumbered first (line ∷ lines))) (sym e) (inr (form, renumbered (first + 1) lines, refl, is, lines_again lines (depth_behind open_blocks form) h.1 (first + 1)))

pub read_again : (lines : Lines) (text : List ℕ) → text ≡ write_lines 0 lines → IsReadAgain lines text
read_again lines text is h first = subst (λ (t : List ℕ). StandFor domain_part first (lines_of t) (renumbered first lines)) (sym is) (lines_again lines 0 h first)

-- ---- the lines of one domain

rest_goes_on : (first : ℕ) (lines : Lines) → GoOn lines → rest_of_domain (renumbered first lines) ≡ renumbered first lines
rest_goes_on first [] h = refl
rest_goes_on first (l ∷ ls) h = rw h.0 (ap (λ (x : Lines). numbered first l.form ∷ x) (rest_goes_on (first + 1) ls h.1))

none_more : (first : ℕ) (lines : Lines) → GoOn lines → domains_of (renumbered first lines) ≡ []
none_more first [] h = refl
none_more first (l ∷ ls) h = rw h.0 (none_more (first + 1) ls h.1)

abbrev of_lines : Lines → DomainText
of_lines lines = record { lines = lines }

pub one_domain : (first : ℕ) (lines : Lines) → BeginOnce lines → of_lines (renumbered first lines) ∷ [] ≡ domains_of (renumbered first lines)
one_domain first [] h = absurd h
one_domain first (l ∷ ls) h =
    let line : Numbered DomainLine = numbered first l.form in
    rw h.0 (sym (ap (λ (x : Lines). of_lines (line ∷ x) ∷ domains_of (renumbered (first + 1) ls)) (rest_goes_on (first + 1) ls h.1) ∙ ap (λ (ds : List DomainText). of_lines (line ∷ renumbered (first + 1) ls) ∷ ds) (none_more (first + 1) ls h.1)))

same_forms : (first : ℕ) (lines : Lines) → forms_of (renumbered first lines) ≡ forms_of lines
same_forms first [] = refl
same_forms first (l ∷ ls) = ap (λ (x : List DomainLine). l.form ∷ x) (same_forms (first + 1) ls)

pub domain_again : (lines : Lines) (text : List ℕ) → text ≡ write_lines 0 lines → IsDomainAgain lines text
domain_again lines text is h one first =
    let stand = read_again lines text is h first in (
      ordered_nowhere domain_part domain_forms first (lines_of text) (renumbered first lines) stand (ap (block_behind domain_part) (same_forms first lines) ∙ one.order),
      record { lines = renumbered first lines; stand = stand; cut = one_domain first lines one.once },
    )
