-- A part that is written is read again.
use Rattle.std.proofs.Common.{◌≡◌, ℕ, ◌+◌, inr, List, [], ◌∷◌, ◌++◌, refl, sym, subst}
use Rattle.rl_defs.specs.declared.bundle.Numbered.{Numbered}
use Rattle.rl_defs.specs.declared.idl.IdlLine.{IdlLine}
use Rattle.rl_defs.specs.Lines.{lines_of}
use Rattle.rl_defs.specs.Tokens.{Token}
use Rattle.rl_text.specs.Canonical.{render_line}
use Rattle.rl_defs.specs.IdlForms.{spell_line, IsIdlLine}
use Rattle.idl_syntax.specs.IdlCanonical.{canonical, depth_of, write_part}
use Rattle.rl_defs.specs.Parts.{StandFor}
use Rattle.rl_defs.specs.IdlParts.{interface_part}
use Rattle.rl_text.specs.Writable.{renumbered}
use Rattle.rl_text.proofs.WrittenLines.{written_first, written_has}
use Rattle.idl_syntax.specs.Writable.{written, CanBeRead, IsPartReadAgain}

pub part_again : (lines : List (Numbered IdlLine)) → CanBeRead lines → (first : ℕ) → StandFor interface_part first (lines_of (write_part lines)) (renumbered first lines)
unfolding write_part
part_again [] h first = refl
part_again (line ∷ lines) h first =
    let form : IdlLine = line.form in
    let tokens : List Token = spell_line canonical form in
    let is : IsIdlLine form (written form) = record { choice = canonical; tokens = written_has (depth_of form) tokens h.0.1 h.0.2; whole = h.0.0 } in
    let e : lines_of (render_line (depth_of form) tokens ++ write_part lines) ≡ written form ∷ lines_of (write_part lines) = written_first (depth_of form) tokens (write_part lines) h.0.1 in
    subst (λ (texts : List (List ℕ)). StandFor interface_part first texts (renumbered first (line ∷ lines))) (sym e) (inr (form, renumbered (first + 1) lines, refl, is, part_again lines h.1 (first + 1)))

pub part_read_again : (lines : List (Numbered IdlLine)) (text : List ℕ) → text ≡ write_part lines → IsPartReadAgain lines text
part_read_again lines text is h first = subst (λ (t : List ℕ). StandFor interface_part first (lines_of t) (renumbered first lines)) (sym is) (part_again lines h first)
