-- Writing parts one behind the other.
use Rattle.std.proofs.Common.{◌≡◌, ℕ, ◌+◌, ◌<◌, ◌≤◌, true, List, ◌∷◌, ◌++◌, length, drop, get_or, refl, sym, ap, ◌∙◌, append_assoc, append-nil}
use Rattle.std.specs.Prelude.{codes}
use Rattle.std.proofs.lemmas.List.{at_drop_more, drop_all}
use Rattle.rl_defs.specs.declared.bundle.Numbered.{Numbered}
use Rattle.rl_defs.specs.declared.idl.IdlLine.{IdlLine}
use Rattle.rl_defs.specs.Words.{is_name}
use Rattle.rl_text.specs.Canonical.{render_line}
use Rattle.rl_defs.specs.IdlForms.{spell_line}
use Rattle.idl_syntax.specs.IdlCanonical.{canonical, depth_of, write_part}

pub lines_step : (xs : List (Numbered IdlLine)) (i : ℕ) (x : Numbered IdlLine) (before out new : List ℕ) → i < length xs → x ≡ get_or xs i x → before ≡ out ++ write_part (drop i xs) → new ≡ out ++ render_line (depth_of x.form) (spell_line canonical x.form) → before ≡ new ++ write_part (drop (i + 1) xs)
unfolding write_part
lines_step xs i x before out new lt is so_far new-is =
    let here : List ℕ = render_line (depth_of x.form) (spell_line canonical x.form) in
    let more : List ℕ = write_part (drop (i + 1) xs) in
    let one : write_part (drop i xs) ≡ here ++ more = at_drop_more write_part xs i x lt ∙ ap (λ (y : Numbered IdlLine). write_part (y ∷ drop (i + 1) xs)) (sym is) in
    so_far ∙ ap (λ (t : List ℕ). out ++ t) one ∙ sym (append_assoc out here more) ∙ ap (λ (t : List ℕ). t ++ more) (sym new-is)

pub lines_all : (xs : List (Numbered IdlLine)) (i : ℕ) (before out : List ℕ) → length xs ≤ i → before ≡ out ++ write_part (drop i xs) → out ≡ before
unfolding write_part
lines_all xs i before out le so_far = sym (so_far ∙ ap (λ (t : List (Numbered IdlLine)). out ++ write_part t) (drop_all i xs le) ∙ append-nil out)

pub idempotent_name : is_name (codes "idempotent") ≡ true
idempotent_name = refl
