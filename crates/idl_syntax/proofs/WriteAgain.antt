-- A line that is written is read again.
use Rattle.std.proofs.Common.{◌≡◌, ℕ, ◌≤◌, List, length, ap, arith}
use Rattle.rl_defs.specs.declared.idl.IdlLine.{IdlLine}
use Rattle.rl_text.specs.Canonical.{render}
use Rattle.rl_defs.specs.IdlForms.{spell_line}
use Rattle.idl_syntax.specs.IdlCanonical.{canonical, write_line}
use Rattle.idl_syntax.specs.Writable.{IsReadAgain}
use Rattle.rl_text.proofs.RenderSpells.{render_has}

pub line_again_read : (line : IdlLine) (text : List ℕ) → text ≡ write_line line → IsReadAgain line text
line_again_read line text is form names short =
    let le : length (render (spell_line canonical line)) ≤ 2048 = omega (arith, ap length is) in
    record { choice = canonical; tokens = rw is (render_has (spell_line canonical line) names le); whole = form }
