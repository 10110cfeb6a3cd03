-- The row of a line, in a checked domain that is seen as its lines and tables.
use Rattle.std.proofs.Common.{◌≡◌, sym, subst, ℕ, ◌<◌, List, length}
use Rattle.std.proofs.Math.ListN.{get_or}
use Rattle.std.proofs.lemmas.Option.{slice_get_read}
use Rattle.rl_defs.specs.declared.code.Register.{Register}
use Rattle.rl_defs.specs.declared.checked.LineRow.{LineRow}
use Rattle.rl_defs.specs.DomainValue.{Domain}
use Rattle.rl_defs.specs.Checked.{IsChecked, IsRow}

pub row_of : (d e : Domain) (rows : List LineRow) (pool : List Register) (entries : List ℕ) → d ≡ e → IsChecked d rows pool entries → (n : ℕ) (row : LineRow) → n < length e.lines → row ≡ get_or rows n row → IsRow e pool n row
row_of d e rows pool entries is checked n row within read =
    subst (λ x. IsRow x pool n row) is
    (checked.each n row (slice_get_read rows (length d.lines) n row (sym checked.one_each) (subst (λ x. n < length x.lines) (sym is) within) read))
