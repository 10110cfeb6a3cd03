-- The rows of the table of commands.
use Rattle.std.proofs.Common.{◌≡◌, ◌≢◌, ℕ, ◌/◌, ◌%◌, [], ◌∷◌, refl, eq-eqb, ne_eqb}
use Rattle.storm_maker.specs.StormText.{kill_line, let_line, pass_line, size_line, read_line, spin_line, drop_line, draw_lines}

pub kill_row : (j d : ℕ) → d % 64 ≡ 63 → draw_lines j d ≡ kill_line ∷ []
unfolding draw_lines
kill_row j d e = rw (eq-eqb (d % 64) 63 e) refl

pub round_row : (j d : ℕ) → d % 64 ≢ 63 → d % 4 ≡ 0 → draw_lines j d ≡ let_line j (d / 64 % 64) ∷ pass_line j ∷ drop_line j ∷ []
unfolding draw_lines
round_row j d n e = rw (ne_eqb (d % 64) 63 n, eq-eqb (d % 4) 0 e) refl

pub size_row : (j d : ℕ) → d % 64 ≢ 63 → d % 4 ≡ 1 → draw_lines j d ≡ size_line ∷ []
unfolding draw_lines
size_row j d n e = rw (ne_eqb (d % 64) 63 n, e) refl

pub look_row : (j d : ℕ) → d % 64 ≢ 63 → d % 4 ≡ 2 → draw_lines j d ≡ read_line j (d / 64 % 64) ∷ drop_line j ∷ []
unfolding draw_lines
look_row j d n e = rw (ne_eqb (d % 64) 63 n, e) refl

pub spin_row : (j d : ℕ) → d % 64 ≢ 63 → d % 4 ≡ 3 → draw_lines j d ≡ spin_line ∷ []
unfolding draw_lines
spin_row j d n e = rw (ne_eqb (d % 64) 63 n, e) refl
