use Rattle.std.proofs.Common.{refl, arith}
use Rattle.std.proofs.lemmas.Fmt.{decimal_digit}
use Rattle.domain_code.specs.DomainCanonical.{write_lines}
use Rattle.rl_text.specs.Canonical.{render, render_behind, render_line, has_gap}
use Rattle.block_domain.proofs.Spelled.{driver_read}
use Rattle.block_domain.proofs.texts.driver_text.Goals as goal

pub returns : goal.returns
unfolding write_lines render_line render render_behind has_gap
returns c = driver_read _ (rw (decimal_digit 0 (omega arith), decimal_digit 1 (omega arith)) refl)
