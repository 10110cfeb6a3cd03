use Rattle.std.proofs.Common.{refl}
use Rattle.idl_syntax.specs.IdlCanonical.{write_part}
use Rattle.rl_text.specs.Canonical.{render, render_behind, render_line, has_gap}
use Rattle.block_domain.proofs.Spelled.{interface_read, sixty_four}
use Rattle.block_domain.proofs.texts.driver_idl.Goals as goal

pub returns : goal.returns
unfolding write_part render_line render render_behind has_gap
returns c = interface_read _ (rw sixty_four refl)
