use Rattle.rl_defs.specs.Tokens.{is_line_byte}
use Rattle.rl_text.proofs.Runs.{whole_passes}
use Rattle.rl_text.proofs.scan.are_line_bytes.Goals as goal

pub returns : goal.returns
returns c = rw c.line_len.ensures (whole_passes is_line_byte c.args.line.now)
