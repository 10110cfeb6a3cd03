use Rattle.std.proofs.Common.{◌∙◌, ap, false, unwrap_or}
use Rattle.rl_defs.specs.Domains.{row}
use Rattle.proxies.specs.Table.{Table}
use Rattle.proxies.proofs.Found.{serial_is}
use Rattle.proxies.proofs.table.Proxies.is_serial.Goals as goal

pub returns : goal.returns
returns c = rw (c.unwrap_or.ensures, c.serial_at.ensures) (ap (λ (p : Table). unwrap_or (row p.serial c.args.k) false) c.requires ∙ serial_is c.args.load.now c.args.k)
