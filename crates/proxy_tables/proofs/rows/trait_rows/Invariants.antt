use Rattle.std.proofs.Common.{◌-◌, length}
use Rattle.proxy_tables.specs.Built.{TraitsTo}
use Rattle.proxy_tables.proofs.rows.trait_rows.Given as goal

abbrev pub invariant-traits : goal.invariant-traits
invariant-traits l = TraitsTo l.part.lines.now l.rows l.at

abbrev pub decreases-traits : goal.decreases-traits
decreases-traits l = length l.part.lines.now - l.at
