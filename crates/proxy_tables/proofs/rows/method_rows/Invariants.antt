use Rattle.std.proofs.Common.{◌-◌, length, drop, false}
use Rattle.rl_defs.specs.Interfaces.{methods_of}
use Rattle.proxy_tables.specs.Built.{MethodsTo}
use Rattle.proxy_tables.proofs.rows.method_rows.Given as goal

abbrev pub invariant-methods : goal.invariant-methods
invariant-methods l = MethodsTo l.part.lines.now (methods_of (drop l.fn.start l.part.lines.now) false) l.rows l.at l.marked

abbrev pub decreases-methods : goal.decreases-methods
decreases-methods l = length l.part.lines.now - l.at
