use Rattle.std.proofs.Common.{◌≡◌, ◌++◌, drop, take}
use Rattle.rl_defs.specs.BundleNames.{commands_at}
use Rattle.script_checker.proofs.clients.commands_at.Given as goal

abbrev pub invariant-each : goal.invariant-each
invariant-each l = take l.place l.lines ++ commands_at (drop l.place l.lines) ≡ commands_at l.lines
