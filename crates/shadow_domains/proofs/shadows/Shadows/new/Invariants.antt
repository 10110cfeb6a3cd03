use Rattle.std.proofs.Common.{◌≡◌, ◌++◌, drop, map}
use Rattle.machine_defs.specs.State.{first_shadow}
use Rattle.shadow_domains.proofs.shadows.Shadows.new.Given as goal

abbrev pub invariant-shadows : goal.invariant-shadows
invariant-shadows l = l.rows.items ++ map first_shadow (drop l.row-index l.load.shadows) ≡ map first_shadow l.load.shadows
