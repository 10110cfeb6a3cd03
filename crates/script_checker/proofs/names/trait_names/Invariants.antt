use Rattle.std.proofs.Common.{◌≡◌, ◌++◌, drop, map}
use Rattle.script_checker.proofs.names.trait_names.Given as goal

abbrev pub invariant-each : goal.invariant-each
invariant-each l = l.names ++ map (λ s. s.name) (drop l.row-index l.traits) ≡ map (λ s. s.name) l.traits
