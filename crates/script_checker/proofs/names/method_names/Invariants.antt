use Rattle.std.proofs.Common.{◌≡◌, ◌++◌, drop, map}
use Rattle.script_checker.proofs.names.method_names.Given as goal

abbrev pub invariant-each : goal.invariant-each
invariant-each l = l.all ++ map (λ t. map (λ m. m.name) t.methods) (drop l.row-index l.traits) ≡ map (λ t. map (λ m. m.name) t.methods) l.traits
