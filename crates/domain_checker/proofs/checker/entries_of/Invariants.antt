use Rattle.std.proofs.Common.{◌≡◌, ◌++◌, drop, map}
use Rattle.rl_defs.specs.Domains.{body_of_function}
use Rattle.domain_checker.proofs.checker.entries_of.Given as goal

abbrev pub invariant-methods : goal.invariant-methods
invariant-methods l = l.entries.items ++ map (λ m. body_of_function l.scope.lines m.name) (drop l.method-index l.methods) ≡ map (λ m. body_of_function l.scope.lines m.name) l.methods
