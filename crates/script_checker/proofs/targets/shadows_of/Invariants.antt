use Rattle.std.proofs.Common.{◌≡◌, ◌++◌, drop, map}
use Rattle.rl_defs.specs.Interfaces.{place_of}
use Rattle.rl_defs.specs.BundleNames.{given_by, names_of, shadow_given, shadowed as shadows_loaded}
use Rattle.script_checker.specs.Scopes.{number_at}
use Rattle.script_checker.proofs.targets.shadows_of.Given as goal

abbrev pub invariant-each : goal.invariant-each
invariant-each l = record {
  names_more : l.shadows.names ++ names_of (given_by shadow_given (drop l.line-index l.lines)) ≡ names_of (given_by shadow_given l.lines);
  traits_more : l.shadows.traits ++ map (λ d. number_at l.loads.traits (place_of d l.loads.names)) (names_of (given_by shadows_loaded (drop l.line-index l.lines))) ≡ map (λ d. number_at l.loads.traits (place_of d l.loads.names)) (names_of (given_by shadows_loaded l.lines));
}
