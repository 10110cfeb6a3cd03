use Rattle.std.proofs.Common.{◌≡◌, ◌++◌, drop, map}
use Rattle.rl_defs.specs.Interfaces.{place_of}
use Rattle.rl_defs.specs.BundleNames.{given_by, names_of, load_given, domains_loaded}
use Rattle.script_checker.specs.Scopes.{number_at}
use Rattle.script_checker.proofs.targets.loads_among.Given as goal

abbrev pub invariant-each : goal.invariant-each
invariant-each l = record {
  names_more : l.loads.names ++ names_of (given_by load_given (drop l.line-index l.lines)) ≡ names_of (given_by load_given l.lines);
  traits_more : l.loads.traits ++ map (λ d. number_at l.domains.traits (place_of d l.domains.names)) (names_of (given_by domains_loaded (drop l.line-index l.lines))) ≡ map (λ d. number_at l.domains.traits (place_of d l.domains.names)) (names_of (given_by domains_loaded l.lines));
}
