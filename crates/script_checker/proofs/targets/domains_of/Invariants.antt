use Rattle.std.proofs.Common.{◌≡◌, ◌++◌, drop, map}
use Rattle.rl_defs.specs.Domains.{trait_name}
use Rattle.rl_defs.specs.BundleNames.{given_by, names_of, domain_given}
use Rattle.rl_defs.specs.BundleOrder.{text_of}
use Rattle.script_checker.specs.Scopes.{number_of, all_lines}
use Rattle.script_checker.proofs.targets.domains_of.Given as goal

abbrev pub invariant-each : goal.invariant-each
invariant-each l = record {
  names_more : l.targets.names ++ names_of (given_by domain_given (all_lines (map text_of (drop l.domain-index l.domains)))) ≡ names_of (given_by domain_given (all_lines (map text_of l.domains)));
  traits_more : l.targets.traits ++ map (λ d. number_of (trait_name d.lines) l.traits) (map text_of (drop l.domain-index l.domains)) ≡ map (λ d. number_of (trait_name d.lines) l.traits) (map text_of l.domains);
}
