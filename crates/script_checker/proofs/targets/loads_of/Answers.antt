use Rattle.std.proofs.Common.{◌≡◌, ℕ, List, map, ap, subst, ◌∙◌}
use Rattle.std.specs.Prelude.{IfOk}
use Rattle.rl_defs.specs.Interfaces.{place_of}
use Rattle.rl_defs.specs.DomainValue.{Domain}
use Rattle.rl_defs.specs.Domains.{trait_name}
use Rattle.rl_defs.specs.BundleNames.{given_by, names_of, domain_given, domains_loaded}
use Rattle.rl_defs.specs.BundleOrder.{text_of}
use Rattle.script_checker.specs.declared.targets.Targets.{Targets}
use Rattle.script_checker.specs.Scopes.{number_at, number_of, all_lines}
use Rattle.script_checker.proofs.targets.loads_of.Goals as goal

pub returns-clause-traits : goal.returns-clause-traits
returns-clause-traits c =
    subst (λ (ts : List ℕ). IfOk c.loads_among.result (λ (t : Targets). t.traits ≡ map (λ d. number_at ts (place_of d (names_of (given_by domain_given (all_lines (map text_of c.args.domains.now)))))) (names_of (given_by domains_loaded c.args.plan.now.lines)))) (c.in_ok-domains.ensures.traits ∙ ap (λ (ds : List Domain). map (λ d. number_of (trait_name d.lines) c.args.traits.now) (map text_of ds)) c.as_slice.ensures)
    (subst (λ (ns : List (List ℕ)). IfOk c.loads_among.result (λ (t : Targets). t.traits ≡ map (λ d. number_at c.in_ok-domains.domains.traits (place_of d ns)) (names_of (given_by domains_loaded c.args.plan.now.lines)))) (c.in_ok-domains.ensures.names ∙ ap (λ (ds : List Domain). names_of (given_by domain_given (all_lines (map text_of ds)))) c.as_slice.ensures)
    c.loads_among.ensures.traits)
