use Rattle.std.proofs.Common.{◌≡◌, ◌+◌, length, drop, map, Some, refl, ap, slice_get}
use Rattle.std.proofs.lemmas.Option.{slice_get_read}
use Rattle.rl_defs.specs.Domains.{Lines, trait_name}
use Rattle.rl_defs.specs.declared.code.DomainText.{DomainText}
use Rattle.rl_defs.specs.BundleNames.{given_by, names_of, domain_given}
use Rattle.rl_defs.specs.BundleOrder.{text_of}
use Rattle.rl_defs.proofs.Places.{drop_at}
use Rattle.script_checker.specs.Scopes.{number_of, all_lines}
use Rattle.script_checker.proofs.Gathering.{domains_more, numbers_more}
use Rattle.script_checker.proofs.targets.domains_of.Goals as goal

pub each-preserved : goal.each-preserved
each-preserved c =
    let here : slice_get c.args.domains.now c.each.domain-index ≡ Some c.domain-item.result = slice_get_read c.args.domains.now (length c.args.domains.now) c.each.domain-index c.domain-item.result refl c.each-test.true c.domain-item.is in
    record {
      names_more = domains_more c.each.targets.names c.put_domain.new.domains.names (names_of (given_by domain_given (all_lines (map text_of c.args.domains.now)))) c.lines.result.now c.domain-item.result (drop c.each.domain-index c.args.domains.now) (drop (c.each.domain-index + 1) c.args.domains.now) (drop_at c.args.domains.now c.each.domain-index c.domain-item.result here) c.each.invariant.names_more c.in_ok-put_domain.ensures.names c.lines.ensures.value;
      traits_more = numbers_more (λ (d : DomainText). number_of (trait_name d.lines) c.args.traits.now) c.each.targets.traits c.put_domain.new.domains.traits (map (λ (d : DomainText). number_of (trait_name d.lines) c.args.traits.now) (map text_of c.args.domains.now)) (number_of (trait_name c.lines.result.now) c.args.traits.now) c.domain-item.result (drop c.each.domain-index c.args.domains.now) (drop (c.each.domain-index + 1) c.args.domains.now) (drop_at c.args.domains.now c.each.domain-index c.domain-item.result here) c.each.invariant.traits_more c.in_ok-put_domain.ensures.traits (ap (λ (ls : Lines). number_of (trait_name ls) c.args.traits.now) c.lines.ensures.value);
    }
