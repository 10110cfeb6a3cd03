use Rattle.std.proofs.Common.{◌≡◌, ◌++◌, Some, length, refl, ap, ◌∙◌, arith}
use Rattle.std.specs.Prelude.{slice_get}
use Rattle.std.specs.List.{flat_map}
use Rattle.std.proofs.lemmas.Option.{slice_get_read}
use Rattle.rl_defs.specs.Domains.{Lines}
use Rattle.rl_defs.specs.BundleNames.{given_by, names_of, domain_given}
use Rattle.bundle_names.proofs.Listing.{domains_more, domains_all}
use Rattle.bundle_names.proofs.known.domain_names.Goals as goal

pub domains-preserved : goal.domains-preserved
domains-preserved c =
    let here : slice_get c.args.domains.now c.domains.domain-index ≡ Some c.domain-item.result = slice_get_read c.args.domains.now (length c.args.domains.now) c.domains.domain-index c.domain-item.result refl c.domains-test.true c.domain-item.is in
    domains_more c.args.domains.now c.domains.domain-index c.domain-item.result (names_of (given_by domain_given (flat_map (λ d. d.lines) c.args.domains.now))) c.domains.names c.add_domains.new.names here c.domains.invariant (c.in_ok-add_domains.ensures ∙ ap (λ (ls : Lines). c.domains.names ++ names_of (given_by domain_given ls)) c.as_slice.ensures)

pub returns : goal.returns
returns c = domains_all c.args.domains.now c.domains.domain-index (names_of (given_by domain_given (flat_map (λ d. d.lines) c.args.domains.now))) c.domains.names (omega arith) c.domains.invariant
