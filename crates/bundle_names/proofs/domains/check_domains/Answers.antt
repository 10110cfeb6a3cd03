use Rattle.std.proofs.Common.{◌≤◌, List, length, sym, subst}
use Rattle.rl_defs.specs.declared.code.DomainText.{DomainText}
use Rattle.rl_defs.specs.Refusals.{Answers}
use Rattle.rl_defs.specs.Interfaces.{Lines as IdlLines}
use Rattle.bundle_names.specs.Scopes.{Somewhere}
use Rattle.bundle_names.specs.DomainNames.{all_lines, NumbersRise, FailsAtDomain, Knows}
use Rattle.bundle_names.proofs.DomainsScan.{few_domains, domains_numbered, whole_answer}
use Rattle.bundle_names.proofs.domains.check_domains.Goals as goal

pub first_fault-requires-clause-few : goal.first_fault-requires-clause-few
first_fault-requires-clause-few c = subst (λ (ds : List DomainText). length (all_lines ds) ≤ 1048576) (sym c.as_slice-2.ensures) (few_domains c.args.bundle.now c.requires)

pub first_fault-requires-clause-rises : goal.first_fault-requires-clause-rises
first_fault-requires-clause-rises c = subst (λ (ds : List DomainText). NumbersRise ds) (sym c.as_slice-2.ensures) (domains_numbered c.args.bundle.now c.requires)

pub returns : goal.returns
returns c = whole_answer c.args.bundle.now c.in_ok-known.known c.first_fault.result c.requires (subst (λ (ls : IdlLines). Knows ls c.in_ok-known.known) c.as_slice.ensures c.in_ok-known.ensures) (subst (λ (ds : List DomainText). Answers {X = Unit {0}} (Somewhere (FailsAtDomain c.in_ok-known.known ds)) (λ _. Unit {0}) c.first_fault.result) c.as_slice-2.ensures c.first_fault.ensures)
