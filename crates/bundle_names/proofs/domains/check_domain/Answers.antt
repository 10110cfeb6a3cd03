use Rattle.std.proofs.Common.{◌≡◌, Some, length, refl, sym, subst, ap, arith, Err}
use Rattle.std.specs.Prelude.{slice_get}
use Rattle.std.proofs.lemmas.Option.{slice_get_read}
use Rattle.rl_defs.specs.Domains.{Lines}
use Rattle.rl_defs.specs.Refusals.{Answers, Nowhere}
use Rattle.rl_defs.specs.DomainParts.{LinesRise}
use Rattle.bundle_names.specs.DomainNames.{FailsIn}
use Rattle.bundle_names.proofs.DomainScan.{has_space, domain_goes, domain_finds, domain_ends}
use Rattle.bundle_names.proofs.domains.check_domain.Goals as goal

pub rule_of-requires : goal.rule_of-requires
rule_of-requires c = has_space c.args.known.now c.args.declared.now.domains c.as_slice-lines.result.now c.lines.line-index c.lines.declared c.lines.invariant (omega (arith, c.lines-test.true, c.requires.few, ap length c.as_slice-lines.ensures))

pub returns-in-Some-clause-answer : goal.returns-in-Some-clause-answer
returns-in-Some-clause-answer c =
    let here : slice_get c.as_slice-lines.result.now c.lines.line-index ≡ Some c.line-item.result = slice_get_read c.as_slice-lines.result.now (length c.as_slice-lines.result.now) c.lines.line-index c.line-item.result refl c.lines-test.true c.line-item.is in
    subst (λ (ls : Lines). Answers {X = Unit {0}} (FailsIn c.args.known.now c.args.declared.now.domains ls) (λ _. Unit {0}) (Err c.refused.result)) c.as_slice-lines.ensures (domain_finds c.args.known.now c.args.declared.now.domains c.as_slice-lines.result.now c.lines.line-index c.line-item.result c.lines.declared c.methods_of_domain-methods.result.now c.in_ok-rule.rule c.in-Some.rule c.refused.result (subst (λ (ls : Lines). LinesRise ls) (sym c.as_slice-lines.ensures) c.requires.rises) c.lines.invariant here c.methods_of_domain-methods.ensures c.in-Some.is c.in_ok-rule.ensures.rule c.refused.ensures)

pub lines-preserved : goal.lines-preserved
lines-preserved c =
    let here : slice_get c.as_slice-lines.result.now c.lines.line-index ≡ Some c.line-item.result = slice_get_read c.as_slice-lines.result.now (length c.as_slice-lines.result.now) c.lines.line-index c.line-item.result refl c.lines-test.true c.line-item.is in
    domain_goes c.args.known.now c.args.declared.now.domains c.as_slice-lines.result.now c.lines.line-index c.line-item.result c.lines.declared c.rule_of.new.self c.methods_of_domain-methods.result.now c.in_ok-rule.rule c.lines.invariant here c.methods_of_domain-methods.ensures c.in_default.is c.in_ok-rule.ensures.rule c.in_ok-rule.ensures.behind

pub returns-clause-answer : goal.returns-clause-answer
returns-clause-answer c = (subst (λ (ls : Lines). Nowhere (FailsIn c.args.known.now c.args.declared.now.domains ls)) c.as_slice-lines.ensures (domain_ends c.args.known.now c.args.declared.now.domains c.as_slice-lines.result.now c.lines.line-index c.lines.declared (omega arith) c.lines.invariant), tt)
