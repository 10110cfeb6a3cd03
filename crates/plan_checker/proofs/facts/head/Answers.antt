use Rattle.std.proofs.Common.{◌≡◌, get_or, subst, ap, ◌∙◌}
use Rattle.rl_defs.specs.declared.bundle.Numbered.{Numbered}
use Rattle.rl_defs.specs.declared.code.DomainLine.{DomainLine}
use Rattle.rl_defs.specs.Domains.{Lines}
use Rattle.plan_checker.proofs.Tabling.{domain_name}
use Rattle.plan_checker.proofs.facts.head.Goals as goal

pub returns-clause-name : goal.returns-clause-name
returns-clause-name c = domain_name c.args.domain.now.lines c.index-lines-0.result c.in-Domain.name c.in-Domain.has c.lines.ensures.keeps.ordered (subst (λ (ls : Lines). c.index-lines-0.result ≡ get_or ls 0 c.index-lines-0.result) c.lines.ensures.value c.index-lines-0.is) (ap (λ (l : Numbered DomainLine). l.form) c.index-lines-0.is ∙ c.in-Domain.is)
