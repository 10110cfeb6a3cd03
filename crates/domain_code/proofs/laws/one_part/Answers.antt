use Rattle.std.proofs.Common.{sym, ap, ◌∙◌}
use Rattle.rl_defs.specs.DomainParts.{domain_part, domains_of}
use Rattle.rl_text.proofs.PartRules.{one_standing}
use Rattle.domain_code.proofs.DomainLaws.{domain_forms}
use Rattle.domain_code.proofs.laws.one_part.Goals as goal

pub returns-clause-lines : goal.returns-clause-lines
returns-clause-lines c = one_standing domain_part domain_forms

pub returns-clause-domains : goal.returns-clause-domains
returns-clause-domains c = λ first texts a b x y. x.cut ∙ ap domains_of (one_standing domain_part domain_forms first texts x.lines y.lines x.stand y.stand) ∙ sym y.cut
