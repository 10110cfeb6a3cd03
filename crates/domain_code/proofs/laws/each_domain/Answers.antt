use Rattle.domain_code.proofs.DomainOrder.{each_alone}
use Rattle.domain_code.proofs.laws.each_domain.Goals as goal

pub returns : goal.returns
returns c = each_alone
