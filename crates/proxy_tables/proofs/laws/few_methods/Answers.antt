use Rattle.proxy_tables.proofs.TableLaws.{few_methods}
use Rattle.proxy_tables.proofs.laws.few_methods.Goals as goal

pub returns : goal.returns
returns c = few_methods
