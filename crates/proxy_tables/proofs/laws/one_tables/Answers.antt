use Rattle.proxy_tables.proofs.TableLaws.{tables_once}
use Rattle.proxy_tables.proofs.laws.one_tables.Goals as goal

pub returns : goal.returns
returns c = tables_once
