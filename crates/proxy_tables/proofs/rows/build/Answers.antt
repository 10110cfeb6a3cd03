use Rattle.std.proofs.Common.{sym, subst, ◌∙◌}
use Rattle.rl_defs.specs.Interfaces.{Lines}
use Rattle.proxy_tables.specs.Built.{AllFit}
use Rattle.proxy_tables.proofs.Building.{all_fit}
use Rattle.proxy_tables.proofs.rows.build.Goals as goal

pub trait_rows-requires-clause-fit : goal.trait_rows-requires-clause-fit
trait_rows-requires-clause-fit c = subst (λ (xs : Lines). AllFit xs) (sym (c.in_ok-part.ensures ∙ c.as_slice.ensures)) (all_fit c.args.idl.now (c.in_ok-check_methods.ensures).0)
