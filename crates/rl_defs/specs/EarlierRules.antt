-- What is known of a bundle where the rules on its plan and its scripts are looked at: that it breaks none of those before.
use Rattle.rl_defs.specs.declared.tables.Tables.{Tables}
use Rattle.rl_defs.specs.declared.bundle.Bundle.{Bundle}
use Rattle.rl_defs.specs.Refusals.{Nowhere}
use Rattle.rl_defs.specs.MethodRules.{TableRows}
use Rattle.rl_defs.specs.NameRules.{FailsBundleNames}
use Rattle.rl_defs.specs.PlanRules.{FailsPlanRules}
use Rattle.rl_defs.specs.TableSizes.{AreTablesSmall}
use Rattle.rl_defs.specs.BundleOrder.{IsOrdered}

-- before the rules on its plan: its lines are in order, and no name is given twice or unknown
pub record HasNames (b : Bundle) : Type 0 where
  pub ordered : IsOrdered b
  pub names : Nowhere (FailsBundleNames b)

-- before the rules on its scripts: its plan breaks no rule either, and these are the rows of its interfaces
pub record HasPlan (tables : Tables) (b : Bundle) : Type 0 where
  pub named : HasNames b
  pub plan : Nowhere (FailsPlanRules b)
  pub rows : TableRows b.idl tables
  pub small : AreTablesSmall tables
