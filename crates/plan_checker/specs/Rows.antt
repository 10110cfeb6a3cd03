-- The rows that a plan stands for.
use Rattle.std.specs.Prelude.{◌≡◌, ℕ, ◌≤◌, List, [], map, Some, slice_get, Result, Ok, Err}
use Rattle.rl_defs.specs.declared.bundle.PlanLine.{PlanLine}
use Rattle.rl_defs.specs.declared.bundle.Bundle.{Bundle}
use Rattle.rl_defs.specs.declared.bundle.PlanLine.TheVariants as plan
use Rattle.rl_defs.specs.LoadOf.{number_in, loads_of, shadows_of, order_of, fuel_of, device_of, blocks_of}
use Rattle.plan_checker.specs.declared.rows.PlanRows.{PlanRows}
use Rattle.rl_defs.specs.declared.LoadFault.{LoadFault}
use Rattle.rl_defs.specs.declared.LoadFault.TheVariants.{Refused, Memory}
use Rattle.rl_defs.specs.DomainValue.{Domain}
use Rattle.rl_defs.specs.BundleNames.{ClientLines}
use Rattle.rl_defs.specs.Refusals.{Nowhere, IsFirst}
use Rattle.plan_checker.specs.Facts.{HasLoadNames}
use Rattle.plan_checker.specs.Parts.{FailsParts}
use Rattle.plan_checker.specs.Lookups.{PlanLines, plan_bundle}

-- the rows are those that the plan of this bundle stands for
pub record AreRowsOf (b : Bundle) (rows : PlanRows) : Type 0 where
  pub loads_are : rows.loads ≡ loads_of b
  pub shadows_are : rows.shadows ≡ shadows_of b
  pub order_is : rows.order ≡ order_of b
  pub fuel_is : rows.fuel ≡ fuel_of b
  pub device_is : rows.device_load ≡ device_of b
  pub blocks_are : rows.blocks ≡ blocks_of b

-- the numbers of a plan's lines are within their bounds
pub record AreWithin (lines : PlanLines) : Type 0 where
  pub restarts : (k n : ℕ) (name load : List ℕ) (restarts : ℕ) → slice_get lines k ≡ Some (record { line = n; form = plan.Shadow name load restarts }) → restarts ≤ 16
  pub fuel : (k n fuel : ℕ) → slice_get lines k ≡ Some (record { line = n; form = plan.Fuel fuel }) → fuel ≤ 1000000
  pub blocks : (k n : ℕ) (load : List ℕ) (blocks : ℕ) → slice_get lines k ≡ Some (record { line = n; form = plan.Device load blocks }) → blocks ≤ 4096

-- the clients of an `order` line, by their numbers among these names
abbrev pub order_with : List (List ℕ) → PlanLine → List ℕ
order_with names (plan.Order clients) = map (λ name. number_in name names) clients
order_with names _ = []

-- the bundle of these lines
abbrev pub bundle_with : Bundle → ClientLines → Bundle
bundle_with b clients = record { idl = b.idl; domains = b.domains; plan = b.plan; clients = record { lines = clients } }

-- What the lines of the parts are answered: their rows where none is refused, or the first that is; and that the names of loads and imports are names.
abbrev pub AnswersParts : List Domain → PlanLines → ClientLines → Result PlanRows LoadFault → Type 0
AnswersParts domains lines clients (Ok rows) =
    HasLoadNames lines × Nowhere (FailsParts domains (plan_bundle domains lines) clients) × AreRowsOf (bundle_with (plan_bundle domains lines) clients) rows
AnswersParts domains lines clients (Err (Refused at)) = HasLoadNames lines × IsFirst (FailsParts domains (plan_bundle domains lines) clients) at.line at.rule
AnswersParts domains lines clients (Err Memory) = Unit {0}
