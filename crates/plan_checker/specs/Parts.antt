-- The rules 40 to 46 in the domains, in the plan and in the clients.
use Rattle.std.specs.Prelude.{◌≡◌, ℕ, ◌<◌, ◌^◌, ◌⊎◌, List, length, Some, slice_get}
use Rattle.rl_defs.specs.declared.bundle.Numbered.{Numbered}
use Rattle.rl_defs.specs.declared.bundle.Bundle.{Bundle}
use Rattle.rl_defs.specs.declared.bundle.PlanLine.{PlanLine}
use Rattle.rl_defs.specs.declared.bundle.ClientLine.{ClientLine}
use Rattle.rl_defs.specs.declared.code.DomainLine.{DomainLine}
use Rattle.rl_defs.specs.DomainValue.{Domain}
use Rattle.rl_defs.specs.BundleNames.{ClientLines}
use Rattle.rl_defs.specs.Refusals.{Failing}
use Rattle.plan_checker.specs.LineScan.{LinesRise, FailsIn}
use Rattle.plan_checker.specs.Limits.{FailsDomains, DomainsRise, FailsClientLine}
use Rattle.plan_checker.specs.Lookups.{PlanLines}
use Rattle.plan_checker.specs.PlanTests.{FailsPlanLine}

-- which of the rules 40 to 46 fail at which lines, part by part
abbrev pub FailsParts : List Domain → Bundle → ClientLines → Failing
FailsParts domains b clients n rule =
    FailsDomains domains n rule
    ⊎ (FailsIn b.plan.lines (FailsPlanLine b) n rule
    ⊎ FailsIn clients (FailsClientLine clients) n rule)

-- the lines are numbered upwards through the parts, and are few
pub record PartsRise (domains : List Domain) (plan : PlanLines) (clients : ClientLines) : Type 0 where
  pub in_domains : DomainsRise domains
  pub in_plan : LinesRise plan
  pub in_clients : LinesRise clients
  pub plan_behind : (i : ℕ) (d : Domain) (p q : ℕ) (x : Numbered DomainLine) (y : Numbered PlanLine) → slice_get domains i ≡ Some d → slice_get d.lines p ≡ Some x → slice_get plan q ≡ Some y → x.line < y.line
  pub clients_behind : (i : ℕ) (d : Domain) (p q : ℕ) (x : Numbered DomainLine) (y : Numbered ClientLine) → slice_get domains i ≡ Some d → slice_get d.lines p ≡ Some x → slice_get clients q ≡ Some y → x.line < y.line
  pub clients_behind_plan : (p q : ℕ) (x : Numbered PlanLine) (y : Numbered ClientLine) → slice_get plan p ≡ Some x → slice_get clients q ≡ Some y → x.line < y.line
  pub few_domains : length domains < 2 ^ 31
  pub few_lines : length plan < 2 ^ 31
  pub few_clients : length clients < 2 ^ 31
