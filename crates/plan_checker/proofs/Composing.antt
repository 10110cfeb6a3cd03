-- The answers of the parts, and what they say of the whole bundle.
use Rattle.std.proofs.Common.{◌≡◌, inl, inr, List, refl, lt-ltb, subst}
use Rattle.std.specs.Prelude.{Result, Ok, Err}
use Rattle.std.proofs.lemmas.Bool.{cases_lt}
use Rattle.rl_defs.specs.declared.LoadFault.{LoadFault}
use Rattle.rl_defs.specs.declared.LoadFault.TheVariants.{Refused, Memory}
use Rattle.rl_defs.specs.declared.bundle.Bundle.{Bundle}
use Rattle.rl_defs.specs.declared.bundle.PlanLine.TheVariants as plan
use Rattle.rl_defs.specs.DomainValue.{Domain}
use Rattle.rl_defs.specs.BundleNames.{ClientLines}
use Rattle.rl_defs.specs.Refusals.{Nowhere, Answers, IsFirst}
use Rattle.plan_checker.specs.LineScan.{FailsIn}
use Rattle.plan_checker.specs.Limits.{FailsDomains, FailsClientLine}
use Rattle.plan_checker.specs.PlanTests.{FailsPlanLine}
use Rattle.plan_checker.specs.Parts.{FailsParts, PartsRise}
use Rattle.plan_checker.specs.Facts.{HasLoadNames}
use Rattle.plan_checker.specs.Lookups.{PlanLines, plan_bundle}
use Rattle.plan_checker.specs.Rows.{AreWithin, AnswersParts}
use Rattle.plan_checker.proofs.Members.{or_second}

module _ (domains : List Domain) (b : Bundle) (clients : ClientLines) (rises : PartsRise domains b.plan.lines clients) where
  pub domains_refuse : (fault : LoadFault) → Answers {X = Unit {0}} (FailsDomains domains) (λ _. Unit {0}) (Err fault) → Answers {X = Unit {0}} (FailsParts domains b clients) (λ _. Unit {0}) (Err fault)
  domains_refuse Memory h = tt
  domains_refuse (Refused at) h =
      let f = h.fails in
      record {
        fails = inl h.fails;
        first = λ l r g. elim g [
          | inl a ↦ h.first l r a
          | inr (inl a) ↦ inl (rises.plan_behind f.number f.domain f.fails.place a.place (record { line = at.line; form = f.fails.form }) (record { line = l; form = a.form }) f.there f.fails.here a.here)
          | inr (inr a) ↦ inl (rises.clients_behind f.number f.domain f.fails.place a.place (record { line = at.line; form = f.fails.form }) (record { line = l; form = a.form }) f.there f.fails.here a.here)
        ];
      }

  pub plan_refuses : (fault : LoadFault) → Nowhere (FailsDomains domains) → Answers {X = Unit {0}} (FailsIn b.plan.lines (FailsPlanLine b)) (λ _. Unit {0}) (Err fault) → Answers {X = Unit {0}} (FailsParts domains b clients) (λ _. Unit {0}) (Err fault)
  plan_refuses Memory none h = tt
  plan_refuses (Refused at) none h = record {
    fails = inr (inl h.fails);
    first = λ l r g. elim g [
      | inl a ↦ absurd (none l r a)
      | inr (inl a) ↦ h.first l r a
      | inr (inr a) ↦ inl (rises.clients_behind_plan h.fails.place a.place (record { line = at.line; form = h.fails.form }) (record { line = l; form = a.form }) h.fails.here a.here)
    ];
  }

  pub clients_answer : (r : Result (Unit {0}) LoadFault) → Nowhere (FailsDomains domains) → Nowhere (FailsIn b.plan.lines (FailsPlanLine b)) → Answers {X = Unit {0}} (FailsIn clients (FailsClientLine clients)) (λ _. Unit {0}) r → Answers {X = Unit {0}} (FailsParts domains b clients) (λ _. Unit {0}) r
  clients_answer (Ok x) no_domain no_line h = (λ l r g. elim g [ inl a ↦ no_domain l r a | inr (inl a) ↦ no_line l r a | inr (inr a) ↦ h.0 l r a ], tt)
  clients_answer (Err Memory) no_domain no_line h = tt
  clients_answer (Err (Refused at)) no_domain no_line h = record {
    fails = inr (inr h.fails);
    first = λ l r g. elim g [ inl a ↦ absurd (no_domain l r a) | inr (inl a) ↦ absurd (no_line l r a) | inr (inr a) ↦ h.first l r a ];
  }

-- a plan that fails nowhere has its numbers within their bounds
pub within : (domains : List Domain) (b : Bundle) (clients : ClientLines) → Nowhere (FailsParts domains b clients) → AreWithin b.plan.lines
within domains b clients none = record {
  restarts = λ k n name load restarts here. elim (cases_lt 16 restarts) [
    | inl over ↦ absurd (none n 44 (inr (inl (record { place = k; form = plan.Shadow name load restarts; here = here; fails = inr (refl, lt-ltb 16 restarts over) }))))
    | inr kept ↦ kept
  ];
  fuel = λ k n fuel here. elim (cases_lt 1000000 fuel) [
    | inl over ↦ absurd (none n 46 (inr (inl (record { place = k; form = plan.Fuel fuel; here = here; fails = inr (refl, or_second _ _ (lt-ltb 1000000 fuel over)) }))))
    | inr kept ↦ kept
  ];
  blocks = λ k n load blocks here. elim (cases_lt 4096 blocks) [
    | inl over ↦ absurd (none n 46 (inr (inl (record { place = k; form = plan.Device load blocks; here = here; fails = inr (refl, or_second _ _ (lt-ltb 4096 blocks over)) }))))
    | inr kept ↦ kept
  ];
}

pub parts_refuse : (domains : List Domain) (lines : PlanLines) (clients : ClientLines) (b : Bundle) (fault : LoadFault) → b ≡ plan_bundle domains lines → HasLoadNames lines → Answers {X = Unit {0}} (FailsParts domains b clients) (λ _. Unit {0}) (Err fault) → AnswersParts domains lines clients (Err fault)
parts_refuse domains lines clients b Memory same names h = tt
parts_refuse domains lines clients b (Refused at) same names h = (names, subst (λ (x : Bundle). IsFirst (FailsParts domains x clients) at.line at.rule) same h)
