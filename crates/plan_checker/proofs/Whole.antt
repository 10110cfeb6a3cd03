-- What the answers of the parts say of the whole bundle.
use Rattle.std.proofs.Common.{◌≡◌, ℕ, List, refl, sym, subst}
use Rattle.std.specs.Prelude.{Result, Ok, Err}
use Rattle.rl_defs.specs.declared.LoadFault.{LoadFault}
use Rattle.rl_defs.specs.declared.LoadFault.TheVariants.{Refused, Memory}
use Rattle.rl_defs.specs.declared.idl.Idl.{Idl}
use Rattle.rl_defs.specs.declared.bundle.Plan.{Plan}
use Rattle.rl_defs.specs.declared.bundle.Clients.{Clients}
use Rattle.rl_defs.specs.declared.bundle.Bundle.{Bundle}
use Rattle.rl_defs.specs.DomainValue.{Domain}
use Rattle.rl_defs.specs.BundleNames.{ClientLines}
use Rattle.rl_defs.specs.BundleOrder.{bundle_of}
use Rattle.rl_defs.specs.Refusals.{IsFirst, Nowhere, Answers}
use Rattle.rl_defs.specs.PlanRules.{FailsPlanRules}
use Rattle.plan_checker.specs.declared.rows.PlanRows.{PlanRows}
use Rattle.plan_checker.specs.Facts.{HasLoadNames}
use Rattle.plan_checker.specs.Lookups.{PlanLines, plan_bundle}
use Rattle.plan_checker.specs.Parts.{FailsParts, PartsRise}
use Rattle.plan_checker.specs.Rows.{AreRowsOf, AnswersParts}
use Rattle.plan_checker.proofs.ToParts.{to_parts}
use Rattle.plan_checker.proofs.FromParts.{from_parts}

module _ (idl : Idl) (domains : List Domain) (p : Plan) (c : Clients) (names : HasLoadNames p.lines) where
  abbrev Whole : ℕ → ℕ → Type 0
  Whole n rule = FailsPlanRules (bundle_of idl domains p c) n rule

  abbrev Parts : ℕ → ℕ → Type 0
  Parts n rule = FailsParts domains (plan_bundle domains p.lines) c.lines n rule

  -- a refusal of the parts is one of the whole bundle
  pub whole_refuses : (b : Bundle) (fault : LoadFault) → b ≡ plan_bundle domains p.lines → Answers {X = Unit {0}} (FailsParts domains b c.lines) (λ _. Unit {0}) (Err fault) → Answers {X = PlanRows} Whole (AreRowsOf (bundle_of idl domains p c)) (Err fault)
  whole_refuses b Memory same h = tt
  whole_refuses b (Refused at) same h =
      let f = subst (λ (x : Bundle). IsFirst (FailsParts domains x c.lines) at.line at.rule) same h in
      record { fails = from_parts idl domains p c at.line at.rule names f.fails; first = λ l r g. f.first l r (to_parts idl domains p c l r names g) }

  -- where nothing fails, the rows are those of the bundle
  pub whole_stands : (b : Bundle) (rows : PlanRows) → b ≡ plan_bundle domains p.lines → Nowhere (FailsParts domains b c.lines) → AreRowsOf (record { idl = b.idl; domains = b.domains; plan = b.plan; clients = record { lines = c.lines } }) rows → Answers {X = PlanRows} Whole (AreRowsOf (bundle_of idl domains p c)) (Ok rows)
  whole_stands b rows same none are =
      let nowhere = subst (λ (x : Bundle). Nowhere (FailsParts domains x c.lines)) same none in
      let h = subst (λ (x : Bundle). AreRowsOf (record { idl = x.idl; domains = x.domains; plan = x.plan; clients = record { lines = c.lines } }) rows) same are in
      (λ l r g. nowhere l r (to_parts idl domains p c l r names g), record { loads_are = h.loads_are; shadows_are = h.shadows_are; order_is = h.order_is; fuel_is = h.fuel_is; device_is = h.device_is; blocks_are = h.blocks_are })

-- what the parts are answered is the answer of the bundle
answers : (idl : Idl) (domains : List Domain) (p : Plan) (c : Clients) (r : Result PlanRows LoadFault) → AnswersParts domains p.lines c.lines r → Answers {X = PlanRows} (λ n rule. FailsPlanRules (bundle_of idl domains p c) n rule) (AreRowsOf (bundle_of idl domains p c)) r
answers idl domains p c (Ok rows) h = whole_stands idl domains p c h.0 (plan_bundle domains p.lines) rows refl h.1 h.2
answers idl domains p c (Err (Refused at)) h = whole_refuses idl domains p c h.0 (plan_bundle domains p.lines) (Refused at) refl h.1
answers idl domains p c (Err Memory) h = h

pub whole_answers : (idl : Idl) (domains all : List Domain) (p : Plan) (c : Clients) (lines : PlanLines) (scripts : ClientLines) (r : Result PlanRows LoadFault) → all ≡ domains → lines ≡ p.lines → scripts ≡ c.lines → AnswersParts all lines scripts r → Answers {X = PlanRows} (λ n rule. FailsPlanRules (bundle_of idl domains p c) n rule) (AreRowsOf (bundle_of idl domains p c)) r
whole_answers idl domains all p c lines scripts r ea el es h =
    answers idl domains p c r
    (subst (λ (ss : ClientLines). AnswersParts domains p.lines ss r) es
    (subst (λ (ls : PlanLines). AnswersParts domains ls scripts r) el
    (subst (λ (ds : List Domain). AnswersParts ds lines scripts r) ea h)))

pub parts_of : (domains all : List Domain) (p : Plan) (c : Clients) (lines : PlanLines) (scripts : ClientLines) → all ≡ domains → lines ≡ p.lines → scripts ≡ c.lines → PartsRise domains p.lines c.lines → PartsRise all lines scripts
parts_of domains all p c lines scripts ea el es h =
    subst (λ (ds : List Domain). PartsRise ds lines scripts) (sym ea)
    (subst (λ (ls : PlanLines). PartsRise domains ls scripts) (sym el)
    (subst (λ (ss : ClientLines). PartsRise domains p.lines ss) (sym es) h))
