use Rattle.std.proofs.Common.{sym, ap, ◌∙◌}
use Rattle.std.specs.Prelude.{is_some}
use Rattle.indexmap.specs.IndexMap.{get}
use Rattle.plan_checker.specs.Tables.{same_pair}
use Rattle.plan_checker.proofs.Pairing.{bind_again, bind_new}
use Rattle.plan_checker.proofs.pairs.bind.Goals as goal

pub returns-in-Ok-clause-noted : goal.returns-in-Ok-clause-noted
returns-in-Ok-clause-noted c = λ q r. bind_new (λ q r. get same_pair c.args.binds.now (q, r)) (λ q r. get same_pair c.insert.new.self (q, r)) c.args.load.now c.args.import.now c.args.target.now (ap is_some (sym (c.copied-known.ensures ∙ c.get.ensures.value)) ∙ sym c.is_some.ensures ∙ c.if-is_some.false) q r (c.in-Ok.ensures.updates.0 (q, r))

pub returns-then-is_some-clause-noted : goal.returns-then-is_some-clause-noted
returns-then-is_some-clause-noted c = λ q r. bind_again (λ q r. get same_pair c.args.binds.now (q, r)) c.args.load.now c.args.import.now c.args.target.now (ap is_some (sym (c.copied-known.ensures ∙ c.get.ensures.value)) ∙ sym c.is_some.ensures ∙ c.if-is_some.true) q r
