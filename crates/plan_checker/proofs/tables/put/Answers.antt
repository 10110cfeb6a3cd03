use Rattle.std.proofs.Common.{not, sym, ap, ◌∙◌}
use Rattle.std.specs.Prelude.{is_some}
use Rattle.plan_checker.proofs.Keeping.{is_skipped, is_kept}
use Rattle.plan_checker.proofs.tables.put.Goals as goal

pub returns : goal.returns
returns c =
    is_kept c.args.loaded.now c.args.domain.now.lines c.in_ok-facts.facts c.args.number c.args.domains.now.names c.add.new.self c.args.domains.now.numbers c.push.new.self c.args.domains.now.facts c.push-2.new.self c.head-head.result.name c.head-head.ensures.name
    (ap is_some (sym c.place.ensures) ∙ c.is_none.ensures ∙ ap not c.if-is_none.false) c.in_ok-add.ensures.added c.in_ok-push.ensures.ok c.in_ok-push-2.ensures.ok c.in_ok-facts.ensures

pub returns-then-is_none : goal.returns-then-is_none
returns-then-is_none c =
    is_skipped c.args.loaded.now c.args.domain.now.lines c.args.number c.args.domains.now.names c.args.domains.now.numbers c.args.domains.now.facts c.head-head.result.name c.head-head.ensures.name
    (ap is_some (sym c.place.ensures) ∙ c.is_none.ensures ∙ ap not c.if-is_none.true)
