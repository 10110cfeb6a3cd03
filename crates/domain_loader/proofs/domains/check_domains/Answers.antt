use Rattle.std.proofs.Common.{◌≡◌, ◌++◌, List, map, Err, length, sym, subst, ◌∙◌}
use Rattle.rl_defs.specs.declared.tables.Tables.{Tables}
use Rattle.rl_defs.specs.DomainValue.{Domain}
use Rattle.rl_defs.specs.Refusals.{Nowhere, Answers}
use Rattle.rl_defs.specs.CodeRules.{FailsCode}
use Rattle.rl_defs.specs.LoadOf.{checked_with}
use Rattle.domain_loader.proofs.Apart.{lines_rise, seam, all_shift, put_last, none_more, refused_first, done_all}
use Rattle.domain_loader.proofs.domains.check_domains.Goals as goal

pub check-requires-clause-rises : goal.check-requires-clause-rises
check-requires-clause-rises c =
    lines_rise c.args.domains (length c.texts.yielded) c.in-Some.text c.requires.order.rises (seam c.args.domains c.texts.yielded c.texts.text-iterator.rest.items c.next.new.self.rest.items c.in-Some.text c.texts.invariant.0 c.in-Some.ensures.steps.0)

pub returns-in-Err : goal.returns-in-Err
returns-in-Err c =
    let same = c.in-Ok-new.ensures ∙ c.in-Ok.ensures in
    let here = seam c.args.domains c.texts.yielded c.texts.text-iterator.rest.items c.next.new.self.rest.items c.in-Some.text c.texts.invariant.0 c.in-Some.ensures.steps.0 in
    let refused = subst (λ (t : Tables). Answers {X = Domain} (FailsCode (checked_with t c.in-Some.text)) (λ (x : Domain). x ≡ checked_with t c.in-Some.text) (Err c.in-Err.fault)) same c.in-Err.ensures in
    refused_first {X = Domain} {Y = List Domain} c.args.tables.now c.args.domains (length c.texts.yielded) c.in-Some.text (λ (x : Domain). x ≡ checked_with c.args.tables.now c.in-Some.text) (λ (xs : List Domain). xs ≡ map (checked_with c.args.tables.now) c.args.domains) c.in-Err.fault c.requires.order.rises c.texts.invariant.2 here refused

pub texts-preserved : goal.texts-preserved
texts-preserved c =
    let same = c.in-Ok-new.ensures ∙ c.in-Ok.ensures in
    let steps = c.in-Some.ensures.steps.0 in
    let here = seam c.args.domains c.texts.yielded c.texts.text-iterator.rest.items c.next.new.self.rest.items c.in-Some.text c.texts.invariant.0 steps in
    let fits = subst (λ (t : Tables). Nowhere (FailsCode (checked_with t c.in-Some.text))) same c.in-Ok-check.ensures.0 in
    let is = subst (λ (t : Tables). c.in-Ok-check.checked ≡ checked_with t c.in-Some.text) same c.in-Ok-check.ensures.1 in (
      all_shift c.args.domains c.texts.yielded c.texts.text-iterator.rest.items c.next.new.self.rest.items c.in-Some.text c.texts.invariant.0 steps,
      put_last c.args.tables.now c.texts.yielded c.in-Some.text c.texts.all c.push.new.self c.in-Ok-check.checked c.texts.invariant.1 is c.in-Ok-push.ensures.ok,
      none_more c.args.tables.now c.args.domains c.texts.yielded c.in-Some.text c.texts.invariant.2 here fits,
    )

pub returns : goal.returns
returns c = done_all c.args.tables.now c.args.domains c.texts.yielded c.texts.text-iterator.rest.items c.texts.all c.texts.invariant.0 (sym c.texts.text-iterator.rest.ok.0 ∙ c.in-None.ensures.steps.0) c.texts.invariant.1 c.texts.invariant.2
