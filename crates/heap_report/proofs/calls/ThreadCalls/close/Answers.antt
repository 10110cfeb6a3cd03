use Rattle.std.proofs.Common.{◌==◌, not, filter, ap, ◌∙◌, rules}
use Rattle.std.proofs.lemmas.Fn.{filter_same}
use Rattle.heap_report.specs.declared.calls.Opened.{Opened}
use Rattle.heap_report.proofs.calls.ThreadCalls.close.Goals as goal

pub returns : goal.returns
returns c =
    filter_same _ (λ (o : Opened). not (o.call == c.args.call)) _ (λ x b f' k. search rules) _ _ c.retain.ensures.filtered ∙ ap (filter (λ (o : Opened). not (o.call == c.args.call))) c.self.view_is
