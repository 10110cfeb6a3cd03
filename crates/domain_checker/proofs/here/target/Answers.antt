use Rattle.std.proofs.Common.{sym, ap, ◌∙◌}
use Rattle.rl_defs.specs.CodeNames.{place_of_label}
use Rattle.domain_checker.proofs.Labels.{some_within}
use Rattle.domain_checker.proofs.here.target.Goals as goal

pub returns-in-Some : goal.returns-in-Some
returns-in-Some c = record {
  value = c.label_place.ensures ∙ ap (place_of_label c.args.here.now.scope.now c.args.here.now.place) (sym c.in-Some.is ∙ c.label_of_form.ensures);
  within = some_within c.args.here.now.scope.now.lines c.args.here.now.place c.in-Some.label c.label_place.result c.label_place.ensures;
}
