use Rattle.std.proofs.Common.{ap, ◌∙◌}
use Rattle.rl_defs.specs.CodeKinds.{Kinds}
use Rattle.domain_checker.specs.Lowest.{lowest, from_30}
use Rattle.domain_checker.proofs.LowestRule.{lowest_rule}
use Rattle.domain_checker.proofs.rules.rule_of.Goals as goal

pub returns : goal.returns
returns c = lowest_rule c.args.here.now.scope.now c.args.here.now.place c.args.form.now c.from_30.result (c.from_30.ensures ∙ ap (λ (kinds : Kinds). lowest (from_30 c.args.here.now.scope.now c.args.here.now.place kinds c.args.form.now)) c.args.here.now.known.kinds_are)
