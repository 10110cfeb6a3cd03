use Rattle.std.proofs.Common.{◌∙◌, ap, Option, ℕ}
use Rattle.std.specs.Prelude.{is_some}
use Rattle.domain_checker.proofs.Bodies.{body_is}
use Rattle.domain_checker.proofs.claims.has_function.Goals as goal

pub returns : goal.returns
returns c = c.is_some.ensures ∙ ap (λ (o : Option ℕ). is_some o) c.body.ensures ∙ body_is c.args.method.now.name c.args.scope.now.lines 0
