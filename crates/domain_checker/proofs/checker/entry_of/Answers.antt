use Rattle.std.proofs.Common.{ℕ, ◌+◌, Option, length, ap, ◌∙◌}
use Rattle.std.specs.Prelude.{unwrap_or}
use Rattle.rl_defs.specs.Domains.{Lines}
use Rattle.domain_checker.proofs.Entering.{entry_is}
use Rattle.domain_checker.proofs.checker.entry_of.Goals as goal

pub returns : goal.returns
returns c =
    c.unwrap_or.ensures
    ∙ ap (λ (o : Option ℕ). unwrap_or o (length c.lines.result.now + 1)) c.body.ensures
    ∙ entry_is c.args.name.now c.args.scope.now.lines (length c.lines.result.now + 1) (ap (λ (ls : Lines). length ls + 1) c.lines.ensures.value)
