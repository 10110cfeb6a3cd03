use Rattle.std.proofs.Common.{sym, subst, ◌∙◌}
use Rattle.rl_defs.specs.Valid.{Valid}
use Rattle.rl_defs.proofs.ValidFacts.{domain_at}
use Rattle.machine_steps.proofs.frames.domain_of_target.Goals as goal

pub unreachable-requires-in-None-get : goal.unreachable-requires-in-None-get
unreachable-requires-in-None-get c =
    let valid : Valid c.rows-rows.result.now = subst (λ L. Valid L) (sym c.rows-rows.ensures.value) c.rows-rows.ensures.valid in
    let there = (domain_at c.rows-rows.result.now valid c.load_of_target.result c.in-Some.row.now (sym c.in-Some.ensures)).here in
    let none = c.in-None-get.ensures ∙ there in
    cc
