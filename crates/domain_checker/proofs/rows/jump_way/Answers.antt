use Rattle.std.proofs.Common.{ℕ, subst, slice_range}
use Rattle.rl_defs.specs.CodeKinds.{Kinds, at_label}
use Rattle.rl_defs.specs.LineRows.{Leads}
use Rattle.domain_checker.proofs.RowLaws.{grows_none, one_some}
use Rattle.domain_checker.proofs.rows.jump_way.Goals as goal

pub returns-in_ok-way-in-Some-clause-leads : goal.returns-in_ok-way-in-Some-clause-leads
returns-in_ok-way-in-Some-clause-leads c = λ tables p e.
    let there : Kinds = at_label c.args.kinds.now c.args.instr.now in
    subst (λ (k : ℕ). Leads (record { lines = c.args.ways.now.lines.now; tables = tables }) there k c.in_ok-way-in-Some.way.line (slice_range c.way.new.pool.items c.in_ok-way-in-Some.way.from c.in_ok-way-in-Some.way.to)) (one_some c.args.to c.in-Some.place p c.in-Some.is e)
    (subst (λ (ks : Kinds). Leads (record { lines = c.args.ways.now.lines.now; tables = tables }) ks c.in-Some.place c.in_ok-way-in-Some.way.line (slice_range c.way.new.pool.items c.in_ok-way-in-Some.way.from c.in_ok-way-in-Some.way.to)) c.kinds_at_label-there.ensures (c.in_ok-way-in-Some.ensures.leads tables))

pub returns-in-None : goal.returns-in-None
returns-in-None c = record { leads = λ tables p e. absurd cc; within = c.requires.within; grows = grows_none 32 c.args.emptied.now.items }
