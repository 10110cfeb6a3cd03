use Rattle.std.proofs.Common.{◌++◌, ℕ, List, length, ap, ◌∙◌}
use Rattle.rl_defs.specs.declared.load.LoadRows.{LoadRows}
use Rattle.heap_report.proofs.Reported.{reported}
use Rattle.heap_report.proofs.report.write_report.Goals as goal

pub returns-in-Ok-clause-ok : goal.returns-in-Ok-clause-ok
returns-in-Ok-clause-ok c = λ s are.
    c.in-Ok.ensures ∙ ap (λ (t : List ℕ). c.args.out.now.items ++ t) (reported c.args.load.now c.args.log.now s c.in_ok-reading.reading c.args.left.now c.args.instances c.in_ok-reading.ensures.reads
    (c.in_ok-reading.ensures.owners.0 ∙ (c.len-clients.ensures ∙ ap (λ (L : LoadRows). length L.clients) c.rows.ensures.value)) c.in_ok-reading.ensures.owners.1 are)
