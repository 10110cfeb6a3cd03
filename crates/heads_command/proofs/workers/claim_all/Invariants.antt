use Rattle.rref_heads.specs.Passes.{view, IsSamePass}
use Rattle.heads_command.specs.Workers.{HoldsTitles, Released}
use Rattle.heads_command.proofs.workers.claim_all.Given as goal

abbrev pub invariant-loop-i : goal.invariant-loop-i
invariant-loop-i l = IsSamePass l.initial.pass l.pass × HoldsTitles l.table.heads l.held.items (view l.pass) × Released l.table.heads 0 (view l.pass)
