use Rattle.std.proofs.Common.{◌+◌, ◌≤◌, length}
use Rattle.rref_heads.specs.Passes.{view, IsPassOf}
use Rattle.heads_command.specs.Workers.{HoldsLoans, Released}
use Rattle.heads_command.proofs.workers.give_back_all.Given as goal

abbrev pub invariant-loop-h : goal.invariant-loop-h
invariant-loop-h l = IsPassOf l.table l.pass × HoldsLoans l.table.heads l.held.items (view l.pass) × Released l.table.heads l.got (view l.pass) × (l.got + length l.held.items ≤ length l.initial.held.items)

abbrev pub decreases-loop-h : goal.decreases-loop-h
decreases-loop-h l = length l.held.items
