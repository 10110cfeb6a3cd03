use Rattle.std.proofs.Common.{◌≡◌, ◌≤◌, ◌++◌, replicate}
use Rattle.refusal_notes.proofs.note.put_times.Given as goal

-- the byte is put as often as the loop went round
abbrev pub invariant-times : goal.invariant-times
invariant-times l = (l.counter ≤ l.fn.count) × (l.out.items ≡ l.fn.out.items ++ replicate l.counter l.fn.byte)
