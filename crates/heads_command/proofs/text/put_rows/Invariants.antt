use Rattle.std.proofs.Common.{◌≡◌, ◌++◌, take}
use Rattle.heads_command.specs.HeadsText.{rows_text}
use Rattle.heads_command.proofs.text.put_rows.Given as goal

abbrev pub invariant-loop-at : goal.invariant-loop-at
invariant-loop-at l = l.out.items ≡ l.fn.out.items ++ rows_text 1 (take l.at l.words)
