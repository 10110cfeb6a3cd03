-- Tallies of threads, as they are kept.
use Rattle.std.specs.Prelude.{ℕ, ◌==◌, List, [], ◌∷◌, if◌then◌else◌}
use Rattle.history_text.specs.declared.tallies.Tally.{Tally}
use Rattle.history_text.specs.declared.tallies.ThreadTally.{ThreadTally}
use Rattle.machine_defs.specs.Texts as text

-- what a kept tally tells
abbrev pub told : Tally → text.Tally
told y = record { calls = y.calls; commands = y.commands }

-- what is told of a thread: nothing where none of it is kept
abbrev pub told_of : List ThreadTally → ℕ → text.Tally
told_of [] t = text.no_tally
told_of (k ∷ tallies) t = if k.thread == t then told k.tally else told_of tallies t
