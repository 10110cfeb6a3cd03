use Rattle.std.proofs.Common.{◌≡◌, ◌++◌, take}
use Rattle.machine_defs.specs.Texts.{history_text}
use Rattle.history_text.proofs.entries.put_entries.Given as goal

abbrev pub invariant-each : goal.invariant-each
invariant-each l = l.out.items ≡ l.fn.out.items ++ history_text l.spellings (take l.entry-index l.entries)
