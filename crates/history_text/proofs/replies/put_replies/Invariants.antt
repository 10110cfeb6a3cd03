use Rattle.std.proofs.Common.{◌≡◌, ◌++◌, ℕ, take}
use Rattle.machine_defs.specs.Texts.{replies_text, tally}
use Rattle.history_text.specs.Tallies.{told_of}
use Rattle.history_text.proofs.replies.put_replies.Given as goal

-- the replies so far, and what is told so far
abbrev pub invariant-each : goal.invariant-each
invariant-each l = record {
  out : l.out.items ≡ l.fn.out.items ++ replies_text l.spellings (take l.entry-index l.entries);
  tallies : (t : ℕ) → told_of l.tallies.items t ≡ tally t (take l.entry-index l.entries);
}
