use Rattle.std.proofs.Common.{◌≡◌, ◌≤◌, ◌+◌, drop, length}
use Rattle.rl_defs.specs.Domains.{slots_of}
use Rattle.instance_table.proofs.sizes.count_of_slots.Given as goal

abbrev pub invariant-lines : goal.invariant-lines
invariant-lines l = record {
  counted : l.count + length (slots_of (drop l.line-index l.lines)) ≡ length (slots_of l.lines);
  few : l.count ≤ l.line-index;
}
