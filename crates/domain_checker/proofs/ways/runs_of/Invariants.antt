use Rattle.std.proofs.Common.{◌≡◌, ◌+◌, length, drop}
use Rattle.domain_checker.specs.Heads.{run_at, AreRuns}
use Rattle.domain_checker.proofs.ways.runs_of.Given as goal

abbrev pub invariant-lines : goal.invariant-lines
invariant-lines l = record {
  count : length l.runs + l.place ≡ length l.lines;
  next : l.next ≡ run_at (drop l.place l.lines) l.place;
  right : AreRuns l.lines l.runs;
}
