use Rattle.std.proofs.Common.{◌≡◌, ◌++◌, drop}
use Rattle.script_checker.specs.Verdicts.{verdict_of, rows_of}
use Rattle.script_checker.proofs.clients.rows_of.Given as goal

abbrev pub invariant-each : goal.invariant-each
invariant-each l = record {
  first : verdict_of l.scope.tables l.scope.bundle (drop l.place l.lines) ≡ verdict_of l.scope.tables l.scope.bundle l.lines;
  rows_more : l.rows ++ rows_of l.scope.tables l.scope.bundle (drop l.place l.lines) ≡ rows_of l.scope.tables l.scope.bundle l.lines;
}
