use Rattle.std.proofs.Common.{◌≡◌}
use Rattle.domain_checker.specs.Keeping.{AreRows, NoneBefore}
use Rattle.domain_checker.proofs.scan.scan.Given as goal

abbrev pub invariant-lines : goal.invariant-lines
invariant-lines l = record {
  at : l.here.place ≡ l.place;
  of : l.here.scope.now ≡ l.fn.scope;
  none : NoneBefore l.fn.scope l.place;
  rows : AreRows l.fn.scope l.kept.emptied.items l.kept.rows.items l.place;
}
