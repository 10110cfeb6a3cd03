use Rattle.std.proofs.Common.{nat_eq}
use Rattle.std.specs.Cmp.Lexicographic.{pointwise}
use Rattle.indexmap.specs.IndexMap.{get}
use Rattle.domain_checker.proofs.Stepping.{known_other, numbered_other}
use Rattle.domain_checker.proofs.here.go_on.Goals as goal

pub invariant_of-here : goal.invariant_of-here
invariant_of-here c = record {
  known = known_other c.args.here.now.scope.now c.args.here.now.place c.args.line.now c.args.here.now.kinds c.pass_line.new.kinds c.args.here.now.reached c.goes_on-here.result c.args.here.now.inside c.args.here.now.results.now (get (pointwise nat_eq) c.args.here.now.labels) c.args.here.now.known c.requires.here c.requires.no_function c.requires.no_close c.pass_line.ensures c.goes_on-here.ensures;
  numbered = numbered_other c.args.here.now.scope.now c.args.here.now.place c.args.line.now c.args.here.now.number c.requires.here c.requires.no_function c.requires.no_close c.args.here.now.numbered;
}
