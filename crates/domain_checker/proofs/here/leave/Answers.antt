use Rattle.std.proofs.Common.{arith, nat_eq, rules}
use Rattle.std.specs.Cmp.Lexicographic.{pointwise}
use Rattle.indexmap.specs.IndexMap.{get}
use Rattle.domain_checker.proofs.Stepping.{known_close, numbered_close}
use Rattle.domain_checker.proofs.here.leave.Goals as goal

pub overflow_add-here : goal.overflow_add-here
overflow_add-here c = omega (arith, c.args.here.now.known.short, c.args.here.now.known.within)

pub invariant_of-here : goal.invariant_of-here
invariant_of-here c = record {
  known = known_close c.args.here.now.scope.now c.args.here.now.place c.args.line.now c.args.here.now.kinds c.pass_line.new.kinds c.goes_on-here.result (get (pointwise nat_eq) c.new.result) c.args.here.now.known.short c.requires.here c.requires.close c.args.here.now.known.kinds_are c.pass_line.ensures c.goes_on-here.ensures (λ q. search rules);
  numbered = numbered_close c.args.here.now.scope.now c.args.here.now.place c.args.line.now c.requires.here c.requires.close;
}
