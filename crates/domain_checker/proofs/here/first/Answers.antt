use Rattle.std.proofs.Common.{refl, sym, subst, [], false, nat_eq, rules}
use Rattle.std.specs.Cmp.Lexicographic.{pointwise}
use Rattle.indexmap.specs.IndexMap.{get}
use Rattle.rl_defs.specs.CodeKinds.{Kinds}
use Rattle.domain_checker.specs.Knowing.{Known}
use Rattle.domain_checker.proofs.Stepping.{known_first}
use Rattle.domain_checker.proofs.here.first.Goals as goal

pub invariant_of-result : goal.invariant_of-result
invariant_of-result c = record {
  known = subst (λ (ks : Kinds). Known c.args.scope.now 0 ks false false [] (get (pointwise nat_eq) c.new.result)) (sym c.no_kinds.ensures) (known_first c.args.scope.now (get (pointwise nat_eq) c.new.result) c.lines.ensures.short (λ q. search rules));
  numbered = refl;
}
