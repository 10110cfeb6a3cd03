use Rattle.std.proofs.Common.{◌≡◌, drop}
use Rattle.rl_defs.specs.CodeKinds.{put_from}
use Rattle.domain_checker.proofs.kinds.put_each.Given as goal

abbrev pub invariant-params : goal.invariant-params
invariant-params l = put_from l.k (drop l.k l.params) l.kinds ≡ put_from 0 l.params l.initial.kinds
