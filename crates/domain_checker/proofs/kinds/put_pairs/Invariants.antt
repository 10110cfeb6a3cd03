use Rattle.std.proofs.Common.{◌≡◌, drop}
use Rattle.rl_defs.specs.CodeKinds.{put_all, paired}
use Rattle.domain_checker.proofs.kinds.put_pairs.Given as goal

abbrev pub invariant-pairs : goal.invariant-pairs
invariant-pairs l = put_all (paired (drop l.k l.listed) (drop l.k l.registers)) l.kinds ≡ put_all (paired l.listed l.registers) l.initial.kinds
