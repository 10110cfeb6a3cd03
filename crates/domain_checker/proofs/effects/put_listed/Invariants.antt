use Rattle.std.proofs.Common.{◌≡◌, drop}
use Rattle.rl_defs.specs.CodeKinds.{put_all, listed}
use Rattle.domain_checker.proofs.effects.put_listed.Given as goal

abbrev pub invariant-items : goal.invariant-items
invariant-items l = put_all (listed l.tables (drop l.item-index l.items)) l.kinds ≡ put_all (listed l.tables l.items) l.initial.kinds
