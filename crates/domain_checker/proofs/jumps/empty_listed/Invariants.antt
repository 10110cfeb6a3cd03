use Rattle.std.proofs.Common.{◌≡◌, drop, map}
use Rattle.rl_defs.specs.CodeRules.{without}
use Rattle.domain_checker.proofs.jumps.empty_listed.Given as goal

abbrev pub invariant-items : goal.invariant-items
invariant-items l = without (map (λ item. item.register) (drop l.item-index l.items)) l.kinds ≡ without (map (λ item. item.register) l.items) l.initial.kinds
