use Rattle.std.proofs.Common.{◌≡◌, drop}
use Rattle.std.specs.List.{list_all}
use Rattle.rl_defs.specs.CodeKinds.{listed, kind_in}
use Rattle.rl_defs.specs.CodeRules.{same_kind}
use Rattle.domain_checker.proofs.jumps.are_listed.Given as goal

abbrev pub invariant-items : goal.invariant-items
invariant-items l = list_all (λ w. same_kind w.kind (kind_in l.kinds w.register)) (listed l.tables (drop l.item-index l.items)) ≡ list_all (λ w. same_kind w.kind (kind_in l.kinds w.register)) (listed l.tables l.items)
