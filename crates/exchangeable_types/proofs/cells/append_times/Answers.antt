use Rattle.std.proofs.Common.{◌++◌, List, sym, ap, ◌∙◌, append_assoc}
use Rattle.rl_defs.specs.declared.tables.Kind.{Kind}
use Rattle.rl_defs.specs.Flattening.{copies}
use Rattle.rl_defs.proofs.FlatteningLaws.{copies_more}
use Rattle.exchangeable_types.proofs.cells.append_times.Goals as goal

pub times-preserved : goal.times-preserved
times-preserved c =
    c.in_ok-append.ensures
    ∙ ap (λ (xs : List Kind). xs ++ c.args.kinds.now) c.times.invariant
    ∙ append_assoc c.args.items.now.items (copies c.times.counter c.args.kinds.now) c.args.kinds.now
    ∙ ap (λ (xs : List Kind). c.args.items.now.items ++ xs) (sym (copies_more c.times.counter c.args.kinds.now))
