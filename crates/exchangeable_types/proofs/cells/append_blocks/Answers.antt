use Rattle.std.proofs.Common.{◌++◌, List, ap, ◌∙◌}
use Rattle.rl_defs.specs.declared.tables.Kind.{Kind}
use Rattle.rl_defs.specs.Flattening.{copies}
use Rattle.exchangeable_types.proofs.Capping.{by_blocks}
use Rattle.exchangeable_types.proofs.Stack.{ok_then}
use Rattle.exchangeable_types.proofs.cells.append_blocks.Goals as goal

pub returns : goal.returns
returns c = ok_then c.append_times-3.result _ _ c.append_times-3.ensures (λ last.
    by_blocks c.args.times c.args.kinds.now c.as_slice.result.now c.args.items.now.items c.append_times-2.new.items.items c.append_times-3.new.items.items
    (c.as_slice.ensures.value ∙ c.in_ok-append_times.ensures ∙ ap (λ (ks : List Kind). ks ++ copies 16 c.args.kinds.now) (c.reserve.ensures ∙ c.new-block.ensures.items))
    c.in_ok-append_times-2.ensures last)
