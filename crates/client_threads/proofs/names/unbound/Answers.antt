use Rattle.std.proofs.Common.{◌∙◌, ap, length}
use Rattle.client_threads.proofs.Naming.{more_unbound}
use Rattle.client_threads.proofs.names.unbound.Goals as goal
use Rattle.rl_defs.specs.declared.load.Command.{Command}
use Rattle.rl_defs.specs.Rows.{bound_by}

pub commands-preserved : goal.commands-preserved
commands-preserved c =
    more_unbound c.args.commands.now c.commands.command-index _ c.command-item.result _ _ c.commands-test.true
    (c.count_of_bound.ensures ∙ ap (λ (d : Command). length (bound_by d)) c.command-item.is) c.in_ok-add_unbound.ensures
    ∙ c.commands.invariant
