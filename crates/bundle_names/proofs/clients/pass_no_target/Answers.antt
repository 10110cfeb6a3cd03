use Rattle.std.proofs.Common.{◌∙◌}
use Rattle.rl_defs.specs.NameRules.{target_passed}
use Rattle.bundle_names.proofs.Binding.{unknown_among}
use Rattle.bundle_names.proofs.clients.pass_no_target.Goals as goal

pub returns : goal.returns
returns c = c.one_passes_no_target.ensures ∙ unknown_among target_passed c.args.targets.now c.args.args.now
