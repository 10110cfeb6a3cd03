use Rattle.std.proofs.Common.{◌∙◌}
use Rattle.rl_defs.specs.NameRules.{name_passed}
use Rattle.bundle_names.proofs.Binding.{unknown_among}
use Rattle.bundle_names.proofs.clients.pass_no_name.Goals as goal

pub returns : goal.returns
returns c = c.one_passes_no_name.ensures ∙ unknown_among name_passed c.args.bound.now c.args.args.now
