use Rattle.std.proofs.Common.{◌∙◌}
use Rattle.exchangeable_types.proofs.Starts.{starts_count}
use Rattle.exchangeable_types.proofs.Stack.{walked_none}
use Rattle.exchangeable_types.proofs.walk.walk.Goals as goal

pub structs-init : goal.structs-init
structs-init c = walked_none c.args.part.now.lines.now c.in_ok-states.states.items (c.in_ok-states.ensures.count ∙ c.len.ensures ∙ starts_count c.args.part.now.lines.now c.args.part.now.starts c.args.part.now.begins) c.in_ok-states.ensures.new
