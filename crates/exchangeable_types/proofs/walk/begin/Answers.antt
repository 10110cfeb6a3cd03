use Rattle.std.proofs.Common.{refl}
use Rattle.exchangeable_types.proofs.Stack.{entered_more, first_visit}
use Rattle.exchangeable_types.proofs.walk.begin.Goals as goal

pub returns : goal.returns
returns c = entered_more c.args.part.now.lines.now c.args.states.now.items c.set.new.states.items c.args.stack.now _ _ c.requires.walking c.requires.new (first_visit c.args.part.now.lines.now c.args.number c.start_of.result c.new.result c.start_of.ensures.start c.new.ensures) c.requires.below c.set.ensures refl
