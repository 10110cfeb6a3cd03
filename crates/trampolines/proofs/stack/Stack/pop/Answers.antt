use Rattle.trampolines.proofs.Tops.{taken_gives, taken_leaves}
use Rattle.trampolines.proofs.stack.Stack.pop.Goals as goal

pub returns-clause-gives : goal.returns-clause-gives
returns-clause-gives g c = taken_gives c.args.self.now c.self.inside.frames.items c.pop.new.self.items c.in-Some.frame c.self.view_is c.in-Some.ensures.items

pub returns-clause-leaves : goal.returns-clause-leaves
returns-clause-leaves g c = taken_leaves c.args.self.now c.self.inside.frames.items c.pop.new.self.items c.in-Some.frame c.self.view_is c.in-Some.ensures.items
