use Rattle.std.proofs.Common.{◌≡◌, ◌∙◌, List, ap}
use Rattle.machine_defs.specs.declared.frame.Frame.{Frame}
use Rattle.trampolines.specs.Words.{top, top_standing_at}
use Rattle.trampolines.specs.Laid.{Laid}
use Rattle.trampolines.proofs.Counting.{at_place, put_there, laid_stand, within_laid}
use Rattle.trampolines.proofs.stacks.Stacks.set_code.Goals as goal

pub invariant_of-self : goal.invariant_of-self
invariant_of-self g c =
    laid_stand c.self.inside.counts.items c.self.inside.stacks.items _ c.args.line c.args.registers.now c.index_mut.result.now c.set_code.new.self
    c.self.invariant
    (within_laid c.self.inside.stacks.items c.args.self.now.frames c.args.t (ap (λ (v : Laid g.row.N.Denot). v.frames) c.self.view_is) c.requires.a_client)
    c.index_mut.ensures.value c.set_code.ensures

pub returns-clause-frames : goal.returns-clause-frames
returns-clause-frames g c =
    put_there c.self.inside.stacks.items c.args.self.now.frames _ c.set_code.new.self _ (ap (λ (v : Laid g.row.N.Denot). v.frames) c.self.view_is)
    (c.set_code.ensures ∙ ap (λ (xs : List (Frame g.row.N.Denot)). top_standing_at c.args.line c.args.registers.now xs (top xs))
    (at_place c.self.inside.stacks.items c.args.self.now.frames c.args.t c.index_mut.result.now
    (ap (λ (v : Laid g.row.N.Denot). v.frames) c.self.view_is) c.requires.a_client c.index_mut.ensures.value))
