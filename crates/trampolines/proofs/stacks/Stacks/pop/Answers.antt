use Rattle.std.proofs.Common.{◌≡◌, ◌∙◌, ◌+◌, ◌-◌, ◌<◌, ◌≤◌, List, ℕ, Some, length, ap, sym, arith}
use Rattle.machine_defs.specs.declared.frame.Frame.{Frame}
use Rattle.trampolines.specs.Words.{stack_of, top, below_top}
use Rattle.trampolines.specs.Laid.{Laid}
use Rattle.trampolines.proofs.Counting.{at_place, put_there, top_counted, laid_pop, within_laid, number_laid}
use Rattle.trampolines.proofs.stacks.Stacks.pop.Goals as goal

pub overflow_sub-frame : goal.overflow_sub-frame
overflow_sub-frame g c =
    (top_counted c.self.inside.counts.items c.self.inside.stacks.items _ c.index_mut.result.now c.pop-frame.result c.self.invariant
    (within_laid c.self.inside.stacks.items c.args.self.now.frames c.args.t (ap (λ (v : Laid g.row.N.Denot). v.frames) c.self.view_is) c.requires.a_client)
    c.index_mut.ensures.value c.pop-frame.ensures.gives).0

pub index_mut-requires-2 : goal.index_mut-requires-2
index_mut-requires-2 g c =
    let known : (0 < c.pop-frame.result.instance) × (c.pop-frame.result.instance ≤ length c.self.inside.counts.items) × _ =
    top_counted c.self.inside.counts.items c.self.inside.stacks.items _ c.index_mut.result.now c.pop-frame.result c.self.invariant
    (within_laid c.self.inside.stacks.items c.args.self.now.frames c.args.t (ap (λ (v : Laid g.row.N.Denot). v.frames) c.self.view_is) c.requires.a_client)
    c.index_mut.ensures.value c.pop-frame.ensures.gives in
    omega (arith, known.0, known.1)

pub overflow_sub-index_mut : goal.overflow_sub-index_mut
overflow_sub-index_mut g c =
    number_laid c.self.inside.counts.items c.self.inside.stacks.items _ c.index_mut-2.result.now c.index_mut.result.now c.pop-frame.result c.self.invariant
    (within_laid c.self.inside.stacks.items c.args.self.now.frames c.args.t (ap (λ (v : Laid g.row.N.Denot). v.frames) c.self.view_is) c.requires.a_client)
    c.index_mut.ensures.value c.pop-frame.ensures.gives c.index_mut-2.ensures.value

pub invariant_of-self : goal.invariant_of-self
invariant_of-self g c =
    laid_pop c.self.inside.counts.items c.self.inside.stacks.items _ c.index_mut-2.result.now c.index_mut.result.now c.pop-frame.new.self c.pop-frame.result
    c.self.invariant
    (within_laid c.self.inside.stacks.items c.args.self.now.frames c.args.t (ap (λ (v : Laid g.row.N.Denot). v.frames) c.self.view_is) c.requires.a_client)
    c.index_mut.ensures.value c.pop-frame.ensures.gives c.pop-frame.ensures.leaves c.index_mut-2.ensures.value

pub returns-clause-gives : goal.returns-clause-gives
returns-clause-gives g c =
    ap (λ (xs : List (Frame g.row.N.Denot)). top xs) (sym (at_place c.self.inside.stacks.items c.args.self.now.frames c.args.t c.index_mut.result.now
    (ap (λ (v : Laid g.row.N.Denot). v.frames) c.self.view_is) c.requires.a_client c.index_mut.ensures.value)) ∙ c.pop-frame.ensures.gives

pub returns-clause-frames : goal.returns-clause-frames
returns-clause-frames g c =
    put_there c.self.inside.stacks.items c.args.self.now.frames _ c.pop-frame.new.self _ (ap (λ (v : Laid g.row.N.Denot). v.frames) c.self.view_is)
    (c.pop-frame.ensures.leaves ∙ ap (λ (xs : List (Frame g.row.N.Denot)). below_top xs)
    (at_place c.self.inside.stacks.items c.args.self.now.frames c.args.t c.index_mut.result.now
    (ap (λ (v : Laid g.row.N.Denot). v.frames) c.self.view_is) c.requires.a_client c.index_mut.ensures.value))
