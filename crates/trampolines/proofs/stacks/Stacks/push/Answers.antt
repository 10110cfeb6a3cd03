use Rattle.std.proofs.Common.{◌≡◌, ◌∙◌, ◌+◌, ◌-◌, ◌<◌, ◌≤◌, ◌^◌, ◌++◌, ◌∷◌, List, ℕ, [], length, ap, sym, arith}
use Rattle.machine_defs.specs.declared.frame.Frame.{Frame}
use Rattle.trampolines.specs.Words.{stack_of}
use Rattle.trampolines.specs.Laid.{Laid}
use Rattle.trampolines.proofs.Counting.{at_place, put_there, few_counted, laid_push, within_laid, counted_laid, high_laid}
use Rattle.trampolines.proofs.stacks.Stacks.push.Goals as goal

pub overflow_add-index_mut : goal.overflow_add-index_mut
overflow_add-index_mut g c =
    let few : c.index_mut.result.now < 2 ^ 37 =
    few_counted c.self.inside.counts.items c.self.inside.stacks.items c.args.frame.instance c.index_mut.result.now c.self.invariant
    c.requires.counted.0 (counted_laid c.self.inside.counts.items c.args.self.now.instances _ (ap (λ (v : Laid g.row.N.Denot). v.instances) c.self.view_is) c.requires.counted.1)
    c.index_mut.ensures.value in
    omega arith

pub push-requires : goal.push-requires
push-requires g c =
    high_laid c.self.inside.stacks.items c.args.self.now.frames c.args.t c.index_mut-2.result.now
    (ap (λ (v : Laid g.row.N.Denot). v.frames) c.self.view_is) c.requires.a_client c.index_mut-2.ensures.value c.requires.room

pub invariant_of-self : goal.invariant_of-self
invariant_of-self g c =
    laid_push c.self.inside.counts.items c.self.inside.stacks.items _ c.index_mut.result.now c.index_mut-2.result.now c.push.new.self c.args.frame
    c.self.invariant
    (within_laid c.self.inside.stacks.items c.args.self.now.frames c.args.t (ap (λ (v : Laid g.row.N.Denot). v.frames) c.self.view_is) c.requires.a_client)
    c.index_mut-2.ensures.value
    (high_laid c.self.inside.stacks.items c.args.self.now.frames c.args.t c.index_mut-2.result.now
    (ap (λ (v : Laid g.row.N.Denot). v.frames) c.self.view_is) c.requires.a_client c.index_mut-2.ensures.value c.requires.room)
    c.requires.counted.0 (counted_laid c.self.inside.counts.items c.args.self.now.instances _ (ap (λ (v : Laid g.row.N.Denot). v.instances) c.self.view_is) c.requires.counted.1)
    c.index_mut.ensures.value c.push.ensures

pub returns-clause-frames : goal.returns-clause-frames
returns-clause-frames g c =
    put_there c.self.inside.stacks.items c.args.self.now.frames _ c.push.new.self _ (ap (λ (v : Laid g.row.N.Denot). v.frames) c.self.view_is)
    (c.push.ensures ∙ ap (λ (xs : List (Frame g.row.N.Denot)). xs ++ c.args.frame ∷ [])
    (at_place c.self.inside.stacks.items c.args.self.now.frames c.args.t c.index_mut-2.result.now
    (ap (λ (v : Laid g.row.N.Denot). v.frames) c.self.view_is) c.requires.a_client c.index_mut-2.ensures.value))
