use Rattle.std.proofs.Common.{◌≡◌, ap}
use Rattle.trampolines.specs.Laid.{Laid}
use Rattle.trampolines.proofs.Holding.{entered_none, entered_by, at_zero, past_counts, counted_at}
use Rattle.trampolines.proofs.stacks.Stacks.is_entered.Goals as goal

pub returns-then-i-eq0 : goal.returns-then-i-eq0
returns-then-i-eq0 g c =
    entered_none c.self.inside.counts.items c.self.inside.stacks.items c.args.self.now.frames c.args.i c.self.invariant.counted
    (ap (λ (v : Laid g.row.N.Denot). v.frames) c.self.view_is) (at_zero c.self.inside.counts.items c.args.i c.if-i-eq0.true)

pub returns-then-i-counts : goal.returns-then-i-counts
returns-then-i-counts g c =
    entered_none c.self.inside.counts.items c.self.inside.stacks.items c.args.self.now.frames c.args.i c.self.invariant.counted
    (ap (λ (v : Laid g.row.N.Denot). v.frames) c.self.view_is)
    (past_counts c.self.inside.counts.items c.as_slice-counts.result.now c.args.i c.as_slice-counts.ensures.value c.if-i-counts.true)

pub returns : goal.returns
returns g c =
    entered_by c.self.inside.counts.items c.self.inside.stacks.items c.args.self.now.frames c.args.i _ c.self.invariant.counted
    (ap (λ (v : Laid g.row.N.Denot). v.frames) c.self.view_is)
    (counted_at c.self.inside.counts.items c.as_slice-counts.result.now c.args.i c.as_slice-counts.ensures.value c.if-i-eq0.false c.if-i-counts.false)
