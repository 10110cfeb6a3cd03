use Rattle.std.proofs.Common.{◌≡◌, List, min, Some, refl, sym, ap, ◌∙◌}
use Rattle.rl_defs.specs.declared.idl.Wrap.{Wrap}
use Rattle.rl_defs.specs.Flattening.{times_of}
use Rattle.exchangeable_types.specs.declared.walk.State.{State}
use Rattle.exchangeable_types.specs.declared.walk.State.TheVariants.{Ended}
use Rattle.exchangeable_types.proofs.Capping.{cells_plain, cells_fields, nothing_more, kind_more}
use Rattle.exchangeable_types.proofs.Walks.{read_state}
use Rattle.exchangeable_types.proofs.walk.add.Goals as goal

pub returns-in_default-kind_held : goal.returns-in_default-kind_held
returns-in_default-kind_held c = λ passed h.
    cells_plain c.args.part.now.lines.now 512 passed c.args.ty.now c.args.cells c.args.cells (sym c.in_default.ensures) (λ before k. nothing_more c.args.part.now.lines.now 512 (times_of c.args.ty.now.wraps) c.args.ty.now before c.args.cells (sym c.in_default-kind_held.ensures) k) h

pub returns-in_default : goal.returns-in_default
returns-in_default c = λ passed h.
    cells_plain c.args.part.now.lines.now 512 passed c.args.ty.now c.args.cells c.in_ok-put.field-0 (sym c.in_default.ensures) (λ before k. kind_more c.args.part.now.lines.now 512 (times_of c.args.ty.now.wraps) c.args.ty.now c.in-Some-kind_held.kind before c.in_ok-put.field-0 (sym c.in-Some-kind_held.ensures) (c.in_ok-put.ensures before (times_of c.args.ty.now.wraps) k (c.times-times.ensures ∙ ap (λ (ws : List Wrap). min 513 (times_of ws)) c.as_slice.ensures))) h

pub returns-in_ok-put_struct-in-Ended : goal.returns-in_ok-put_struct-in-Ended
returns-in_ok-put_struct-in-Ended c = λ passed h.
    let state = read_state c.args.states.now c.in-Some.held c.index-states-held.result (c.requires.declared c.in-Some.held (sym c.in-Some.ensures)) c.index-states-held.is in
    let known = c.requires.known c.in-Some.held c.in-Ended.inner (state ∙ ap (λ (x : State). Some x) c.in-Ended.is) in
    cells_fields c.args.part.now.lines.now 512 passed c.args.ty.now c.in-Some.held known.kinds c.args.cells c.in_ok-put_struct-in-Ended.field-0 (sym c.in-Some.ensures) known.flat (λ before k. c.in_ok-put_struct-in-Ended.ensures before known.kinds (times_of c.args.ty.now.wraps) k known.capped (c.times-times.ensures ∙ ap (λ (ws : List Wrap). min 513 (times_of ws)) c.as_slice.ensures)) h

pub returns-in_default-states : goal.returns-in_default-states
returns-in_default-states c =
    let state = read_state c.args.states.now c.in-Some.held c.index-states-held.result (c.requires.declared c.in-Some.held (sym c.in-Some.ensures)) c.index-states-held.is in
    (refl, record { held = sym c.in-Some.ensures; unended = λ cells e. let same : Some c.index-states-held.result ≡ Some (Ended cells) = sym state ∙ e in let is : c.index-states-held.result ≡ Ended cells = cc in c.in_default-states.not-Ended cells is })
