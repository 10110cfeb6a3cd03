use Rattle.std.proofs.Common.{◌∙◌, arith}
use Rattle.exchangeable_types.proofs.Starts.{starts_count, starts_read}
use Rattle.rl_defs.proofs.Places.{get_within}
use Rattle.exchangeable_types.proofs.walk.start_of.Goals as goal

pub bounds-as_slice-number : goal.bounds-as_slice-number
bounds-as_slice-number c = omega (arith, c.requires, starts_count c.args.part.now.lines.now c.as_slice.result.now (c.as_slice.ensures ∙ c.args.part.now.begins))

pub returns-clause-start : goal.returns-clause-start
returns-clause-start c = starts_read c.args.part.now.lines.now c.as_slice.result.now c.args.number 0 (c.as_slice.ensures ∙ c.args.part.now.begins) (omega (arith, c.requires, starts_count c.args.part.now.lines.now c.as_slice.result.now (c.as_slice.ensures ∙ c.args.part.now.begins)))

pub returns-clause-below : goal.returns-clause-below
returns-clause-below c =
    let h = starts_read c.args.part.now.lines.now c.as_slice.result.now c.args.number 0 (c.as_slice.ensures ∙ c.args.part.now.begins) (omega (arith, c.requires, starts_count c.args.part.now.lines.now c.as_slice.result.now (c.as_slice.ensures ∙ c.args.part.now.begins))) in
    get_within c.args.part.now.lines.now _ _ h.here
