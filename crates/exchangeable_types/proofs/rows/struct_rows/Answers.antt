use Rattle.std.proofs.Common.{◌∙◌, arith, rules}
use Rattle.exchangeable_types.proofs.RowSteps.{rowing_begins, rowing_ends, first_refused}
use Rattle.exchangeable_types.proofs.rows.struct_rows.Goals as goal

pub returns-in_err-next_row : goal.returns-in_err-next_row
returns-in_err-next_row c = let refused = first_refused c.args.part.now.lines.now c.structs.rows c.structs.number _ c.requires c.structs.invariant.rowing.to c.in_err-next_row.ensures.err in search rules

pub returns : goal.returns
returns c = rowing_ends c.args.part.now.lines.now c.structs.states.items c.structs.seen.items c.structs.rows c.structs.number c.structs.invariant.rowing (omega (arith, c.count-number-end.ensures))

pub structs-init : goal.structs-init
structs-init c = record {
  rowing = rowing_begins c.args.part.now.lines.now c.in_ok-states.states.items c.in_ok-seen.seen.items c.from_vec-rows.result c.in_ok-states.ensures c.in_ok-seen.ensures.searching (c.from_vec-rows.ensures ∙ c.in_ok-room.ensures.items);
  passing = c.in_ok-passed.ensures.passing;
}
