use Rattle.std.proofs.Common.{sym, ◌∙◌, ap, arith}
use Rattle.code_runs.proofs.Seeing.{few_place}
use Rattle.code_runs.proofs.rows.struct_number.Goals as goal

pub overflow_cast-result : goal.overflow_cast-result
overflow_cast-result c =
    let lt = few_place (λ row. row.name) c.args.name.now c.as_slice.result.now c.args.domain.now.tables.structs c.in-Some.place (c.as_slice.ensures ∙ ap (λ t. t.structs) c.tables.ensures) c.lines.ensures.keeps.small.few_structs (sym c.place_of.ensures ∙ c.in-Some.is) in
    omega arith
