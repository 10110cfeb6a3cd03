use Rattle.std.proofs.Common.{sym, ◌∙◌, ap, arith}
use Rattle.code_runs.proofs.Seeing.{few_place}
use Rattle.code_runs.proofs.rows.trait_number.Goals as goal

pub overflow_cast-result : goal.overflow_cast-result
overflow_cast-result c =
    let lt = few_place (λ row. row.name) c.args.name.now c.as_slice.result.now c.args.domain.now.tables.traits c.in-Some.place (c.as_slice.ensures ∙ ap (λ t. t.traits) c.tables.ensures) c.lines.ensures.keeps.small.few_traits (sym c.place_of.ensures ∙ c.in-Some.is) in
    omega arith
