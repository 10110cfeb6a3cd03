use Rattle.std.proofs.Common.{true, false, sym, ◌∙◌, ap, refl, arith, map, length}
use Rattle.std.proofs.lemmas.Option.{slice_get_read}
use Rattle.rl_defs.specs.declared.tables.MethodRow.{MethodRow}
use Rattle.rl_defs.specs.Domains.{trait_name}
use Rattle.rl_defs.specs.CodeNames.{trait_number, methods_of}
use Rattle.machine_defs.specs.CodeFits.{are_values}
use Rattle.machine_defs.specs.Arguments.{value_of}
use Rattle.code_runs.specs.Seen.{types_of}
use Rattle.code_runs.proofs.Entering.{place_lt, place_fits, arguments_fit, method_is}
use Rattle.code_runs.proofs.enter.method_for.Goals as goal

pub offset_bounds-methods-number : goal.offset_bounds-methods-number
offset_bounds-methods-number c =
    let few = place_fits c.args.domain.now.tables c.trait_number-of.result c.args.name.now c.methods_of-methods.result.now c.in_ok-number.number c.lines.ensures.keeps.small
    (c.methods_of-methods.ensures ∙ ap (λ t. methods_of t c.trait_number-of.result) c.tables.ensures) (sym c.place_of.ensures ∙ c.in_ok-number.was) in
    omega arith

pub bounds-methods-number : goal.bounds-methods-number
bounds-methods-number c = place_lt c.args.name.now c.methods_of-methods.result.now c.in_ok-number.number (sym c.place_of.ensures ∙ c.in_ok-number.was)

pub overflow_cast-result : goal.overflow_cast-result
overflow_cast-result c =
    let few = place_fits c.args.domain.now.tables c.trait_number-of.result c.args.name.now c.methods_of-methods.result.now c.in_ok-number.number c.lines.ensures.keeps.small
    (c.methods_of-methods.ensures ∙ ap (λ t. methods_of t c.trait_number-of.result) c.tables.ensures) (sym c.place_of.ensures ∙ c.in_ok-number.was) in
    omega arith

pub returns-then-args_are-clause-fits : goal.returns-then-args_are-clause-fits
returns-then-args_are-clause-fits c =
    let place = sym c.place_of.ensures ∙ c.in_ok-number.was in
    let lt = place_lt c.args.name.now c.methods_of-methods.result.now c.in_ok-number.number place in
    arguments_fit (types_of c.args.view.now) c.args.domain.now c.args.name.now c.trait_number-of.result c.in_ok-number.number c.methods_of-methods.result.now c.index-methods-number.result c.args.args.now
    (c.trait_number-of.ensures ∙ ap (trait_number c.args.domain.now.tables) (c.trait_name.ensures ∙ ap trait_name c.lines-2.ensures.value))
    (c.methods_of-methods.ensures ∙ ap (λ t. methods_of t c.trait_number-of.result) c.tables.ensures) place
    (slice_get_read c.methods_of-methods.result.now (length c.methods_of-methods.result.now) c.in_ok-number.number c.index-methods-number.result refl lt c.index-methods-number.is)
    (ap (λ (m : MethodRow). are_values (types_of c.args.view.now) m.params (map value_of c.args.args.now)) c.index-methods-number.is ∙ (sym (ap (λ ks. are_values (types_of c.args.view.now) ks (map value_of c.args.args.now)) c.as_slice.ensures) ∙ (sym c.args_are.ensures ∙ c.if-args_are.true)))

pub returns-then-args_are-clause-exact : goal.returns-then-args_are-clause-exact
returns-then-args_are-clause-exact c =
    let place = sym c.place_of.ensures ∙ c.in_ok-number.was in
    let lt = place_lt c.args.name.now c.methods_of-methods.result.now c.in_ok-number.number place in
    method_is (types_of c.args.view.now) c.args.domain.now c.args.name.now c.trait_number-of.result c.in_ok-number.number c.methods_of-methods.result.now c.index-methods-number.result c.args.args.now true
    (c.trait_number-of.ensures ∙ ap (trait_number c.args.domain.now.tables) (c.trait_name.ensures ∙ ap trait_name c.lines-2.ensures.value))
    (c.methods_of-methods.ensures ∙ ap (λ t. methods_of t c.trait_number-of.result) c.tables.ensures) place
    (slice_get_read c.methods_of-methods.result.now (length c.methods_of-methods.result.now) c.in_ok-number.number c.index-methods-number.result refl lt c.index-methods-number.is)
    (ap (λ (m : MethodRow). are_values (types_of c.args.view.now) m.params (map value_of c.args.args.now)) c.index-methods-number.is ∙ (sym (ap (λ ks. are_values (types_of c.args.view.now) ks (map value_of c.args.args.now)) c.as_slice.ensures) ∙ (sym c.args_are.ensures ∙ c.if-args_are.true)))

pub returns-else-args_are-clause-exact : goal.returns-else-args_are-clause-exact
returns-else-args_are-clause-exact c =
    let place = sym c.place_of.ensures ∙ c.in_ok-number.was in
    let lt = place_lt c.args.name.now c.methods_of-methods.result.now c.in_ok-number.number place in
    method_is (types_of c.args.view.now) c.args.domain.now c.args.name.now c.trait_number-of.result c.in_ok-number.number c.methods_of-methods.result.now c.index-methods-number.result c.args.args.now false
    (c.trait_number-of.ensures ∙ ap (trait_number c.args.domain.now.tables) (c.trait_name.ensures ∙ ap trait_name c.lines-2.ensures.value))
    (c.methods_of-methods.ensures ∙ ap (λ t. methods_of t c.trait_number-of.result) c.tables.ensures) place
    (slice_get_read c.methods_of-methods.result.now (length c.methods_of-methods.result.now) c.in_ok-number.number c.index-methods-number.result refl lt c.index-methods-number.is)
    (ap (λ (m : MethodRow). are_values (types_of c.args.view.now) m.params (map value_of c.args.args.now)) c.index-methods-number.is ∙ (sym (ap (λ ks. are_values (types_of c.args.view.now) ks (map value_of c.args.args.now)) c.as_slice.ensures) ∙ (sym c.args_are.ensures ∙ c.if-args_are.false)))
