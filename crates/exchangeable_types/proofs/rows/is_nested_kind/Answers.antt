use Rattle.std.proofs.Common.{◌<◌, ◌≤◌, ◌∷◌, [], List, Bool, false, Some, length, get_or, arith, sym, ap, subst, ◌∙◌}
use Rattle.std.proofs.lemmas.Option.{slice_get-get_or}
use Rattle.rl_defs.specs.Interfaces.{struct_names}
use Rattle.rl_defs.specs.declared.tables.Kind.{Kind}
use Rattle.exchangeable_types.specs.Search.{IsSearch}
use Rattle.exchangeable_types.specs.Rows.{NestedCell, IsNested}
use Rattle.exchangeable_types.proofs.Searches.{search_ends}
use Rattle.exchangeable_types.proofs.RowLaws.{search_answer, ok_maps, own_not_nested, none_there}
use Rattle.exchangeable_types.proofs.rows.is_nested_kind.Goals as goal

pub returns-then-held-count : goal.returns-then-held-count
returns-then-held-count c =
    let beyond : length (struct_names c.args.part.now.lines.now) ≤ c.in-Own.held = omega (arith, c.count.ensures) in
    (c.requires, subst (λ (x : Kind). NestedCell c.args.part.now.lines.now (x ∷ []) → ⊥) (sym c.in-Own.is) (own_not_nested c.args.part.now.lines.now c.in-Own.held (none_there c.args.part.now.lines.now c.in-Own.held beyond)))

pub returns-then-as_slice-held : goal.returns-then-as_slice-held
returns-then-as_slice-held c =
    let lt : c.in-Own.held < length c.args.seen.now.items = omega (arith, c.count.ensures, c.requires.count) in
    let here = slice_get-get_or c.args.seen.now.items c.in-Own.held false lt ∙ ap (λ (b : Bool). Some b) (ap (λ (xs : List Bool). get_or xs c.in-Own.held false) (sym c.as_slice.ensures.value) ∙ c.if-as_slice-held.true) in
    search_answer c.args.part.now.lines.now c.args.kind c.in-Own.held c.args.seen.now.items false c.in-Own.is (c.requires, search_ends c.args.part.now.lines.now c.args.seen.now.items c.in-Own.held c.requires here)

pub returns-else-as_slice-held : goal.returns-else-as_slice-held
returns-else-as_slice-held c = ok_maps c.search.result (IsSearch c.args.part.now.lines.now c.search.new.seen.items c.in-Own.held) (IsNested c.args.part.now.lines.now (c.args.kind ∷ []) c.search.new.seen.items) c.search.ensures (λ found h. search_answer c.args.part.now.lines.now c.args.kind c.in-Own.held c.search.new.seen.items found c.in-Own.is h)
