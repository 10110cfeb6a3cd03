use Rattle.std.proofs.Common.{◌≡◌, sym, ◌∙◌, ap, arith, ◌+◌, length, slice_get, subst, refl, List, Some, map, ◌++◌, ◌∷◌, []}
use Rattle.std.specs.List.{range_with_len}
use Rattle.rl_defs.specs.declared.load.ShadowRow.{ShadowRow}
use Rattle.std.proofs.lemmas.Option.{slice_get_read}
use Rattle.std.proofs.lemmas.List.FromFn.{map-range_with_len_more}
use Rattle.proxies.specs.Table.{Found, found_at, trait_of_load}
use Rattle.proxies.proofs.Found.{found_next, load_of_next}
use Rattle.proxies.proofs.table.find_shadows.Goals as goal

pub shadows-preserved : goal.shadows-preserved
shadows-preserved c =
    let count = length c.args.rows.now.loads + (c.shadows.shadow-index + 1) in
    let more = map-range_with_len_more (found_at c.args.rows.now) 1 (length c.args.rows.now.loads + c.shadows.shadow-index) count (omega arith) in
    let load = ap (λ (f : Found). f.load) c.found_in.ensures in
    let here = subst (λ (xs : List ShadowRow). slice_get xs c.shadows.shadow-index ≡ Some c.shadow-item.result) c.as_slice-shadow-items.ensures (slice_get_read c.as_slice-shadow-items.result.now (length c.as_slice-shadow-items.result.now) c.shadows.shadow-index c.shadow-item.result refl c.shadows-test.true c.shadow-item.is) in
    let next = found_next c.args.rows.now count c.found_in.result (load ∙ sym (load_of_next c.args.rows.now c.shadows.shadow-index c.shadow-item.result here)) (ap (λ (f : Found). f.has) c.found_in.ensures ∙ ap (trait_of_load c.args.rows.now) (sym load)) in
    let same : length c.args.rows.now.loads + c.shadows.shadow-index + 1 ≡ count = omega arith in
    let before = map (found_at c.args.rows.now) (range_with_len 1 (length c.args.rows.now.loads + c.shadows.shadow-index)) in
    c.in_ok-push.ensures.items ∙ (ap (λ (xs : List Found). xs ++ c.found_in.result ∷ []) c.shadows.invariant ∙ (ap (λ (f : Found). before ++ f ∷ []) next ∙ (sym more ∙ ap (λ n. map (found_at c.args.rows.now) (range_with_len 1 n)) same)))
