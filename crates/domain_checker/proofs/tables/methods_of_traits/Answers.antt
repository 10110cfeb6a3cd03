use Rattle.std.proofs.Common.{◌≡◌, List, length, refl, ap, ◌∙◌, map, Some, nat_eq, slice_get}
use Rattle.rl_defs.specs.declared.tables.MethodRow.{MethodRow}
use Rattle.rl_defs.specs.Interfaces.{place_of}
use Rattle.std.specs.Cmp.Lexicographic.{pointwise}
use Rattle.std.proofs.lemmas.Option.{slice_get_read}
use Rattle.indexmap.specs.IndexMap.{get}
use Rattle.domain_checker.proofs.Looks.{looks_more}
use Rattle.domain_checker.proofs.tables.methods_of_traits.Goals as goal

pub traits-preserved : goal.traits-preserved
traits-preserved c =
    let here : slice_get c.args.traits.now c.traits.row-index ≡ Some c.row-item.result = slice_get_read c.args.traits.now (length c.args.traits.now) c.traits.row-index c.row-item.result refl c.traits-test.true c.row-item.is in
    looks_more (get (pointwise nat_eq)) c.traits.all.items c.push.new.all.items c.args.traits.now c.traits.row-index c.in_ok-table.table c.row-item.result c.in_ok-push.ensures here c.traits.invariant (λ q. c.in_ok-table.ensures q ∙ ap (λ (ms : List MethodRow). place_of q (map (λ m. m.name) ms)) c.as_slice.ensures)
