use Rattle.std.proofs.Common.{◌≡◌, sym, refl, nat_eq, Some}
use Rattle.std.specs.Cmp.Lexicographic.{pointwise}
use Rattle.std.specs.Prelude.{slice_get, length}
use Rattle.std.proofs.lemmas.Option.{slice_get_read}
use Rattle.indexmap.specs.IndexMap.{get}
use Rattle.rl_defs.specs.Interfaces.{trait_name}
use Rattle.exchangeable_types.proofs.Naming.{counted_more, counted_same}
use Rattle.exchangeable_types.proofs.part.traits_by_name.Goals as goal
use Rattle.exchangeable_types.proofs.part.traits_by_name.Goals.{in-Some+in_ok-note, in_default}

pub lines-preserved : goal.lines-preserved
lines-preserved c =
    let here : slice_get c.args.lines.now c.lines.line-index ≡ Some c.line-item.result = slice_get_read c.args.lines.now (length c.args.lines.now) c.lines.line-index c.line-item.result refl c.lines-test.true c.line-item.is in
    elim c.match-trait_name.branch [
      | in-Some+in_ok-note w ↦ rw (w.table-is, w.count-is) (counted_more trait_name c.args.lines.now c.lines.line-index c.lines.count (get (pointwise nat_eq) c.lines.table) (get (pointwise nat_eq) w.note.new.table) c.line-item.result w.in-Some.name c.lines.invariant here (sym w.in-Some.ensures) (λ q. w.in_ok-note.ensures q))
      | in_default w ↦ rw (w.table-is, w.count-is) (counted_same trait_name c.args.lines.now c.lines.line-index c.lines.count (get (pointwise nat_eq) c.lines.table) c.line-item.result c.lines.invariant here (sym w.in_default.ensures))
    ]
