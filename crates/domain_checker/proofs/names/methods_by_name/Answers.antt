use Rattle.std.proofs.Common.{◌≡◌, Some, length, nat_eq, refl, arith, slice_get}
use Rattle.std.specs.Cmp.Lexicographic.{pointwise}
use Rattle.std.proofs.lemmas.Option.{slice_get_read}
use Rattle.indexmap.specs.IndexMap.{get}
use Rattle.rl_defs.specs.declared.tables.MethodRow.{MethodRow}
use Rattle.domain_checker.proofs.Naming.{finds_row, finds_end}
use Rattle.domain_checker.proofs.names.methods_by_name.Goals as goal

pub methods-preserved : goal.methods-preserved
methods-preserved c =
    let here : slice_get c.args.methods.now c.methods.number ≡ Some c.index-methods-number.result = slice_get_read c.args.methods.now (length c.args.methods.now) c.methods.number c.index-methods-number.result refl c.methods-test.true c.index-methods-number.is in
    finds_row (λ (s : MethodRow). s.name) c.args.methods.now c.methods.number c.index-methods-number.result (get (pointwise nat_eq) c.methods.table) (get (pointwise nat_eq) c.note.new.table) here c.methods.invariant (λ q. c.in_ok-note.ensures.noted q)

pub returns : goal.returns
returns c = finds_end (λ (s : MethodRow). s.name) c.args.methods.now c.methods.number (get (pointwise nat_eq) c.methods.table) (omega arith) c.methods.invariant
