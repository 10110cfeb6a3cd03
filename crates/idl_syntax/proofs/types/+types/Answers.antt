use Rattle.std.proofs.Common.{arith}
use Rattle.rl_text.proofs.ManyLaws.{is_true, is_false}
use Rattle.idl_syntax.proofs.TypeLaws.{type_lent}
use Rattle.idl_syntax.proofs.types.+types.Goals as goal

pub type_of-returns-then-skip_mark-2 : goal.type_of-returns-then-skip_mark-2
type_of-returns-then-skip_mark-2 t c =
    let a = is_false _ _ _ c.if-skip_mark.false c.skip_mark.ensures in
    let b = is_true _ _ _ c.if-skip_mark-2.true c.skip_mark-2.ensures in
    let b2 = rw a.1 at b in
    rw (type_lent c.args.room c.args.left.now _ (omega arith) a.0 b2) c.lent.ensures
