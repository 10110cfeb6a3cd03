use Rattle.std.proofs.Common.{◌+◌, ◌*◌}
use Rattle.idl_syntax.proofs.types.+types.Given as goal

abbrev pub decreases-array : goal.decreases-array
decreases-array l = 3 * l.room + 2

abbrev pub decreases-boxed : goal.decreases-boxed
decreases-boxed l = 3 * l.room + 2

abbrev pub decreases-in_wrap : goal.decreases-in_wrap
decreases-in_wrap l = 3 * l.room + 1

abbrev pub decreases-lent : goal.decreases-lent
decreases-lent l = 3 * l.room + 2

abbrev pub decreases-pointer : goal.decreases-pointer
decreases-pointer l = 3 * l.room + 2

abbrev pub decreases-type_of : goal.decreases-type_of
decreases-type_of l = 3 * l.room
