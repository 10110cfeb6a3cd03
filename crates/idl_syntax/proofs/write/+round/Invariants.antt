use Rattle.std.proofs.Common.{◌+◌, ◌*◌, length}
use Rattle.idl_syntax.proofs.write.+round.Given as goal

abbrev pub decreases-put_angled : goal.decreases-put_angled
decreases-put_angled l = 2 * length l.wraps.now + 2

abbrev pub decreases-put_array : goal.decreases-put_array
decreases-put_array l = 2 * length l.wraps.now + 2

abbrev pub decreases-put_behind : goal.decreases-put_behind
decreases-put_behind l = 2 * length l.wraps.now + 2

abbrev pub decreases-put_round : goal.decreases-put_round
decreases-put_round l = 2 * length l.wraps.now + 1
