use Rattle.std.proofs.Common.{arith}
use Rattle.rl_text.proofs.ListPlaces.{first_one}
use Rattle.text_cases.proofs.idl.written.Goals as goal

pub read_idl-requires-clause-room : goal.read_idl-requires-clause-room
read_idl-requires-clause-room c = let first = first_one _ _ c.in_ok-all.ensures.numbered in rw c.deref.ensures.value (omega (arith, first, c.in_ok-all.ensures.count))
