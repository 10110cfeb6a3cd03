use Rattle.idl_syntax.proofs.IdlLaws.{reading}
use Rattle.idl_syntax.proofs.part.read_idl.Goals as goal

pub read_lines-requires-clause-reading : goal.read_lines-requires-clause-reading
read_lines-requires-clause-reading c = reading
