use Rattle.bundle_syntax.proofs.ClientLaws.{reading}
use Rattle.bundle_syntax.proofs.clients.read.read_clients.Goals as goal

pub read_lines-requires-clause-reading : goal.read_lines-requires-clause-reading
read_lines-requires-clause-reading c = reading
