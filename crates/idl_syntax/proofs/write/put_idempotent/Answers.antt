use Rattle.idl_syntax.proofs.WriteLaws.{idempotent_name}
use Rattle.idl_syntax.proofs.write.put_idempotent.Goals as goal

pub word-requires : goal.word-requires
word-requires c = idempotent_name
