use Rattle.domain_code.proofs.WriteLaws.{verb_name}
use Rattle.domain_code.proofs.write.put_verb.Goals as goal

pub word-requires : goal.word-requires
word-requires c = rw c.verb_text.ensures (verb_name c.args.verb)
