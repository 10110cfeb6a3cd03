use Rattle.bundle_syntax.proofs.WriteLaws.{client_verb}
use Rattle.bundle_syntax.proofs.clients.write.put_verb.Goals as goal

pub word-requires : goal.word-requires
word-requires c = rw c.verb_text.ensures (client_verb c.args.verb)
