use Rattle.bundle_syntax.proofs.WriteLaws.{plan_verb}
use Rattle.bundle_syntax.proofs.plan.write.put_verb.Goals as goal

pub word-requires : goal.word-requires
word-requires c = rw c.verb_text.ensures (plan_verb c.args.verb)
