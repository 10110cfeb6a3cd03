use Rattle.text_laws.proofs.Apart.{texts_apart}
use Rattle.text_laws.proofs.texts_are_apart.Goals as goal

pub returns : goal.returns
returns c = texts_apart
