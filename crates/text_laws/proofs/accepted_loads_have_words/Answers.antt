use Rattle.text_laws.proofs.AcceptedWords.{accepted_words}
use Rattle.text_laws.proofs.accepted_loads_have_words.Goals as goal

pub returns : goal.returns
returns c = accepted_words
