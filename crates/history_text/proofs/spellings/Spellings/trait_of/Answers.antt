use Rattle.history_text.proofs.spellings.Spellings.trait_of.Goals as goal

pub returns-in-None : goal.returns-in-None
returns-in-None c = cc (c.trait_of.ensures, c.load_of_target-load.ensures, c.self.view_is)
