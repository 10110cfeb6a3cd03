use Rattle.history_text.proofs.items.read_numbers.Goals as goal

pub returns : goal.returns
returns c = c.read_list.ensures
