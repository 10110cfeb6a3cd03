use Rattle.rref_heap.proofs.tests.what_an_owner_leaves_is_freed.Given as goal

abbrev pub ghosts-after_end : goal.ghosts-after_end
ghosts-after_end g a = record { name = a.blank.name; parts = a.blank.parts }
