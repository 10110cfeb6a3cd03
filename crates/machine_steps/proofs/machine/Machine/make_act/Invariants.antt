use Rattle.machine_steps.proofs.machine.Machine.make_act.Given as goal

abbrev pub ghosts-trap_one : goal.ghosts-trap_one
ghosts-trap_one a = record { name = a.blank.name; parts = a.blank.parts }
