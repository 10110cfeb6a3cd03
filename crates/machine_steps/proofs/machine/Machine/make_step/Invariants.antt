use Rattle.machine_steps.proofs.machine.Machine.make_step.Given as goal

abbrev pub ghosts-kill_one : goal.ghosts-kill_one
ghosts-kill_one a = record { name = a.blank.name; parts = a.blank.parts }
