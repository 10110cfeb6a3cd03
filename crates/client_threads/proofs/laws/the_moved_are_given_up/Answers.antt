use Rattle.client_threads.proofs.Moved.{moved_given_up}
use Rattle.client_threads.proofs.laws.the_moved_are_given_up.Goals as goal

pub returns : goal.returns
returns c = moved_given_up
