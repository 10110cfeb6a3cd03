use Rattle.text_laws.proofs.ToldRuns.{accepted_runs_told}
use Rattle.text_laws.proofs.printed_histories_tell_runs.Goals as goal

pub returns : goal.returns
returns c = accepted_runs_told
