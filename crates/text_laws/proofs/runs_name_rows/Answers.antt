use Rattle.text_laws.proofs.RunRows.{runs_name_rows}
use Rattle.text_laws.proofs.runs_name_rows.Goals as goal

pub returns : goal.returns
returns c = runs_name_rows
