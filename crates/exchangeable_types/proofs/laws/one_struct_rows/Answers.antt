use Rattle.rl_defs.proofs.FlatteningLaws.{struct_rows_once}
use Rattle.exchangeable_types.proofs.laws.one_struct_rows.Goals as goal

pub returns : goal.returns
returns c = struct_rows_once
