use Rattle.rl_defs.specs.IdlParts.{interface_part}
use Rattle.rl_text.proofs.PartRules.{one_standing}
use Rattle.idl_syntax.proofs.IdlLaws.{interface_forms}
use Rattle.idl_syntax.proofs.laws.one_part.Goals as goal

pub returns : goal.returns
returns c = one_standing interface_part interface_forms
