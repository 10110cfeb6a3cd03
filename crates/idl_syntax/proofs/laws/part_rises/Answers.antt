use Rattle.idl_syntax.proofs.PartNumbers as numbers
use Rattle.idl_syntax.proofs.laws.part_rises.Goals as goal

pub returns-clause-rises : goal.returns-clause-rises
returns-clause-rises c = numbers.part_rises

pub returns-clause-short : goal.returns-clause-short
returns-clause-short c = numbers.part_is_short
