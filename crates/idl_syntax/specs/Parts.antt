-- Reading an interface part line by line.
use Rattle.rl_defs.specs.IdlParts as parts
use Rattle.idl_syntax.specs.declared.part.Block.{Block}
use Rattle.idl_syntax.specs.declared.part.Block.TheVariants.{Outside, InStruct, InTrait, BeforeMethod}

abbrev pub block_of : Block → parts.IdlBlock
block_of Outside = parts.Outside
block_of InStruct = parts.InStruct
block_of InTrait = parts.InTrait
block_of BeforeMethod = parts.BeforeMethod
