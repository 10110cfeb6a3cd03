-- Which block is open behind some lines.
use Rattle.rl_defs.specs.BundleParts as parts
use Rattle.bundle_syntax.specs.declared.plan.read.Block as plan
use Rattle.bundle_syntax.specs.declared.plan.read.Block.TheVariants.{Anywhere}
use Rattle.bundle_syntax.specs.declared.clients.read.Block as client
use Rattle.bundle_syntax.specs.declared.clients.read.Block.TheVariants.{Outside, InClient}

abbrev pub plan_block : plan.Block → parts.PlanBlock
plan_block Anywhere = parts.Anywhere

abbrev pub client_block : client.Block → parts.ClientBlock
client_block Outside = parts.Outside
client_block InClient = parts.InClient
