use Rattle.valid_loads.proofs.Accepting.{accepted_valid}
use Rattle.domain_loader.proofs.load.load.Goals as goal

pub new-requires : goal.new-requires
new-requires c = accepted_valid c.args.bytes.now c.in-Ok.rows c.requires c.in-Ok.ensures.1
