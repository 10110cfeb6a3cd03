use Rattle.code_machine.proofs.Entering.{few_given, begins_fitting}
use Rattle.code_machine.proofs.entry.body_at_entry.Goals as goal

pub entry_registers-requires : goal.entry_registers-requires
entry_registers-requires g c = few_given c.args.domain.now c.requires.types c.args.method c.args.args.now c.lines.ensures.keeps c.requires.given

pub returns-clause-fits : goal.returns-clause-fits
returns-clause-fits g c types given =
    begins_fitting c.args.domain.now types c.args.method c.entry.result c.args.args.now c.entry_registers.result c.lines.ensures.keeps c.requires.code given c.entry.ensures c.entry_registers.ensures
