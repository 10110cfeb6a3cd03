use Rattle.std.proofs.Common.{sym, ◌∙◌}
use Rattle.heap_report.proofs.Quiet.{quiet_told}
use Rattle.heap_report.proofs.reading.Reading.read.Goals as goal

pub returns-in_default-clause-reads : goal.returns-in_default-clause-reads
returns-in_default-clause-reads c = λ us reads. quiet_told c.args.self.now us c.args.entry.now (sym c.is_quiet.ensures ∙ c.if-is_quiet.true) reads
