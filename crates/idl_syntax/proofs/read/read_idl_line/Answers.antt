use Rattle.rl_defs.specs.IdlForms.{IsIdlLine}
use Rattle.rl_defs.proofs.FirstRefusal.{refuses}
use Rattle.rl_text.proofs.FormLaws.{skipped_fails}
use Rattle.idl_syntax.proofs.IdlLaws.{read, reading}
use Rattle.idl_syntax.proofs.read.read_idl_line.Goals as goal

pub read_form-requires-clause-reading : goal.read_form-requires-clause-reading
read_form-requires-clause-reading c = reading

pub returns : goal.returns
returns c = refuses {X = Unit {0}} _ (λ _. Unit {0}) _ c.args.line.now.number 1 c.refused.ensures (skipped_fails IsIdlLine read reading _ _ (rw c.in-None.is at c.in_ok-form.ensures))
