use Rattle.std.proofs.Common.{sym, refl}
use Rattle.rl_text.proofs.WordLaws.{not_name, no_word}
use Rattle.rl_text.proofs.KeyLaws.{key_free}
use Rattle.rl_text.proofs.scan.word_of.Goals as goal

pub of_run-requires-clause-free : goal.of_run-requires-clause-free
of_run-requires-clause-free c = rw (key_free c.args.run.now (sym c.in_default.ensures)) refl

pub returns-in_err-name : goal.returns-in_err-name
returns-in_err-name c = rw c.from_residual.ensures (no_word c.args.run.now (sym c.in_default.ensures) (not_name _ _ c.in_err-name.was c.of_run.ensures.exact.1))
