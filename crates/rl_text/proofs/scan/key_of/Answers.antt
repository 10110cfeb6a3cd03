use Rattle.std.proofs.Common.{◌∙◌, sym}
use Rattle.rl_text.proofs.KeyLaws.{key_none, key_same, key_differs}
use Rattle.rl_text.proofs.scan.key_of.Goals as goal

pub returns-in_err-key : goal.returns-in_err-key
returns-in_err-key c = c.from_residual.ensures ∙ sym (key_none c.args.run.now (sym c.likely_key.ensures ∙ c.in_err-key.was))

pub returns-then-eq : goal.returns-then-eq
returns-then-eq c = sym (key_same c.args.run.now _ c.in_ok-key.key c.key_text.ensures (sym c.eq.ensures ∙ c.if-eq.true))

pub returns-else-eq : goal.returns-else-eq
returns-else-eq c = sym (key_differs c.args.run.now _ c.in_ok-key.key (sym c.likely_key.ensures ∙ c.in_ok-key.was) c.key_text.ensures (sym c.eq.ensures ∙ c.if-eq.false))
