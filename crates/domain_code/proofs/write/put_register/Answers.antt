use Rattle.std.proofs.Common.{List, ◌++◌, ap, ◌∙◌}
use Rattle.rl_defs.specs.Tokens.{Token}
use Rattle.domain_code.proofs.Joining.{on_ok}
use Rattle.domain_code.proofs.WriteLaws.{one_digit, two_digits}
use Rattle.domain_code.proofs.write.put_register.Goals as goal

pub returns-then-number-lt10 : goal.returns-then-number-lt10
returns-then-number-lt10 c = on_ok c.word.result _ _ (λ e. e ∙ ap (λ (t : List Token). c.args.out.now ++ t) (one_digit c.args.register c.if-number-lt10.true)) c.word.ensures

pub returns : goal.returns
returns c = on_ok c.word-2.result _ _ (λ e. e ∙ ap (λ (t : List Token). c.args.out.now ++ t) (two_digits c.args.register c.if-number-lt10.false)) c.word-2.ensures
