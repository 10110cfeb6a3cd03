use Rattle.std.proofs.Common.{◌∙◌, sym}
use Rattle.rl_text.proofs.TokenLaws.{token_run, token_mark}
use Rattle.rl_text.proofs.FrontLaws.{front_within}
use Rattle.rl_text.proofs.scan.front_at.Goals as goal

pub returns-then-is_word_byte-clause-value : goal.returns-then-is_word_byte-clause-value
returns-then-is_word_byte-clause-value c = rw (← c.split_at.ensures.back) (rw (token_run _ c.in-len1-up.len_at_least (sym c.is_word_byte.ensures ∙ c.if-is_word_byte.true)) (c.run_at.ensures c.args.line.now))

pub returns-then-is_word_byte-clause-within : goal.returns-then-is_word_byte-clause-within
returns-then-is_word_byte-clause-within c = front_within _ _ _ c.requires.inside (rw (← c.split_at.ensures.back) (rw (token_run _ c.in-len1-up.len_at_least (sym c.is_word_byte.ensures ∙ c.if-is_word_byte.true)) (c.run_at.ensures c.args.line.now)))

pub returns-then-first-ne34-clause-value : goal.returns-then-first-ne34-clause-value
returns-then-first-ne34-clause-value c = rw (← c.split_at.ensures.back) (rw (token_mark _ c.in-len1-up.len_at_least (sym c.is_word_byte.ensures ∙ c.if-is_word_byte.false) c.if-first-ne34.true) (c.mark_at.ensures c.args.line.now))

pub returns-then-first-ne34-clause-within : goal.returns-then-first-ne34-clause-within
returns-then-first-ne34-clause-within c = front_within _ _ _ c.requires.inside (rw (← c.split_at.ensures.back) (rw (token_mark _ c.in-len1-up.len_at_least (sym c.is_word_byte.ensures ∙ c.if-is_word_byte.false) c.if-first-ne34.true) (c.mark_at.ensures c.args.line.now)))
