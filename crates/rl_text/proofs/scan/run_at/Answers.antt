use Rattle.rl_defs.specs.Words.{is_word_byte}
use Rattle.rl_text.proofs.Runs.{all_before}
use Rattle.rl_text.proofs.scan.run_at.Goals as goal

pub run_of-requires : goal.run_of-requires
run_of-requires c = record { inside = rw (c.split_at.ensures.front, c.word_len-count.ensures.length) (all_before is_word_byte c.args.rest.now) }
