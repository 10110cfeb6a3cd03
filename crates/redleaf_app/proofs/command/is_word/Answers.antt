use Rattle.std.specs.Prelude.{string_bytes}
use Rattle.redleaf_app.proofs.Words.{one_word, single}
use Rattle.redleaf_app.proofs.command.is_word.Goals as goal

pub returns-in-len1 : goal.returns-in-len1
returns-in-len1 c =
    rw (single string_bytes c.args.words.now c.only-item.result c.in-len1.len_at_least c.in-len1.len_below c.only-item.is)
    (one_word c.eq.result (string_bytes c.only-item.result) c.args.word.now (rw c.as_str.ensures.value at c.eq.ensures))
