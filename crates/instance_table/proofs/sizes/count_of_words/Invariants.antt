use Rattle.std.proofs.Common.{◌≡◌, drop}
use Rattle.rl_defs.specs.Domains.{words_of}
use Rattle.instance_table.proofs.sizes.count_of_words.Given as goal

abbrev pub invariant-lines : goal.invariant-lines
invariant-lines l = words_of (drop l.line-index l.lines) ≡ words_of l.lines
