use Rattle.std.proofs.Common.{◌≡◌, ◌++◌, drop}
use Rattle.rl_defs.specs.IdlForms.{spell_more}
use Rattle.rl_defs.specs.BundleForms.{spell_number}
use Rattle.bundle_syntax.proofs.list.put_more_numbers.Given as goal

abbrev pub invariant-numbers : goal.invariant-numbers
invariant-numbers l = l.initial.out ++ spell_more spell_number l.numbers ≡ l.out ++ spell_more spell_number (drop l.number-index l.numbers)
