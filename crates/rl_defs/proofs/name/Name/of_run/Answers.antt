use Rattle.std.proofs.Common.{◌≡◌, ◌≤◌, arith, length, refl, true}
use Rattle.std.specs.Prelude.{nat_le}
use Rattle.std.proofs.lemmas.Bool.Decides.{nat_tests}
use Rattle.std.proofs.lemmas.Grind.{common_steps}
use Rattle.rl_defs.specs.Words.{is_word}
use Rattle.rl_defs.proofs.Names.{kept, named, unset}
use Rattle.rl_defs.proofs.name.Name.of_run.Goals as goal

pub invariant_of-result : goal.invariant_of-result
invariant_of-result c =
    let fits : length c.args.run.now ≤ 24 = grind (arith, common_steps) in
    let short : nat_le (length c.args.run.now) 24 ≡ true = grind (arith, nat_tests) in
    let word : is_word c.args.run.now ≡ true = rw (c.requires.begins, short, c.requires.inside) refl in
    kept c.args.run.now c.copy_from_slice.new.self c.copy_from_slice.ensures.after fits (named _ _ word (unset _ c.requires.free))
