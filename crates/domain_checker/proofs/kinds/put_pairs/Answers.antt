use Rattle.std.proofs.Common.{◌≡◌, drop, []}
use Rattle.std.proofs.lemmas.List.{drop_all}
use Rattle.domain_checker.proofs.Registers.{paired_none}
use Rattle.domain_checker.proofs.kinds.put_pairs.Goals as goal

pub returns-then-k-registers : goal.returns-then-k-registers
returns-then-k-registers c =
    let e : drop c.pairs.k c.args.registers.now ≡ [] = drop_all c.pairs.k c.args.registers.now c.if-k-registers.true in
    rw (e, paired_none) at c.pairs.invariant
