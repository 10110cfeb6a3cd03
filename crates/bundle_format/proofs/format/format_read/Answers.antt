use Rattle.std.proofs.Common.{arith}
use Rattle.bundle_format.proofs.Fares.{fare_the_same}
use Rattle.bundle_format.proofs.format.format_read.Goals as goal

pub returns-then-same-clause-formatted : goal.returns-then-same-clause-formatted
returns-then-same-clause-formatted c = record {
  bundle = c.args.bundle.now;
  stands = c.requires.stands;
  spelled = rw c.in-Some.is at c.in-Ok.ensures;
  few = omega (arith, c.len.ensures, c.if-len-gt-LONGEST_TEXT.false);
  same = fare_the_same c.args.bytes.now c.in-Some.text.items c.args.bundle.now c.requires.stands (rw c.deref.ensures.value at (c.in-Ok-stands_for.ensures.0 c.if-same.true));
}
