use Rattle.std.proofs.Common.{◌≡◌, ◌++◌, take}
use Rattle.bundle_format.specs.Woven.{unspaced}
use Rattle.bundle_format.proofs.line.put_unspaced.Given as goal

abbrev pub invariant-bytes : goal.invariant-bytes
invariant-bytes l = l.out.items ≡ l.initial.out.items ++ unspaced (take l.byte-index l.text)
