use Rattle.std.proofs.Common.{◌≡◌, ◌++◌, take}
use Rattle.bundle_format.specs.Canonical.{canonical_domains}
use Rattle.bundle_format.proofs.canonical.put_domains.Given as goal

abbrev pub invariant-domains : goal.invariant-domains
invariant-domains l = l.out.items ≡ l.initial.out.items ++ canonical_domains (take l.domain-index l.domains)
