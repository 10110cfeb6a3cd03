use Rattle.std.proofs.Common.{◌≡◌, drop}
use Rattle.rl_defs.specs.Domains.{trait_name}
use Rattle.domain_checker.proofs.declared.trait_of.Given as goal

abbrev pub invariant-lines : goal.invariant-lines
invariant-lines l = trait_name (drop l.line-index l.lines) ≡ trait_name l.lines
