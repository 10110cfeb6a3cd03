use Rattle.std.proofs.Common.{◌≡◌, ◌++◌, map, ℕ, List, length}
use Rattle.rl_defs.specs.LoadOf.{checked_with}
use Rattle.domain_loader.proofs.Apart.{NoneBefore}
use Rattle.domain_loader.proofs.domains.check_domains.Given as goal

-- the domains so far are checked, the others are left
abbrev pub invariant-texts : goal.invariant-texts
invariant-texts l =
    (l.fn.domains ≡ l.yielded ++ l.text-iterator.rest.items)
    × (l.all ≡ map (checked_with l.fn.tables) l.yielded)
    × NoneBefore l.fn.tables l.fn.domains (length l.yielded)
