-- Each domain of a bundle is one: its lines stand in an order in which they may.
use Rattle.std.proofs.Common.{inl, inr, sym, subst}
use Rattle.rl_defs.specs.declared.bundle.Bundle.{Bundle}
use Rattle.rl_defs.specs.declared.tables.Tables.{Tables}
use Rattle.rl_defs.specs.DomainParts as domains
use Rattle.rl_defs.specs.DomainParts.{domain_part}
use Rattle.rl_defs.specs.BundleParts as parts
use Rattle.valid_loads.proofs.Rules.{Kept}
use Rattle.valid_loads.proofs.Closed.{EachOne, closed_behind, outside_or_not, one_domains}

-- each domain of a bundle is one
pub each_one : (tables : Tables) (b : Bundle) → Kept tables b → EachOne b.domains
each_one tables b h = elim h.lines.domains [
  | inl missing ↦ subst EachOne (sym missing.1) (λ k d e. absurd cc)
  | inr part ↦ subst EachOne (sym part.3.cut) (one_domains domains.Outside part.3.lines
      (closed_behind domain_part outside_or_not part.0 part.1 part.3.lines (λ n r f. h.forms n r (inl (record { header = parts.Domains; first = part.0; inside = part.1; part = part.2; fails = f }))) part.3.stand))
]
