use Rattle.std.proofs.Common.{subst, sym}
use Rattle.rl_defs.specs.DomainValue.{Domain}
use Rattle.rl_defs.specs.DomainParts.{LinesRise}
use Rattle.domain_checker.specs.Keeping.{domain}
use Rattle.domain_checker.proofs.Entering.{entries_are, kept_whole}
use Rattle.domain_checker.proofs.checker.kept_beside.Goals as goal

pub scan-requires-clause-rises : goal.scan-requires-clause-rises
scan-requires-clause-rises c = subst (λ (d : Domain). LinesRise d.lines) (sym c.in_ok-scope.ensures) c.requires.rises

pub returns : goal.returns
returns c =
    kept_whole c.in_ok-scope.scope (domain c.args.lines.now c.args.tables.now) c.in_ok-kept.kept.emptied.items c.in_ok-kept.kept.rows.items c.in_ok-entries.entries.items c.in_ok-scope.ensures
    c.in_ok-kept.ensures
    (entries_are c.in_ok-scope.scope (domain c.args.lines.now c.args.tables.now) c.methods.result.now c.domain_trait.result c.in_ok-entries.entries.items c.in_ok-scope.ensures c.in_ok-entries.ensures c.methods.ensures.value c.domain_trait.ensures)
