use Rattle.std.proofs.Common.{sym, ap, ◌∙◌, nat_eq, arith}
use Rattle.std.specs.Cmp.Lexicographic.{pointwise}
use Rattle.std.proofs.lemmas.List.{drop_all}
use Rattle.indexmap.specs.IndexMap.{get}
use Rattle.rl_defs.specs.Domains.{Lines}
use Rattle.rl_defs.specs.CodeNames.{find_label}
use Rattle.domain_checker.specs.Numbering.{or_else}
use Rattle.domain_checker.proofs.Naming.{or_none}
use Rattle.domain_checker.proofs.declared.labels_from.Goals as goal

pub returns : goal.returns
returns c = λ q.
    let look = get (pointwise nat_eq) c.lines.labels q in
    sym (ap (λ (ls : Lines). or_else look (find_label q ls c.lines.place)) (drop_all c.lines.place c.args.lines.now (omega (arith, c.lines.auto.place-end))) ∙ or_none look) ∙ c.lines.invariant q
