use Rattle.std.proofs.Common.{◌≡◌, ◌++◌, ℕ, List, sym, subst}
use Rattle.std.specs.Prelude.{OnOk}
use Rattle.script_checker.proofs.TargetLaws.{first_names}
use Rattle.script_checker.proofs.targets.put_domain.Goals as goal

pub returns-in-len1-up-clause-names : goal.returns-in-len1-up-clause-names
returns-in-len1-up-clause-names c = subst (λ (ns : List (List ℕ)). OnOk c.put_first.result (c.put_first.new.domains.names ≡ c.args.domains.now.names ++ ns)) (sym (first_names c.args.lines.now c.first-item.result c.in-len1-up.len_at_least c.first-item.is c.requires)) c.put_first.ensures.names
