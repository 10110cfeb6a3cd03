use Rattle.std.proofs.Common.{◌≡◌, List, [], ◌∷◌, ◌++◌, sym, ap, subst, ◌∙◌}
use Rattle.rl_defs.specs.declared.code.DomainText.{DomainText}
use Rattle.rl_defs.specs.Domains.{Lines}
use Rattle.domain_code.specs.Parts.{joined, Joins}
use Rattle.domain_code.proofs.Joining.{on_ok, of_lines, joins_new, joins_last}
use Rattle.domain_code.proofs.part.put.Goals as goal

pub returns-then-begins_domain : goal.returns-then-begins_domain
returns-then-begins_domain c =
    let begins = sym c.begins_domain.ensures ∙ c.if-begins_domain.true in
    on_ok c.begin.result _ _ (λ e. subst (λ (new : List DomainText). Joins c.args.domains.now.items c.args.line new) (sym e) (joins_new c.args.domains.now.items c.args.line begins)) c.begin.ensures

pub returns-in_ok-put_last-in-Some : goal.returns-in_ok-put_last-in-Some
returns-in_ok-put_last-in-Some c =
    let goes_on = sym c.begins_domain.ensures ∙ c.if-begins_domain.false in
    let last : DomainText = c.in-Some.last in
    let before : List DomainText = c.pop.new.self.items in
    let old : c.args.domains.now.items ≡ before ++ last ∷ [] = c.in-Some.ensures.items in
    let lines : c.from_vec-lines.result ≡ last.lines ++ c.args.line ∷ [] = c.from_vec-lines.ensures ∙ c.in_ok-put_last-in-Some.ensures ∙ ap (λ (all : Lines). all ++ c.args.line ∷ []) c.into_vec-all.ensures in
    let new : c.push_reserved.new.self.items ≡ before ++ of_lines (last.lines ++ c.args.line ∷ []) ∷ [] = c.push_reserved.ensures.items ∙ ap (λ (all : Lines). before ++ of_lines all ∷ []) lines in
    λ rest. ap (λ (domains : List DomainText). joined domains rest) new ∙ joins_last before last c.args.line goes_on rest ∙ ap (λ (domains : List DomainText). joined domains (c.args.line ∷ rest)) (sym old)
