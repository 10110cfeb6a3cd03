-- Lines in which no rule fails stand for one bundle at most.
use Rattle.std.proofs.Common.{◌≡◌, ℕ, inl, inr, List, [], refl, sym, ap, subst, ◌∙◌, arith}
use Rattle.std.proofs.lemmas.Bool.{cases_order}
use Rattle.rl_defs.specs.declared.bundle.Numbered.{Numbered}
use Rattle.rl_defs.specs.declared.bundle.Bundle.{Bundle}
use Rattle.rl_defs.specs.declared.bundle.PlanLine.{PlanLine}
use Rattle.rl_defs.specs.declared.bundle.ClientLine.{ClientLine}
use Rattle.rl_defs.specs.declared.idl.IdlLine.{IdlLine}
use Rattle.rl_defs.specs.declared.code.DomainText.{DomainText}
use Rattle.rl_defs.specs.Refusals.{Nowhere}
use Rattle.rl_defs.specs.Parts.{StandFor}
use Rattle.rl_defs.specs.IdlParts.{interface_part}
use Rattle.rl_defs.specs.DomainParts.{domain_part, domains_of, AreDomains}
use Rattle.rl_defs.specs.BundleParts as parts
use Rattle.rl_defs.specs.BundleParts.{HeaderAt, FailsForms, IsBundle, IsPart, StandsIn, plan_part, client_part}
use Rattle.rl_text.proofs.PartRules.{AreForms, one_standing}
use Rattle.idl_syntax.proofs.IdlLaws.{interface_forms}
use Rattle.domain_code.proofs.DomainLaws.{domain_forms}
use Rattle.bundle_parts.proofs.PartEnds.{one_part}

-- a header that stands twice is out of order
same_header : (texts : List (List ℕ)) (h : parts.Header) (f k : ℕ) (xs ys : List (List ℕ)) → Nowhere (FailsForms texts) → (a : IsPart texts h f xs) (b : IsPart texts h k ys) → a.header ≡ b.header
same_header texts h f k xs ys nowhere a b = elim (cases_order a.header b.header) [
  | inl same ↦ same
  | inr (inl less) ↦ absurd (nowhere b.header 2 (inr (inr (refl, inr (record { header = h; here = b.begins; earlier = a.header; other = h; there = a.begins; before = less; behind = omega arith })))))
  | inr (inr more) ↦ absurd (nowhere a.header 2 (inr (inr (refl, inr (record { header = h; here = a.begins; earlier = b.header; other = h; there = b.begins; before = more; behind = omega arith })))))
]

one_in : {X : Type 0} (texts : List (List ℕ)) (h : parts.Header) (stands : X → ℕ → List (List ℕ) → Type 0) (none : X → Type 0) → ((x y : X) → none x → none y → x ≡ y) → ((first : ℕ) (inside : List (List ℕ)) (x y : X) → stands x first inside → stands y first inside → x ≡ y) → Nowhere (FailsForms texts) → (x y : X) → StandsIn texts h (stands x) (none x) → StandsIn texts h (stands y) (none y) → x ≡ y
one_in texts h stands none one_none one nowhere x y (inl a) (inl b) = one_none x y a.1 b.1
one_in texts h stands none one_none one nowhere x y (inl a) (inr (first, inside, part, s)) = absurd (a.0 part.header part.begins)
one_in texts h stands none one_none one nowhere x y (inr (first, inside, part, s)) (inl b) = absurd (b.0 part.header part.begins)
one_in texts h stands none one_none one nowhere x y (inr (f, xs, p, s)) (inr (k, ys, q, t)) =
    let o = one_part texts h h f k xs ys p q (same_header texts h f k xs ys nowhere p q) in
    one k ys x y (subst (λ (zs : List (List ℕ)). stands x k zs) o.inside (subst (λ (n : ℕ). stands x n xs) o.first s)) t

one_empty : {A : Type 0} (x y : List A) → x ≡ [] → y ≡ [] → x ≡ y
one_empty x y a b = a ∙ sym b

one_domains : (first : ℕ) (inside : List (List ℕ)) (x y : List DomainText) → AreDomains first inside x → AreDomains first inside y → x ≡ y
one_domains first inside x y a b = a.cut ∙ ap domains_of (one_standing domain_part domain_forms first inside a.lines b.lines a.stand b.stand) ∙ sym b.cut

abbrev of_parts : List (Numbered IdlLine) → List DomainText → List (Numbered PlanLine) → List (Numbered ClientLine) → Bundle
of_parts idl domains plan clients = record { idl = record { lines = idl }; domains = domains; plan = record { lines = plan }; clients = record { lines = clients } }

pub one_bundle : AreForms plan_part → AreForms client_part → (texts : List (List ℕ)) (a b : Bundle) → IsBundle texts a → IsBundle texts b → Nowhere (FailsForms texts) → a ≡ b
one_bundle plan_forms client_forms texts a b x y nowhere =
    let idl : a.idl.lines ≡ b.idl.lines = one_in texts parts.Interfaces (λ (ls : List (Numbered IdlLine)) first inside. StandFor interface_part first inside ls) (λ ls. ls ≡ []) one_empty (one_standing interface_part interface_forms) nowhere a.idl.lines b.idl.lines x.idl y.idl in
    let domains : a.domains ≡ b.domains = one_in texts parts.Domains (λ (ds : List DomainText) first inside. AreDomains first inside ds) (λ ds. ds ≡ []) one_empty one_domains nowhere a.domains b.domains x.domains y.domains in
    let plan : a.plan.lines ≡ b.plan.lines = one_in texts parts.ThePlan (λ (ls : List (Numbered PlanLine)) first inside. StandFor plan_part first inside ls) (λ ls. ls ≡ []) one_empty (one_standing plan_part plan_forms) nowhere a.plan.lines b.plan.lines x.plan y.plan in
    let clients : a.clients.lines ≡ b.clients.lines = one_in texts parts.TheClients (λ (ls : List (Numbered ClientLine)) first inside. StandFor client_part first inside ls) (λ ls. ls ≡ []) one_empty (one_standing client_part client_forms) nowhere a.clients.lines b.clients.lines x.clients y.clients in
    ap (λ (ls : List (Numbered IdlLine)). of_parts ls a.domains a.plan.lines a.clients.lines) idl
    ∙ ap (λ (ds : List DomainText). of_parts b.idl.lines ds a.plan.lines a.clients.lines) domains
    ∙ ap (λ (ls : List (Numbered PlanLine)). of_parts b.idl.lines b.domains ls a.clients.lines) plan
    ∙ ap (λ (ls : List (Numbered ClientLine)). of_parts b.idl.lines b.domains b.plan.lines ls) clients
