-- The domains of a bundle, up to the first with a line that fails.
use Rattle.std.proofs.Common.{◌≡◌, ℕ, ◌+◌, ◌-◌, ◌^◌, ◌<◌, ◌≤◌, List, [], ◌∷◌, ◌++◌, length, take, Some, sym, ap, subst, ◌∙◌, arith, Result, Ok, Err, length-append}
use Rattle.std.specs.Prelude.{slice_get}
use Rattle.std.specs.List.{flat_map}
use Rattle.std.specs.Result.{IsErrAnd}
use Rattle.rl_defs.specs.declared.LoadFault.{LoadFault}
use Rattle.rl_defs.specs.declared.LoadFault.TheVariants.{Refused, Memory}
use Rattle.rl_defs.specs.declared.bundle.Bundle.{Bundle}
use Rattle.rl_defs.specs.declared.code.DomainText.{DomainText}
use Rattle.rl_defs.specs.Refusals.{Answers, Nowhere, IsFirst}
use Rattle.rl_defs.specs.DomainParts.{LinesRise}
use Rattle.rl_defs.specs.BundleOrder.{IsOrdered, numbers_of}
use Rattle.rl_defs.proofs.Places.{get_within}
use Rattle.bundle_names.specs.declared.interface_names.InterfaceNames.{InterfaceNames}
use Rattle.bundle_names.specs.Scopes.{Scope, names_in, behind_all, Somewhere}
use Rattle.bundle_names.specs.DomainNames.{domain_role, Knows, FailsIn, all_lines, NumbersRise, domains_before, FailsAtDomain, FailsDomainNames}
use Rattle.bundle_names.proofs.Scanning.{Later, CleanTo, clean_more, clean_first, clean_all, answers_same}
use Rattle.bundle_names.proofs.FlatLines.{rise_front, rise_back, lines_rise, domain_rises, domains_rise, length_numbers, count_numbers, few_lines, few_behind_all, before_more}
use Rattle.bundle_names.proofs.DomainNaming.{domain_fails, fails_domain}

-- the names of the domains before one, and that no line of them fails
pub record DomainsTo (known : InterfaceNames) (ds : List DomainText) (k : ℕ) (domains : Scope) : Type 0 where
  pub names : domains ≡ domains_before ds k
  pub clean : CleanTo (FailsAtDomain known ds) k

pub domains_begin : (known : InterfaceNames) (ds : List DomainText) (domains : Scope) → domains ≡ Some [] → DomainsTo known ds 0 domains
domains_begin known [] domains e = record { names = e; clean = record { none = λ j l r lt f. omega (arith, lt) } }
domains_begin known (d ∷ ds) domains e = record { names = e; clean = record { none = λ j l r lt f. omega (arith, lt) } }

pub room_for : (known : InterfaceNames) (ds : List DomainText) (k : ℕ) (t : DomainText) (domains : Scope) → DomainsTo known ds k domains → slice_get ds k ≡ Some t → length (all_lines ds) ≤ 1048576 → names_in domains + length t.lines < 2 ^ 32 - 1
room_for known ds k t domains h e few = omega (arith, few, few_lines ds k t e, few_behind_all domain_role (Some []) (all_lines (take k ds)), ap names_in h.names)

pub rises_at : (ds : List DomainText) (k : ℕ) (t : DomainText) → NumbersRise ds → slice_get ds k ≡ Some t → LinesRise t.lines
rises_at ds k t rises e = lines_rise t.lines (domain_rises ds k t rises e)

module _ (known : InterfaceNames) (ds : List DomainText) (k : ℕ) (t : DomainText) (domains : Scope) (h : DomainsTo known ds k domains) (e : slice_get ds k ≡ Some t) where
  same_text : (u : DomainText) → slice_get ds k ≡ Some u → t ≡ u
  same_text u f = let both : Some t ≡ Some u = sym e ∙ f in cc

  in_domain : (l r : ℕ) → FailsAtDomain known ds k l r → FailsIn known domains t.lines l r
  in_domain l r (u, f, x) = subst (λ (s : Scope). FailsIn known s t.lines l r) (sym h.names) (subst (λ (v : DomainText). FailsIn known (domains_before ds k) v.lines l r) (sym (same_text u f)) x)

  at_domain : (l r : ℕ) → FailsIn known domains t.lines l r → FailsAtDomain known ds k l r
  at_domain l r x = (t, e, subst (λ (s : Scope). FailsIn known s t.lines l r) h.names x)

  pub domains_go : (new : Scope) → Nowhere (FailsIn known domains t.lines) → new ≡ behind_all domain_role domains t.lines → DomainsTo known ds (k + 1) new
  domains_go new none is = record {
    names = is ∙ ap (λ (s : Scope). behind_all domain_role s t.lines) h.names ∙ before_more ds k t e;
    clean = clean_more (FailsAtDomain known ds) k h.clean (λ l r x. none l r (in_domain l r x));
  }

  pub domains_find : (fault : LoadFault) → NumbersRise ds → Answers {X = Unit {0}} (FailsIn known domains t.lines) (λ _. Unit {0}) (Err fault) → Answers {X = Unit {0}} (Somewhere (FailsAtDomain known ds)) (λ _. Unit {0}) (Err fault)
  domains_find Memory rises a = tt
  domains_find (Refused at) rises a = clean_first (FailsAtDomain known ds) k at.line at.rule later h.clean here where
    here : IsFirst (FailsAtDomain known ds k) at.line at.rule
    here = record { fails = at_domain at.line at.rule a.fails; first = λ l r x. a.first l r (in_domain l r x) }

    later : Later (FailsAtDomain known ds)
    later i j l r m s lt (u, p, (x, (form, there, f))) (v, q, (y, (other, here, g))) = domains_rise ds i j u v x y (record { line = l; form = form }) (record { line = m; form = other }) rises lt p q there here

pub domains_end : (known : InterfaceNames) (ds : List DomainText) (k : ℕ) (domains : Scope) → length ds ≤ k → DomainsTo known ds k domains → Nowhere (Somewhere (FailsAtDomain known ds))
domains_end known ds k domains le h = clean_all (FailsAtDomain known ds) k (length ds) le (λ j l r x. get_within ds j x.0 x.1) h.clean

-- an error that is handed on
pub err_of : (r : Result (Unit {0}) LoadFault) (x : LoadFault) → IsErrAnd r (λ y. y ≡ x) → r ≡ Err x
err_of (Ok u) x h = absurd h
err_of (Err e) x h = ap (λ (z : LoadFault). Err z) h

-- what is known of the order of a bundle, for its domains
pub few_idl : (b : Bundle) → IsOrdered b → length b.idl.lines < 2 ^ 32
few_idl b h = omega (arith, h.few, count_numbers b.idl.lines, length-append (numbers_of b.idl.lines) (flat_map (λ d. numbers_of d.lines) b.domains ++ (numbers_of b.plan.lines ++ numbers_of b.clients.lines)))

pub few_domains : (b : Bundle) → IsOrdered b → length (all_lines b.domains) ≤ 1048576
few_domains b h = omega (arith, h.few, length_numbers b.domains, length-append (numbers_of b.idl.lines) (flat_map (λ d. numbers_of d.lines) b.domains ++ (numbers_of b.plan.lines ++ numbers_of b.clients.lines)), length-append (flat_map (λ d. numbers_of d.lines) b.domains) (numbers_of b.plan.lines ++ numbers_of b.clients.lines))

pub domains_numbered : (b : Bundle) → IsOrdered b → NumbersRise b.domains
domains_numbered b h = rise_front (flat_map (λ d. numbers_of d.lines) b.domains) (numbers_of b.plan.lines ++ numbers_of b.clients.lines) (rise_back (numbers_of b.idl.lines) (flat_map (λ d. numbers_of d.lines) b.domains ++ (numbers_of b.plan.lines ++ numbers_of b.clients.lines)) h.rises)

pub whole_answer : (b : Bundle) (known : InterfaceNames) (a : Result (Unit {0}) LoadFault) → IsOrdered b → Knows b.idl.lines known → Answers {X = Unit {0}} (Somewhere (FailsAtDomain known b.domains)) (λ _. Unit {0}) a → Answers {X = Unit {0}} (FailsDomainNames b) (λ _. Unit {0}) a
whole_answer b known a ordered h x = answers_same {X = Unit {0}} (Somewhere (FailsAtDomain known b.domains)) (FailsDomainNames b) (λ _. Unit {0}) (λ l r f. domain_fails b known h l r f) (λ l r f. fails_domain b known h l ordered.domains r f) a x
