-- The lines of domains and clients, one after the other.
use Rattle.std.proofs.Common.{◌≡◌, ℕ, zero, suc, ◌+◌, ◌<◌, ◌≤◌, ◌^◌, Bool, true, false, List, [], ◌∷◌, length, Option, Some, None, inl, inr, refl, sym, ap, subst, ◌∙◌, arith, add-one}
use Rattle.std.specs.Prelude.{slice_get, Err}
use Rattle.std.proofs.lemmas.Bool.{cases_lt, cases_order}
use Rattle.rl_defs.specs.declared.bundle.Numbered.{Numbered}
use Rattle.rl_defs.specs.declared.bundle.ClientLine.{ClientLine}
use Rattle.rl_defs.specs.declared.bundle.ClientLine.TheVariants as client
use Rattle.rl_defs.specs.DomainValue.{Domain}
use Rattle.rl_defs.specs.BundleNames.{ClientLines}
use Rattle.rl_defs.specs.declared.LoadFault.{LoadFault}
use Rattle.rl_defs.specs.declared.LoadFault.TheVariants.{Refused, Memory}
use Rattle.rl_defs.specs.Domains.{Lines}
use Rattle.rl_defs.specs.Refusals.{IsFirst, Nowhere, Answers}
use Rattle.rl_defs.proofs.Places.{get_within}
use Rattle.plan_checker.specs.LineScan.{FailsIn, IsLowest}
use Rattle.plan_checker.specs.Limits.{FailsDomainLine, FailsDomains, DomainsRise, NoneBeforeDomain, commands_behind, commands_from, commands_before, AreFew}
use Rattle.plan_checker.proofs.Scanning.{one_line, untrue}

-- a test that fails rule 46, or doesn't
pub over_none : (test there : Bool) → test ≡ there → test ≡ false → IsLowest (λ rule. (rule ≡ 46) × (there ≡ true)) None
over_none test there same kept = λ rule f. untrue (sym same ∙ kept) f.1

pub over_first : (test there : Bool) → test ≡ there → test ≡ true → IsLowest (λ rule. (rule ≡ 46) × (there ≡ true)) (Some 46)
over_first test there same over = ((refl, sym same ∙ over), λ rule f. omega (arith, f.0))

-- how many commands stand before the next line
from_suc : (o : Option ℕ) (lines : ClientLines) (k : ℕ) (l : Numbered ClientLine) → slice_get lines k ≡ Some l → commands_from o lines (suc k) ≡ commands_behind (commands_from o lines k) l.form
from_suc o [] k l e = absurd cc
from_suc o (x ∷ xs) zero l e = let same : x ≡ l = cc in ap (λ (y : Numbered ClientLine). commands_behind o y.form) same
from_suc o (x ∷ xs) (suc k) l e = from_suc (commands_behind o x.form) xs k l e

pub commands_more : (lines : ClientLines) (k : ℕ) (l : Numbered ClientLine) (count next : Option ℕ) → slice_get lines k ≡ Some l → count ≡ commands_before lines k → next ≡ commands_behind count l.form → next ≡ commands_before lines (k + 1)
commands_more lines k l count next here is more = more ∙ ap (λ (o : Option ℕ). commands_behind o l.form) is ∙ sym (rw add-one (from_suc None lines k l here))

-- so many at most
abbrev pub AtMost : ℕ → Option ℕ → Type 0
AtMost k None = Unit {0}
AtMost k (Some n) = n ≤ k

pub few_commands : (k : ℕ) (o : Option ℕ) → AtMost k o → k < 2 ^ 31 → AreFew o
few_commands k None h lt = tt
few_commands k (Some n) h lt = omega arith

at_most : (k : ℕ) (o : Option ℕ) (form : ClientLine) → AtMost k o → AtMost (k + 1) (commands_behind o form)
at_most k None (client.Client name) h = omega arith
at_most k None (client.Let name ty values) h = tt
at_most k None (client.Text name ty bytes) h = tt
at_most k None (client.Call target method args names) h = tt
at_most k None (client.Show name) h = tt
at_most k None (client.Drop name) h = tt
at_most k None (client.Kill target) h = tt
at_most k None client.Close h = tt
at_most k (Some n) (client.Client name) h = omega (arith, h)
at_most k (Some n) (client.Let name ty values) h = omega (arith, h)
at_most k (Some n) (client.Text name ty bytes) h = omega (arith, h)
at_most k (Some n) (client.Call target method args names) h = omega (arith, h)
at_most k (Some n) (client.Show name) h = omega (arith, h)
at_most k (Some n) (client.Drop name) h = omega (arith, h)
at_most k (Some n) (client.Kill target) h = omega (arith, h)
at_most k (Some n) client.Close h = tt

pub at_most_more : (k : ℕ) (o next : Option ℕ) (form : ClientLine) → AtMost k o → next ≡ commands_behind o form → AtMost (k + 1) next
at_most_more k o next form h is = subst (AtMost (k + 1)) (sym is) (at_most k o form h)

-- the domains, one after the other
pub domains_first : (domains : List Domain) → NoneBeforeDomain domains 0
domains_first domains = record { none = λ i d n rule lt e f. absurd (omega arith) }

pub domains_more : (domains : List Domain) (k : ℕ) (d : Domain) → NoneBeforeDomain domains k → slice_get domains k ≡ Some d → Nowhere (FailsIn d.lines (FailsDomainLine d.lines)) → NoneBeforeDomain domains (k + 1)
domains_more domains k d h here none = record {
  none = λ i x n rule lt e f. elim (cases_lt i k) [
    | inl less ↦ h.none i x n rule less e f
    | inr more ↦ let same : i ≡ k = omega arith in at i x n rule same e f
  ];
} where
  at : (i : ℕ) (x : Domain) (n rule : ℕ) → i ≡ k → slice_get domains i ≡ Some x → FailsIn x.lines (FailsDomainLine x.lines) n rule → ⊥
  at i x n rule same e f = none n rule (subst (λ (y : Domain). FailsIn y.lines (FailsDomainLine y.lines) n rule) (one_line (slice_get domains k) x d (subst (λ (j : ℕ). slice_get domains j ≡ Some x) same e) here) f)

pub domains_all : (domains : List Domain) (k : ℕ) → length domains ≤ k → NoneBeforeDomain domains k → Nowhere (FailsDomains domains)
domains_all domains k le h n rule f = h.none f.number f.domain n rule (omega (arith, le, get_within domains f.number f.domain f.there)) f.there f.fails

pub domain_first : (domains : List Domain) (k : ℕ) (d : Domain) (line rule : ℕ) → DomainsRise domains → NoneBeforeDomain domains k → slice_get domains k ≡ Some d → IsFirst (FailsIn d.lines (FailsDomainLine d.lines)) line rule → IsFirst (FailsDomains domains) line rule
domain_first domains k d line rule rises h here first = record {
  fails = record { number = k; domain = d; there = here; fails = first.fails };
  first = λ n r f. elim (cases_order f.number k) [
    | inl same ↦ first.first n r (subst (λ (y : Domain). FailsIn y.lines (FailsDomainLine y.lines) n r) (one_line (slice_get domains k) f.domain d (subst (λ (j : ℕ). slice_get domains j ≡ Some f.domain) same f.there) here) f.fails)
    | inr (inl less) ↦ absurd (h.none f.number f.domain n r less f.there f.fails)
    | inr (inr more) ↦ inl (rises.apart k f.number d f.domain first.fails.place f.fails.place (record { line = line; form = first.fails.form }) (record { line = n; form = f.fails.form }) more here f.there first.fails.here f.fails.here)
  ];
}

-- what fails in a domain, where its lines are named otherwise
pub domain_answers : (domains : List Domain) (k : ℕ) (d : Domain) (lines : Lines) (fault : LoadFault) → DomainsRise domains → NoneBeforeDomain domains k → slice_get domains k ≡ Some d → lines ≡ d.lines → Answers {X = Unit {0}} (FailsIn lines (FailsDomainLine lines)) (λ _. Unit {0}) (Err fault) → Answers {X = Unit {0}} (FailsDomains domains) (λ _. Unit {0}) (Err fault)
domain_answers domains k d lines (Refused at) rises h here same a = domain_first domains k d at.line at.rule rises h here (subst (λ (ls : Lines). IsFirst (FailsIn ls (FailsDomainLine ls)) at.line at.rule) same a)
domain_answers domains k d lines Memory rises h here same a = tt

pub domain_passes : (domains : List Domain) (k : ℕ) (d : Domain) (lines : Lines) → NoneBeforeDomain domains k → slice_get domains k ≡ Some d → lines ≡ d.lines → Nowhere (FailsIn lines (FailsDomainLine lines)) → NoneBeforeDomain domains (k + 1)
domain_passes domains k d lines h here same none = domains_more domains k d h here (subst (λ (ls : Lines). Nowhere (FailsIn ls (FailsDomainLine ls))) same none)
