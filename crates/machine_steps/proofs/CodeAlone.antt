-- A load is of code alone exactly where none of its domains is both loaded and native.
use Rattle.std.proofs.Common.{◌≡◌, ℕ, zero, suc, ◌+◌, ◌<◌, ◌==◌, ◌&&◌, Bool, true, false, List, [], ◌∷◌, length, get_or, Option, Some, None, slice_get, refl, sym, ap, subst, ◌∙◌, arith, inl, inr, true≢false}
use Rattle.std.specs.List.{list_any}
use Rattle.std.proofs.lemmas.Bool.{or_cases, or_left, or_right, eqb-true, eq-eqb, cases_lt}
use Rattle.std.proofs.lemmas.Option.{slice_get_within, slice_get_read}
use Rattle.rl_defs.specs.declared.load.LoadRows.{LoadRows}
use Rattle.rl_defs.specs.declared.load.LoadRow.{LoadRow}
use Rattle.rl_defs.specs.DomainValue.{Domain}
use Rattle.rl_defs.specs.Domains.{load_row, domain_of, domain_lines, is_native}
use Rattle.rl_defs.specs.Rows.{domain_of_load, domain_or_none, domain_in}
use Rattle.machine_steps.specs.Kept.{IsCodeAlone}

-- a load is of the domain with this number
abbrev pub is_loaded : List LoadRow → ℕ → Bool
is_loaded loads d = list_any (λ l. l.domain == d) loads

-- the domain with this number is one that a load is of, and has a native body
abbrev pub runs_native : LoadRows → ℕ → Bool
runs_native L d = is_loaded L.loads d && is_native (domain_of L d)

lines_same : (L : LoadRows) (x : Option Domain) → (domain_or_none L x).lines ≡ domain_lines x
lines_same L None = refl
lines_same L (Some d) = refl

loaded_at : (loads : List LoadRow) (k : ℕ) (l : LoadRow) → slice_get loads k ≡ Some l → is_loaded loads l.domain ≡ true
loaded_at [] k l here = absurd cc
loaded_at (x ∷ loads) zero l here =
    let same : x ≡ l = cc in
    or_left (x.domain == l.domain) (is_loaded loads l.domain) (eq-eqb x.domain l.domain (ap (λ y. y.domain) same))
loaded_at (x ∷ loads) (suc k) l here = or_right (x.domain == l.domain) (is_loaded loads l.domain) (loaded_at loads k l here)

load_with : (loads : List LoadRow) (d : ℕ) → is_loaded loads d ≡ true → (k : ℕ) × (l : LoadRow) × (slice_get loads k ≡ Some l) × (l.domain ≡ d)
load_with [] d is = absurd cc
load_with (x ∷ loads) d is = elim (or_cases (x.domain == d) (is_loaded loads d) is) [
  | inl here ↦ (0, x, refl, eqb-true x.domain d here)
  | inr later ↦ (let r = load_with loads d later in (suc r.0, r.1, r.2, r.3))
]

-- where none is, no load has a native body
pub none_native : (L : LoadRows) → ((d : ℕ) → d < length L.domains → runs_native L d ≡ false) → IsCodeAlone L
none_native L none zero = refl
none_native L none (suc k) = by_row (slice_get L.loads k) refl
  where
    by_domain : (l : LoadRow) → slice_get L.loads k ≡ Some l → (x : Option Domain) → slice_get L.domains l.domain ≡ x → is_native (domain_or_none L x).lines ≡ false
    by_domain l here None is = refl
    by_domain l here (Some d) is =
        let not_both : runs_native L l.domain ≡ false = none l.domain (slice_get_within L.domains l.domain d is) in
        let lines : domain_of L l.domain ≡ d.lines = ap domain_lines is in
        ap is_native (sym lines) ∙ (ap (λ b. b && is_native (domain_of L l.domain)) (sym (loaded_at L.loads k l here)) ∙ not_both)

    by_row : (x : Option LoadRow) → slice_get L.loads k ≡ x → is_native (domain_in L x).lines ≡ false
    by_row None is = refl
    by_row (Some l) is = by_domain l is (slice_get L.domains l.domain) refl

-- where one is, some load has a native body
pub one_native : (L : LoadRows) (d : ℕ) → is_loaded L.loads d ≡ true → is_native (domain_of L d) ≡ true → IsCodeAlone L → ⊥
one_native L d loaded native alone =
    let r = load_with L.loads d loaded in
    let row' : load_row L (suc r.0) ≡ Some r.1 = r.2 in
    let lines : (domain_of_load L (suc r.0)).lines ≡ domain_of L d = ap (λ x. (domain_in L x).lines) row' ∙ (lines_same L (slice_get L.domains r.1.domain) ∙ ap (domain_of L) r.3) in
    true≢false (sym native ∙ (ap is_native (sym lines) ∙ alone (suc r.0)))

-- the domain that stands at a place
pub domain_at_place : (L : LoadRows) (domains : List Domain) (n : ℕ) (d : Domain) → domains ≡ L.domains → n < length domains → d ≡ get_or domains n d → domain_of L n ≡ d.lines
domain_at_place L domains n d same lt is = ap (λ ds. domain_lines (slice_get ds n)) (sym same) ∙ ap domain_lines (slice_get_read domains (length domains) n d refl lt is)

-- what is known of one domain more
pub none_further : (L : LoadRows) (n : ℕ) → ((d : ℕ) → d < n → runs_native L d ≡ false) → runs_native L n ≡ false → (d : ℕ) → d < n + 1 → runs_native L d ≡ false
none_further L n before here d lt = elim (cases_lt d n) [
  | inl less ↦ before d less
  | inr same ↦ (let e : n ≡ d = omega arith in subst (λ (x : ℕ). runs_native L x ≡ false) e here)
]
