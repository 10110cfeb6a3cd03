-- The numbers of a bundle's lines rise through its parts.
use Rattle.std.proofs.Common.{◌≡◌, ℕ, zero, suc, ◌<◌, ◌≤◌, List, [], ◌∷◌, ◌++◌, map, length, Some, refl, ap, subst, arith, length-append, All}
use Rattle.std.specs.Prelude.{slice_get}
use Rattle.std.specs.List.{flat_map}
use Rattle.rl_defs.specs.declared.idl.Idl.{Idl}
use Rattle.rl_defs.specs.declared.bundle.Plan.{Plan}
use Rattle.rl_defs.specs.declared.bundle.Clients.{Clients}
use Rattle.rl_defs.specs.declared.bundle.Numbered.{Numbered}
use Rattle.rl_defs.specs.declared.code.DomainText.{DomainText}
use Rattle.rl_defs.specs.DomainValue.{Domain}
use Rattle.rl_defs.specs.Domains.{Lines}
use Rattle.rl_defs.specs.DomainParts.{IsOneDomain}
use Rattle.rl_defs.specs.BundleOrder.{numbers_of, Rise, IsDomainText, bundle_of, text_of}
use Rattle.rl_defs.specs.EarlierRules.{HasNames}
use Rattle.rl_defs.proofs.Places.{get_front, get_within}
use Rattle.plan_checker.specs.LineScan.{LinesRise}
use Rattle.plan_checker.specs.Limits.{DomainsRise}
use Rattle.plan_checker.specs.Parts.{PartsRise}
use Rattle.plan_checker.proofs.Scanning.{get_behind}

rise_back : (xs ys : List ℕ) → Rise (xs ++ ys) → Rise ys
rise_back xs ys h j k x y lt a b =
    let p = get_behind xs ys j x a in
    let q = get_behind xs ys k y b in
    h p.0 q.0 x y (omega (arith, p.2, q.2, lt)) p.1 q.1

rise_front : (xs ys : List ℕ) → Rise (xs ++ ys) → Rise xs
rise_front xs ys h j k x y lt a b = h j k x y lt (get_front xs ys j x a) (get_front xs ys k y b)

rise_apart : (xs ys : List ℕ) → Rise (xs ++ ys) → (j k x y : ℕ) → slice_get xs j ≡ Some x → slice_get ys k ≡ Some y → x < y
rise_apart xs ys h j k x y a b =
    let q = get_behind xs ys k y b in
    h j q.0 x y (omega (arith, get_within xs j x a, q.2)) (get_front xs ys j x a) q.1

number_at : {Form : Type 0} (lines : List (Numbered Form)) (k : ℕ) (l : Numbered Form) → slice_get lines k ≡ Some l → slice_get (numbers_of lines) k ≡ Some l.line
number_at [] k l e = absurd cc
number_at {Form} (x ∷ xs) zero l e = let same : x ≡ l = cc in ap (λ (y : Numbered Form). Some y.line) same
number_at (x ∷ xs) (suc k) l e = number_at xs k l e

lines_rise : {Form : Type 0} (lines : List (Numbered Form)) → Rise (numbers_of lines) → LinesRise lines
lines_rise lines h j k x y lt a b = h j k x.line y.line lt (number_at lines j x a) (number_at lines k y b)

count_lines : {Form : Type 0} (lines : List (Numbered Form)) → length (numbers_of lines) ≡ length lines
count_lines [] = refl
count_lines (x ∷ xs) = ap (λ n. suc n) (count_lines xs)

-- the numbers of the lines of all domains
abbrev numbers_in : List Domain → List ℕ
numbers_in domains = flat_map (λ (t : DomainText). numbers_of t.lines) (map text_of domains)

number_in : (domains : List Domain) (i q y : ℕ) (d : Domain) → slice_get domains i ≡ Some d → slice_get (numbers_of d.lines) q ≡ Some y → (p : ℕ) × (slice_get (numbers_in domains) p ≡ Some y)
number_in [] i q y d e f = absurd cc
number_in (x ∷ xs) zero q y d e f = let same : d ≡ x = cc in (q, get_front (numbers_of x.lines) (numbers_in xs) q y (subst (λ (z : Domain). slice_get (numbers_of z.lines) q ≡ Some y) same f))
number_in (x ∷ xs) (suc i) q y d e f =
    let r = number_in xs i q y d e f in
    let s = get_behind (numbers_of x.lines) (numbers_in xs) r.0 y r.1 in
    (s.0, s.1)

each_rises : (domains : List Domain) (i : ℕ) (d : Domain) → Rise (numbers_in domains) → slice_get domains i ≡ Some d → Rise (numbers_of d.lines)
each_rises [] i d h e = absurd cc
each_rises (x ∷ xs) zero d h e = let same : x ≡ d = cc in subst (λ (z : Domain). Rise (numbers_of z.lines)) same (rise_front (numbers_of x.lines) (numbers_in xs) h)
each_rises (x ∷ xs) (suc i) d h e = each_rises xs i d (rise_back (numbers_of x.lines) (numbers_in xs) h) e

apart : (domains : List Domain) (i j p q x y : ℕ) (d e : Domain) → Rise (numbers_in domains) → i < j → slice_get domains i ≡ Some d → slice_get domains j ≡ Some e → slice_get (numbers_of d.lines) p ≡ Some x → slice_get (numbers_of e.lines) q ≡ Some y → x < y
apart [] i j p q x y d e h lt a b f g = absurd cc
apart (z ∷ zs) zero zero p q x y d e h lt a b f g = absurd (omega arith)
apart (z ∷ zs) zero (suc j) p q x y d e h lt a b f g =
    let same : d ≡ z = cc in
    let there = number_in zs j q y e b g in
    rise_apart (numbers_of z.lines) (numbers_in zs) h p there.0 x y (subst (λ (w : Domain). slice_get (numbers_of w.lines) p ≡ Some x) same f) there.1
apart (z ∷ zs) (suc i) zero p q x y d e h lt a b f g = absurd (omega arith)
apart (z ∷ zs) (suc i) (suc j) p q x y d e h lt a b f g = apart zs i j p q x y d e (rise_back (numbers_of z.lines) (numbers_in zs) h) (omega arith) a b f g

domains_rise : (domains : List Domain) → Rise (numbers_in domains) → DomainsRise domains
domains_rise domains h = record {
  each = λ i d e. lines_rise d.lines (each_rises domains i d h e);
  apart = λ i j d e p q x y lt a b f g. apart domains i j p q x.line y.line d e h lt a b (number_at d.lines p x f) (number_at e.lines q y g);
}

some_line : (lines : Lines) → IsOneDomain lines → 0 < length lines
some_line [] h = absurd h
some_line (l ∷ ls) h = omega arith

-- there are no more domains than lines of them
few_domains : (domains : List Domain) → All IsDomainText (map text_of domains) → length domains ≤ length (numbers_in domains)
few_domains [] h = omega arith
few_domains (d ∷ ds) h =
    let first = some_line d.lines (h 0 (text_of d) (omega arith)) in
    let more = few_domains ds (λ k t within. h (suc k) t (omega arith)) in
    omega (arith, first, more, count_lines d.lines, length-append (numbers_of d.lines) (numbers_in ds))

-- the parts of a bundle whose lines were read
pub parts_rise : (idl : Idl) (domains : List Domain) (p : Plan) (c : Clients) → HasNames (bundle_of idl domains p c) → PartsRise domains p.lines c.lines
parts_rise idl domains p c h =
    let all : Rise (numbers_of idl.lines ++ (numbers_in domains ++ (numbers_of p.lines ++ numbers_of c.lines))) = h.ordered.rises in
    let behind = rise_back (numbers_of idl.lines) (numbers_in domains ++ (numbers_of p.lines ++ numbers_of c.lines)) all in
    let back = rise_back (numbers_in domains) (numbers_of p.lines ++ numbers_of c.lines) behind in
    let few = h.ordered.few in
    let whole = length-append (numbers_of idl.lines) (numbers_in domains ++ (numbers_of p.lines ++ numbers_of c.lines)) in
    let rest = length-append (numbers_in domains) (numbers_of p.lines ++ numbers_of c.lines) in
    let last = length-append (numbers_of p.lines) (numbers_of c.lines) in
    record {
      in_domains = domains_rise domains (rise_front (numbers_in domains) (numbers_of p.lines ++ numbers_of c.lines) behind);
      in_plan = lines_rise p.lines (rise_front (numbers_of p.lines) (numbers_of c.lines) back);
      in_clients = lines_rise c.lines (rise_back (numbers_of p.lines) (numbers_of c.lines) back);
      plan_behind = λ i d j q x y e f g.
          let there = number_in domains i j x.line d e (number_at d.lines j x f) in
          rise_apart (numbers_in domains) (numbers_of p.lines ++ numbers_of c.lines) behind there.0 q x.line y.line there.1 (get_front (numbers_of p.lines) (numbers_of c.lines) q y.line (number_at p.lines q y g));
      clients_behind = λ i d j q x y e f g.
          let there = number_in domains i j x.line d e (number_at d.lines j x f) in
          let at = get_behind (numbers_of p.lines) (numbers_of c.lines) q y.line (number_at c.lines q y g) in
          rise_apart (numbers_in domains) (numbers_of p.lines ++ numbers_of c.lines) behind there.0 at.0 x.line y.line there.1 at.1;
      clients_behind_plan = λ j q x y f g. rise_apart (numbers_of p.lines) (numbers_of c.lines) back j q x.line y.line (number_at p.lines j x f) (number_at c.lines q y g);
      few_domains = omega (arith, few, whole, rest, few_domains domains h.ordered.domains);
      few_lines = omega (arith, few, whole, rest, last, count_lines p.lines);
      few_clients = omega (arith, few, whole, rest, last, count_lines c.lines);
    }
