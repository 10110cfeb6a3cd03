-- The numbers of the lines of a bundle's parts, and those of the lines at which a part's rules fail.
use Rattle.rl_defs.specs.declared.code.DomainLine.{DomainLine}
use Rattle.std.proofs.Common.{◌≡◌, ℕ, zero, suc, ◌+◌, ◌<◌, List, [], ◌∷◌, ◌++◌, length, Some, inl, inr, refl, sym, ap, subst, ◌∙◌, arith, map}
use Rattle.std.specs.Prelude.{slice_get}
use Rattle.std.specs.List.{flat_map}
use Rattle.rl_defs.specs.declared.bundle.Numbered.{Numbered}
use Rattle.rl_defs.specs.declared.bundle.Bundle.{Bundle}
use Rattle.rl_defs.specs.declared.code.DomainText.{DomainText}
use Rattle.rl_defs.specs.declared.idl.Idl.{Idl}
use Rattle.rl_defs.specs.declared.code.DomainLine.TheVariants as line
use Rattle.rl_defs.specs.Domains.{Lines}
use Rattle.rl_defs.specs.NameRules.{FailsNames, GivenTwice, DomainIs, NamesUnknown, GivenTwiceInOne}
use Rattle.rl_defs.specs.BundleNames.{given_by, slot_given, import_given, function_given, domain_given, domain_lines, Given}
use Rattle.rl_defs.specs.BundleOrder.{Rise, numbers_of, line_numbers}
use Rattle.rl_defs.proofs.Places.{get_front, get_within}
use Rattle.bundle_names.specs.Scopes.{Somewhere}
use Rattle.bundle_names.proofs.InterfaceNaming.{FailsLine, fails_line}
use Rattle.bundle_names.proofs.Lists.{get_map_back}
use Rattle.bundle_names.proofs.Walking.{meets_number}
use Rattle.bundle_names.proofs.Giving.{given_more, given_before, twice_meets}
use Rattle.bundle_names.specs.DomainNames.{FailsDomainNames}

-- this is the number of one of the lines
abbrev pub IsNumber : List ℕ → ℕ → Type 0
IsNumber numbers n = (i : ℕ) × (slice_get numbers i ≡ Some n)

pub get_back : {A : Type 0} (xs ys : List A) (j k : ℕ) (y : A) → k ≡ length xs + j → slice_get ys j ≡ Some y → slice_get (xs ++ ys) k ≡ Some y
get_back [] ys j k y is e = let same : k ≡ j = omega (arith, is) in rw same e
get_back (x ∷ xs) ys j zero y is e = absurd (omega (arith, is))
get_back (x ∷ xs) ys j (suc k) y is e = get_back xs ys j k y (omega (arith, is)) e

pub rise_front : (xs ys : List ℕ) → Rise (xs ++ ys) → Rise xs
rise_front xs ys h = λ j k x y lt p q. h j k x y lt (get_front xs ys j x p) (get_front xs ys k y q)

pub rise_back : (xs ys : List ℕ) → Rise (xs ++ ys) → Rise ys
rise_back xs ys h = λ j k x y lt p q. h (length xs + j) (length xs + k) x y (omega (arith, lt)) (get_back xs ys j (length xs + j) x refl p) (get_back xs ys k (length xs + k) y refl q)

-- a line of an earlier part has a lower number
pub rise_across : (xs ys : List ℕ) → Rise (xs ++ ys) → (x y : ℕ) → IsNumber xs x → IsNumber ys y → x < y
rise_across xs ys h x y p q = h p.0 (length xs + q.0) x y (omega (arith, get_within xs p.0 x p.1)) (get_front xs ys p.0 x p.1) (get_back xs ys q.0 (length xs + q.0) y refl q.1)

pub in_front : (xs ys : List ℕ) (n : ℕ) → IsNumber xs n → IsNumber (xs ++ ys) n
in_front xs ys n p = (p.0, get_front xs ys p.0 n p.1)

pub in_back : (xs ys : List ℕ) (n : ℕ) → IsNumber ys n → IsNumber (xs ++ ys) n
in_back xs ys n p = (length xs + p.0, get_back xs ys p.0 (length xs + p.0) n refl p.1)

-- the number of a line of a list of lines
pub number_at : {Form : Type 0} (lines : List (Numbered Form)) (i : ℕ) (x : Numbered Form) → slice_get lines i ≡ Some x → slice_get (numbers_of lines) i ≡ Some x.line
number_at [] i x e = absurd cc
number_at {Form} (y ∷ ys) zero x e = let same : y ≡ x = cc in ap (λ (z : Numbered Form). Some z.line) same
number_at (y ∷ ys) (suc i) x e = number_at ys i x e

pub line_number : {Form : Type 0} (lines : List (Numbered Form)) (i : ℕ) (x : Numbered Form) → slice_get lines i ≡ Some x → IsNumber (numbers_of lines) x.line
line_number lines i x e = (i, number_at lines i x e)

pub length_numbers : {Form : Type 0} (lines : List (Numbered Form)) → length (numbers_of lines) ≡ length lines
length_numbers [] = refl
length_numbers (x ∷ xs) = ap (λ (n : ℕ). suc n) (length_numbers xs)

pub twice_number : {Form : Type 0} (names : Form → List (List ℕ)) (lines : List (Numbered Form)) (n : ℕ) → GivenTwice (given_by names lines) n → IsNumber (numbers_of lines) n
twice_number names lines n t = meets_number (given_more names) (given_before names) [] lines n (twice_meets names lines n t)

pub unknown_number : {Form : Type 0} (lines : List (Numbered Form)) (uses : Form → List (List ℕ)) (declared : List (List ℕ)) (n : ℕ) → NamesUnknown lines uses declared n → IsNumber (numbers_of lines) n
unknown_number lines uses declared n u = line_number lines u.place (record { line = n; form = u.form }) u.here

-- rules 3 and 4 fail in the interface part at its lines
pub interface_number : (idl : Idl) (n r : ℕ) → FailsNames idl n r → IsNumber (numbers_of idl.lines) n
interface_number idl n r f = by (fails_line idl.lines n r f) where
  by : Somewhere (FailsLine idl.lines) n r → IsNumber (numbers_of idl.lines) n
  by (place, (form, here, fails)) = line_number idl.lines place (record { line = n; form = form }) here

-- the numbers of the lines of the domains
abbrev pub domain_numbers : List DomainText → List ℕ
domain_numbers domains = flat_map (λ d. numbers_of d.lines) domains

numbers_append : {Form : Type 0} (xs ys : List (Numbered Form)) → numbers_of (xs ++ ys) ≡ numbers_of xs ++ numbers_of ys
numbers_append [] ys = refl
numbers_append (x ∷ xs) ys = ap (λ (ns : List ℕ). x.line ∷ ns) (numbers_append xs ys)

domains_numbers : (domains : List DomainText) → numbers_of (flat_map (λ (d : DomainText). d.lines) domains) ≡ domain_numbers domains
domains_numbers [] = refl
domains_numbers (d ∷ ds) = numbers_append d.lines (flat_map (λ (x : DomainText). x.lines) ds) ∙ ap (λ (ns : List ℕ). numbers_of d.lines ++ ns) (domains_numbers ds)

in_domains : (b : Bundle) (n : ℕ) → IsNumber (numbers_of (domain_lines b)) n → IsNumber (domain_numbers b.domains) n
in_domains b n p = subst (λ (ns : List ℕ). IsNumber ns n) (domains_numbers b.domains) p

in_domain : (domains : List DomainText) (i n : ℕ) (lines : Lines) → slice_get domains i ≡ Some (record { lines = lines }) → IsNumber (numbers_of lines) n → IsNumber (domain_numbers domains) n
in_domain [] i n lines e p = absurd cc
in_domain (d ∷ ds) zero n lines e p = here d e where
  here : (x : DomainText) → Some x ≡ Some (record { lines = lines }) → IsNumber (numbers_of x.lines ++ domain_numbers ds) n
  here x e = let same : x ≡ record { lines = lines } = cc in rw same (in_front (numbers_of lines) (domain_numbers ds) n p)
in_domain (d ∷ ds) (suc i) n lines e p = in_back (numbers_of d.lines) (domain_numbers ds) n (in_domain ds i n lines e p)

in_its_domain : (b : Bundle) (lines : Lines) (n : ℕ) → DomainIs b lines → IsNumber (numbers_of lines) n → IsNumber (domain_numbers b.domains) n
in_its_domain b lines n d p = in_domain b.domains d.place n lines d.here p

member_number : (names : DomainLine → List (List ℕ)) (b : Bundle) (n : ℕ) → GivenTwiceInOne (map (λ d. given_by names d.lines) b.domains) n → IsNumber (domain_numbers b.domains) n
member_number names b n t =
    let d = get_map_back (λ (x : DomainText). given_by names x.lines) b.domains t.number t.names t.here in
    in_domain b.domains t.number n d.0.lines d.1 (twice_number names d.0.lines n (subst (λ (gs : List Given). GivenTwice gs n) (sym d.2) t.twice))

-- rules 3 and 4 fail in the domains at their lines
pub domains_number : (b : Bundle) (n r : ℕ) → FailsDomainNames b n r → IsNumber (domain_numbers b.domains) n
domains_number b n r (inl (e, inl t)) = in_domains b n (twice_number domain_given (domain_lines b) n t)
domains_number b n r (inl (e, inr (inl (inl t)))) = member_number slot_given b n t
domains_number b n r (inl (e, inr (inl (inr (inl t))))) = member_number import_given b n t
domains_number b n r (inl (e, inr (inl (inr (inr t))))) = member_number function_given b n t
domains_number b n r (inl (e, inr (inr t))) = in_its_domain b t.lines n t.domain (line_number t.lines t.later.place (record { line = n; form = line.Head t.name t.second }) t.later.here)
domains_number b n r (inr (e, inl u)) = in_domains b n (line_number (domain_lines b) u.place (record { line = n; form = u.form }) u.here)
domains_number b n r (inr (e, inr (inl u))) = in_domains b n (line_number (domain_lines b) u.place (record { line = n; form = u.form }) u.here)
domains_number b n r (inr (e, inr (inr u))) = in_its_domain b u.lines n u.domain (line_number u.lines u.unknown.place (record { line = n; form = u.unknown.form }) u.unknown.here)

-- the numbers of the lines of each part rise
pub plan_rises : (b : Bundle) → Rise (line_numbers b) → Rise (numbers_of b.plan.lines)
plan_rises b h = rise_front (numbers_of b.plan.lines) (numbers_of b.clients.lines) (rise_back (domain_numbers b.domains) (numbers_of b.plan.lines ++ numbers_of b.clients.lines) (rise_back (numbers_of b.idl.lines) (domain_numbers b.domains ++ (numbers_of b.plan.lines ++ numbers_of b.clients.lines)) h))

pub clients_rise : (b : Bundle) → Rise (line_numbers b) → Rise (numbers_of b.clients.lines)
clients_rise b h = rise_back (numbers_of b.plan.lines) (numbers_of b.clients.lines) (rise_back (domain_numbers b.domains) (numbers_of b.plan.lines ++ numbers_of b.clients.lines) (rise_back (numbers_of b.idl.lines) (domain_numbers b.domains ++ (numbers_of b.plan.lines ++ numbers_of b.clients.lines)) h))
