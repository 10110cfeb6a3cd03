-- Domains one behind the other: the lines of the earlier stand before those of the later.
use Rattle.std.proofs.Common.{◌≡◌, ℕ, zero, suc, ◌+◌, ◌<◌, ◌≤◌, ◌⊎◌, inl, inr, List, [], ◌∷◌, ◌++◌, map, length, Some, refl, sym, ap, subst, ◌∙◌, arith}
use Rattle.std.specs.Prelude.{slice_get, Err}
use Rattle.std.specs.List.{flat_map}
use Rattle.std.proofs.lemmas.Bool.{cases_order}
use Rattle.rl_defs.specs.declared.bundle.Numbered.{Numbered}
use Rattle.rl_defs.specs.declared.code.DomainLine.{DomainLine}
use Rattle.rl_defs.specs.declared.code.DomainText.{DomainText}
use Rattle.rl_defs.specs.declared.tables.Tables.{Tables}
use Rattle.rl_defs.specs.declared.LoadFault.{LoadFault}
use Rattle.rl_defs.specs.declared.LoadFault.TheVariants.{Refused, Memory}
use Rattle.rl_defs.specs.Refusals.{IsFirst, Nowhere, Answers}
use Rattle.rl_defs.specs.DomainValue.{Domain}
use Rattle.rl_defs.specs.Domains.{Lines}
use Rattle.rl_defs.specs.CodeRules.{FailsCode}
use Rattle.rl_defs.specs.DomainParts.{LinesRise}
use Rattle.rl_defs.specs.BundleOrder.{Rise, numbers_of}
use Rattle.rl_defs.specs.LoadOf.{checked_with}
use Rattle.rl_defs.proofs.Places.{get_front, get_seam, get_within}
use Rattle.domain_loader.specs.Phases.{FailsDomains}

abbrev pub numbers_in : List DomainText → List ℕ
numbers_in domains = flat_map (λ d. numbers_of d.lines) domains

pub get_behind : {A : Type 0} (xs ys : List A) (i : ℕ) (y : A) → slice_get ys i ≡ Some y → slice_get (xs ++ ys) (length xs + i) ≡ Some y
get_behind [] ys i y e = let same : 0 + i ≡ i = omega arith in subst (λ n. slice_get ys n ≡ Some y) (sym same) e
get_behind (x ∷ xs) ys i y e = let same : length (x ∷ xs) + i ≡ suc (length xs + i) = omega arith in subst (λ n. slice_get ((x ∷ xs) ++ ys) n ≡ Some y) (sym same) (get_behind xs ys i y e)

pub rise_front : (xs ys : List ℕ) → Rise (xs ++ ys) → Rise xs
rise_front xs ys h j k x y lt a b = h j k x y lt (get_front xs ys j x a) (get_front xs ys k y b)

pub rise_behind : (xs ys : List ℕ) → Rise (xs ++ ys) → Rise ys
rise_behind xs ys h j k x y lt a b = h (length xs + j) (length xs + k) x y (omega (arith, lt)) (get_behind xs ys j x a) (get_behind xs ys k y b)

-- a line of a domain is a line of them all
found : (domains : List DomainText) (k i y : ℕ) (d : DomainText) → slice_get domains k ≡ Some d → slice_get (numbers_of d.lines) i ≡ Some y → (p : ℕ) × (slice_get (numbers_in domains) p ≡ Some y)
found [] k i y d e at = absurd cc
found (x ∷ xs) zero i y d e at =
    let same : x ≡ d = cc in
    (i, get_front (numbers_of x.lines) (numbers_in xs) i y (subst (λ (z : DomainText). slice_get (numbers_of z.lines) i ≡ Some y) (sym same) at))
found (x ∷ xs) (suc k) i y d e at =
    let h = found xs k i y d e at in
    (length (numbers_of x.lines) + h.0, get_behind (numbers_of x.lines) (numbers_in xs) h.0 y h.1)

apart : (domains : List DomainText) (j k i m x y : ℕ) (a b : DomainText) → Rise (numbers_in domains) → j < k → slice_get domains j ≡ Some a → slice_get domains k ≡ Some b → slice_get (numbers_of a.lines) i ≡ Some x → slice_get (numbers_of b.lines) m ≡ Some y → x < y
apart [] j k i m x y a b h lt e f at bt = absurd cc
apart (d ∷ ds) j zero i m x y a b h lt e f at bt = absurd (omega (arith, lt))
apart (d ∷ ds) zero (suc k) i m x y a b h lt e f at bt =
    let same : d ≡ a = cc in
    let here = subst (λ (z : DomainText). slice_get (numbers_of z.lines) i ≡ Some x) (sym same) at in
    let there = found ds k m y b f bt in
    h i (length (numbers_of d.lines) + there.0) x y (omega (arith, get_within (numbers_of d.lines) i x here)) (get_front (numbers_of d.lines) (numbers_in ds) i x here) (get_behind (numbers_of d.lines) (numbers_in ds) there.0 y there.1)
apart (d ∷ ds) (suc j) (suc k) i m x y a b h lt e f at bt = apart ds j k i m x y a b (rise_behind (numbers_of d.lines) (numbers_in ds) h) (omega (arith, lt)) e f at bt

number_at : (lines : Lines) (p n : ℕ) (form : DomainLine) → slice_get lines p ≡ Some (record { line = n; form = form }) → slice_get (numbers_of lines) p ≡ Some n
number_at [] p n form e = absurd cc
number_at (l ∷ ls) zero n form e = let same : l ≡ record { line = n; form = form } = cc in ap (λ (x : Numbered DomainLine). Some x.line) same
number_at (l ∷ ls) (suc p) n form e = number_at ls p n form e

number_of_line : (lines : Lines) (p : ℕ) (l : Numbered DomainLine) → slice_get lines p ≡ Some l → slice_get (numbers_of lines) p ≡ Some l.line
number_of_line [] p l e = absurd cc
number_of_line (x ∷ ls) zero l e = let same : x ≡ l = cc in ap (λ (y : Numbered DomainLine). Some y.line) same
number_of_line (x ∷ ls) (suc p) l e = number_of_line ls p l e

-- the lines of each domain rise
pub lines_rise : (domains : List DomainText) (k : ℕ) (d : DomainText) → Rise (numbers_in domains) → slice_get domains k ≡ Some d → LinesRise d.lines
lines_rise [] k d h e = absurd cc
lines_rise (x ∷ xs) zero d h e =
    let same : x ≡ d = cc in
    subst (λ (z : DomainText). LinesRise z.lines) same (λ j m a b lt at bt. rise_front (numbers_of x.lines) (numbers_in xs) h j m a.line b.line lt (number_of_line x.lines j a at) (number_of_line x.lines m b bt))
lines_rise (x ∷ xs) (suc k) d h e = lines_rise xs k d (rise_behind (numbers_of x.lines) (numbers_in xs) h) e

numbers_count : (lines : Lines) → length (numbers_of lines) ≡ length lines
numbers_count [] = refl
numbers_count (l ∷ ls) = omega (arith, numbers_count ls)

pub both_count : (xs ys : List ℕ) → length (xs ++ ys) ≡ length xs + length ys
both_count [] ys = omega arith
both_count (x ∷ xs) ys = omega (arith, both_count xs ys)

-- each domain has no more lines than all
pub few_in : (domains : List DomainText) (k : ℕ) (d : DomainText) → slice_get domains k ≡ Some d → length d.lines ≤ length (numbers_in domains)
few_in [] k d e = absurd cc
few_in (x ∷ xs) zero d e =
    let same : x ≡ d = cc in
    subst (λ (z : DomainText). length z.lines ≤ length (numbers_in (x ∷ xs))) same (omega (arith, numbers_count x.lines, both_count (numbers_of x.lines) (numbers_in xs)))
few_in (x ∷ xs) (suc k) d e = omega (arith, few_in xs k d e, both_count (numbers_of x.lines) (numbers_in xs))

-- no domain before this one fails
abbrev pub NoneBefore : Tables → List DomainText → ℕ → Type 0
NoneBefore tables domains k = (j : ℕ) (d : DomainText) → j < k → slice_get domains j ≡ Some d → Nowhere (FailsCode (checked_with tables d))

-- the first domain that fails has the first refusal
pub first_fails : (tables : Tables) (domains : List DomainText) (k line rule : ℕ) (d : DomainText) → Rise (numbers_in domains) → NoneBefore tables domains k → slice_get domains k ≡ Some d → IsFirst (FailsCode (checked_with tables d)) line rule → IsFirst (FailsDomains tables domains) line rule
first_fails tables domains k line rule d h before e first = record {
  fails = record { place = k; text = d; here = e; fails = first.fails };
  first = λ l r f. elim (cases_order f.place k) [
    | inl same ↦
        let is : Some f.text ≡ Some d = sym f.here ∙ ap (λ n. slice_get domains n) same ∙ e in
        let text : f.text ≡ d = cc in
        first.first l r (subst (λ (z : DomainText). FailsCode (checked_with tables z) l r) text f.fails)
    | inr (inl less) ↦ absurd (before f.place f.text less f.here l r f.fails)
    | inr (inr more) ↦ inl (apart domains k f.place first.fails.place f.fails.place line l d f.text h more e f.here (number_at d.lines first.fails.place line first.fails.form first.fails.here) (number_at f.text.lines f.fails.place l f.fails.form f.fails.here))
  ];
}

-- where none fails, none of them all does
pub none_fails : (tables : Tables) (domains : List DomainText) (k : ℕ) → length domains ≤ k → NoneBefore tables domains k → Nowhere (FailsDomains tables domains)
none_fails tables domains k all before l r f = before f.place f.text (omega (arith, all, get_within domains f.place f.text f.here)) f.here l r f.fails

-- ---- one domain after another

pub seam : (domains before rest more : List DomainText) (t : DomainText) → domains ≡ before ++ rest → rest ≡ t ∷ more → slice_get domains (length before) ≡ Some t
seam domains before rest more t all is = subst (λ (ds : List DomainText). slice_get ds (length before) ≡ Some t) (sym (all ∙ ap (λ (r : List DomainText). before ++ r) is)) (get_seam before t more)

shift : (before more : List DomainText) (t : DomainText) → before ++ t ∷ more ≡ (before ++ t ∷ []) ++ more
shift [] more t = refl
shift (x ∷ before) more t = ap (λ (r : List DomainText). x ∷ r) (shift before more t)

pub all_shift : (domains before rest more : List DomainText) (t : DomainText) → domains ≡ before ++ rest → rest ≡ t ∷ more → domains ≡ (before ++ t ∷ []) ++ more
all_shift domains before rest more t all is = all ∙ (ap (λ (r : List DomainText). before ++ r) is ∙ shift before more t)

map_last : (tables : Tables) (before : List DomainText) (t : DomainText) → map (checked_with tables) (before ++ t ∷ []) ≡ map (checked_with tables) before ++ checked_with tables t ∷ []
map_last tables [] t = refl
map_last tables (x ∷ before) t = ap (λ (r : List Domain). checked_with tables x ∷ r) (map_last tables before t)

pub put_last : (tables : Tables) (before : List DomainText) (t : DomainText) (done after : List Domain) (d : Domain) → done ≡ map (checked_with tables) before → d ≡ checked_with tables t → after ≡ done ++ d ∷ [] → after ≡ map (checked_with tables) (before ++ t ∷ [])
put_last tables before t done after d so is put = put ∙ (ap (λ (r : List Domain). r ++ d ∷ []) so ∙ (ap (λ (x : Domain). map (checked_with tables) before ++ x ∷ []) is ∙ sym (map_last tables before t)))

last_count : (before : List DomainText) (t : DomainText) → length (before ++ t ∷ []) ≡ length before + 1
last_count [] t = omega arith
last_count (x ∷ before) t = omega (arith, last_count before t)

pub none_more : (tables : Tables) (domains before : List DomainText) (t : DomainText) → NoneBefore tables domains (length before) → slice_get domains (length before) ≡ Some t → Nowhere (FailsCode (checked_with tables t)) → NoneBefore tables domains (length (before ++ t ∷ []))
none_more tables domains before t none here fits j d lt at = elim (cases_order j (length before)) [
  | inl same ↦
      let is : Some t ≡ Some d = sym here ∙ ap (λ n. slice_get domains n) (sym same) ∙ at in
      let text : t ≡ d = cc in
      subst (λ (z : DomainText). Nowhere (FailsCode (checked_with tables z))) text fits
  | inr (inl less) ↦ none j d less at
  | inr (inr more) ↦ absurd (omega (arith, lt, more, last_count before t))
]

-- the refusal of the first domain that fails
pub refused_first : {X Y : Type 0} (tables : Tables) (domains : List DomainText) (k : ℕ) (d : DomainText) (S : X → Type 0) (T : Y → Type 0) (e : LoadFault) → Rise (numbers_in domains) → NoneBefore tables domains k → slice_get domains k ≡ Some d → Answers {X = X} (FailsCode (checked_with tables d)) S (Err e) → Answers {X = Y} (FailsDomains tables domains) T (Err e)
refused_first tables domains k d S T (Refused at) h before here first = first_fails tables domains k at.line at.rule d h before here first
refused_first tables domains k d S T Memory h before here first = first

pub nothing_left : (domains before rest : List DomainText) → domains ≡ before ++ rest → length rest ≡ 0 → before ≡ domains
nothing_left domains before [] all none = sym (all ∙ no_more before) where
  no_more : (xs : List DomainText) → xs ++ [] ≡ xs
  no_more [] = refl
  no_more (x ∷ xs) = ap (λ (r : List DomainText). x ∷ r) (no_more xs)
nothing_left domains before (x ∷ rest) all none = absurd (omega (arith, none))

pub done_all : (tables : Tables) (domains before rest : List DomainText) (done : List Domain) → domains ≡ before ++ rest → length rest ≡ 0 → done ≡ map (checked_with tables) before → NoneBefore tables domains (length before) → Nowhere (FailsDomains tables domains) × (done ≡ map (checked_with tables) domains)
done_all tables domains before rest done all none so fits =
    let same = nothing_left domains before rest all none in
    (none_fails tables domains (length before) (omega (arith, ap (λ (ds : List DomainText). length ds) same)) fits, so ∙ ap (λ (ds : List DomainText). map (checked_with tables) ds) same)
