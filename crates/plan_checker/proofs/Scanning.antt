-- The scan of lines up to the first that fails.
use Rattle.std.proofs.Common.{◌≡◌, ℕ, zero, suc, ◌+◌, ◌≤◌, Bool, true, false, List, [], ◌∷◌, ◌++◌, length, take, map, Option, Some, None, ◌⊎◌, inl, inr, refl, sym, ap, subst, ◌∙◌, arith, add-one, append_assoc, length-append}
use Rattle.std.specs.Prelude.{slice_get}
use Rattle.std.proofs.lemmas.Bool.{cases_lt, cases_order}
use Rattle.std.proofs.lemmas.List.{append-nil}
use Rattle.rl_defs.specs.declared.bundle.Numbered.{Numbered}
use Rattle.rl_defs.specs.Refusals.{IsFirst, Nowhere, NotAfter}
use Rattle.rl_defs.specs.BundleNames.{Given, given, given_by}
use Rattle.rl_defs.proofs.Places.{get_within}
use Rattle.plan_checker.specs.LineScan.{LinesRise, FailsIn, NoneBefore, IsLowest, FailsOneOf, lowest_of, given_before}

pub one_line : {A : Type 0} (o : Option A) (a b : A) → o ≡ Some a → o ≡ Some b → a ≡ b
one_line o a b e f = cc

pub untrue : {b : Bool} → b ≡ false → b ≡ true → ⊥
untrue {b} e t = let both : false ≡ true = sym e ∙ t in cc

-- the lower of two rules that fails
pub lowest_is : (first : Bool) (low : ℕ) (second : Bool) (high : ℕ) → low ≤ high → IsLowest (FailsOneOf first low second high) (lowest_of first low second high)
lowest_is true low second high le = (inl (refl, refl), λ rule f. elim f [ inl a ↦ omega (arith, a.0) | inr a ↦ omega (arith, a.0, le) ])
lowest_is false low true high le = (inr (refl, refl), λ rule f. elim f [ inl a ↦ absurd (untrue refl a.1) | inr a ↦ omega (arith, a.0) ])
lowest_is false low false high le = λ rule f. elim f [ inl a ↦ untrue refl a.1 | inr a ↦ untrue refl a.1 ]

pub none_first : {Form : Type 0} (lines : List (Numbered Form)) (At : ℕ → Form → ℕ → Type 0) → NoneBefore lines At 0
none_first lines At = record { none = λ k l rule lt e f. absurd (omega arith) }

-- a line at which nothing fails
pub none_more : {Form : Type 0} (lines : List (Numbered Form)) (At : ℕ → Form → ℕ → Type 0) (k : ℕ) (l : Numbered Form) → NoneBefore lines At k → slice_get lines k ≡ Some l → IsLowest (At k l.form) None → NoneBefore lines At (k + 1)
none_more {Form} lines At k l h here lowest = record {
  none = λ m x rule lt e f. elim (cases_lt m k) [
    | inl less ↦ h.none m x rule less e f
    | inr more ↦ let same : m ≡ k = omega arith in at m x rule same e f
  ];
} where
  at : (m : ℕ) (x : Numbered Form) (rule : ℕ) → m ≡ k → slice_get lines m ≡ Some x → At m x.form rule → ⊥
  at m x rule same e f =
      lowest rule (subst (λ (y : Numbered Form). At k y.form rule) (one_line (slice_get lines k) x l (subst (λ (j : ℕ). slice_get lines j ≡ Some x) same e) here)
      (subst (λ (j : ℕ). At j x.form rule) same f))

pub none_all : {Form : Type 0} (lines : List (Numbered Form)) (At : ℕ → Form → ℕ → Type 0) (k : ℕ) → length lines ≤ k → NoneBefore lines At k → Nowhere (FailsIn lines At)
none_all lines At k le h n rule f =
    h.none f.place (record { line = n; form = f.form }) rule (omega (arith, le, get_within lines f.place (record { line = n; form = f.form }) f.here)) f.here f.fails

-- the first line at which something fails
pub found_first : {Form : Type 0} (lines : List (Numbered Form)) (At : ℕ → Form → ℕ → Type 0) (k rule : ℕ) (l : Numbered Form) → LinesRise lines → NoneBefore lines At k → slice_get lines k ≡ Some l → IsLowest (At k l.form) (Some rule) → IsFirst (FailsIn lines At) l.line rule
found_first {Form} lines At k rule l rises h here lowest = record {
  fails = record { place = k; form = l.form; here = here; fails = lowest.0 };
  first = λ n r f. elim (cases_order f.place k) [
    | inl same ↦ at n r f (one_line (slice_get lines k) l (record { line = n; form = f.form }) here (subst (λ (j : ℕ). slice_get lines j ≡ Some (record { line = n; form = f.form })) same f.here)) same
    | inr (inl less) ↦ absurd (h.none f.place (record { line = n; form = f.form }) r less f.here f.fails)
    | inr (inr more) ↦ inl (rises k f.place l (record { line = n; form = f.form }) more here f.here)
  ];
} where
  at : (n r : ℕ) (f : FailsIn lines At n r) → l ≡ record { line = n; form = f.form } → f.place ≡ k → NotAfter l.line rule n r
  at n r f is same =
      inr (ap (λ (x : Numbered Form). x.line) is, lowest.1 r (subst (λ (x : Numbered Form). At k x.form r) (sym is) (subst (λ (j : ℕ). At j f.form r) same f.fails)))

-- the names that lines give, with one line more
given_suc : {Form : Type 0} (names : Form → List (List ℕ)) (lines : List (Numbered Form)) (k : ℕ) (l : Numbered Form) → slice_get lines k ≡ Some l → given_by names (take (suc k) lines) ≡ given_by names (take k lines) ++ map (given l.line) (names l.form)
given_suc names [] k l e = absurd cc
given_suc {Form} names (x ∷ xs) zero l e =
    let same : x ≡ l = cc in
    append-nil (map (given x.line) (names x.form)) ∙ ap (λ (z : Numbered Form). map (given z.line) (names z.form)) same
given_suc names (x ∷ xs) (suc k) l e = ap (λ gs. map (given x.line) (names x.form) ++ gs) (given_suc names xs k l e) ∙ sym (append_assoc (map (given x.line) (names x.form)) (given_by names (take k xs)) (map (given l.line) (names l.form)))

pub given_more : {Form : Type 0} (names : Form → List (List ℕ)) (lines : List (Numbered Form)) (k : ℕ) (l : Numbered Form) → slice_get lines k ≡ Some l → given_by names (take (k + 1) lines) ≡ given_by names (take k lines) ++ map (given l.line) (names l.form)
given_more names lines k l e = rw add-one (given_suc names lines k l e)

count_given : (n : ℕ) (names : List (List ℕ)) → length (map (given n) names) ≡ length names
count_given n [] = refl
count_given n (x ∷ xs) = ap (λ k. suc k) (count_given n xs)

-- how many names are given up to the next line
pub before_more : {Form : Type 0} (names : Form → List (List ℕ)) (lines : List (Numbered Form)) (k : ℕ) (l : Numbered Form) (count next : ℕ) → slice_get lines k ≡ Some l → count ≡ given_before names lines k → next ≡ count + length (names l.form) → next ≡ given_before names lines (k + 1)
before_more names lines k l count next here is more =
    omega (arith, is, more, ap length (given_more names lines k l here), length-append (given_by names (take k lines)) (map (given l.line) (names l.form)), count_given l.line (names l.form))

get_split : {A : Type 0} (xs ys : List A) (p : ℕ) (z : A) → slice_get (xs ++ ys) p ≡ Some z → (slice_get xs p ≡ Some z) ⊎ ((q : ℕ) × (p ≡ length xs + q) × (slice_get ys q ≡ Some z))
get_split [] ys p z e = inr (p, omega arith, e)
get_split (x ∷ xs) ys zero z e = inl e
get_split (x ∷ xs) ys (suc p) z e = elim (get_split xs ys p z e) [ inl a ↦ inl a | inr b ↦ inr (b.0, omega (arith, b.1), b.2) ]

-- an item of the second of two lists
pub get_behind : {A : Type 0} (xs ys : List A) (q : ℕ) (z : A) → slice_get ys q ≡ Some z → (p : ℕ) × (slice_get (xs ++ ys) p ≡ Some z) × (p ≡ length xs + q)
get_behind [] ys q z e = (q, e, omega arith)
get_behind (x ∷ xs) ys q z e = let r = get_behind xs ys q z e in (suc r.0, r.1, omega (arith, r.2))

get_given : (n : ℕ) (names : List (List ℕ)) (p : ℕ) (g : Given) → slice_get (map (given n) names) p ≡ Some g → (g.line ≡ n) × (slice_get names p ≡ Some g.name)
get_given n [] p g e = absurd cc
get_given n (x ∷ xs) zero g e = let same : given n x ≡ g = cc in (ap (λ (h : Given). h.line) (sym same), ap (λ (h : Given). Some h.name) same)
get_given n (x ∷ xs) (suc p) g e = get_given n xs p g e

-- the line that gives a name
pub record GivenAt {Form : Type 0} (names : Form → List (List ℕ)) (lines : List (Numbered Form)) (p : ℕ) (g : Given) : Type 0 where
  pub place : ℕ
  pub form : Form
  pub index : ℕ
  pub here : slice_get lines place ≡ Some (record { line = g.line; form = form })
  pub name : slice_get (names form) index ≡ Some g.name
  pub at : p ≡ given_before names lines place + index

pub given_at : {Form : Type 0} (names : Form → List (List ℕ)) (lines : List (Numbered Form)) (p : ℕ) (g : Given) → slice_get (given_by names lines) p ≡ Some g → GivenAt names lines p g
given_at names [] p g e = absurd cc
given_at {Form} names (x ∷ xs) p g e = elim (get_split (map (given x.line) (names x.form)) (given_by names xs) p g e) [
  | inl a ↦ let one = get_given x.line (names x.form) p g a in record { place = 0; form = x.form; index = p; here = ap (λ (n : ℕ). Some (record { line = n; form = x.form })) (sym one.0); name = one.1; at = omega arith }
  | inr b ↦ let r = given_at names xs b.0 g b.2 in record { place = suc r.place; form = r.form; index = r.index; here = r.here; name = r.name; at = omega (arith, b.1, r.at, length-append (map (given x.line) (names x.form)) (given_by names (take r.place xs))) }
]

-- the place among the given names of the one that a line gives
pub given_here : {Form : Type 0} (names : Form → List (List ℕ)) (lines : List (Numbered Form)) (k n : ℕ) (form : Form) (name : List ℕ) → slice_get lines k ≡ Some (record { line = n; form = form }) → names form ≡ name ∷ [] → slice_get (given_by names lines) (given_before names lines k) ≡ Some (given n name)
given_here names [] k n form name e one = absurd cc
given_here {Form} names (x ∷ xs) zero n form name e one =
    let same : record { line = n; form = form } ≡ x = cc in
    subst (λ (y : Numbered Form). slice_get (map (given y.line) (names y.form) ++ given_by names xs) 0 ≡ Some (given n name)) same (ap (λ ns. slice_get (map (given n) ns ++ given_by names xs) 0) one)
given_here names (x ∷ xs) (suc k) n form name e one =
    let r = get_behind (map (given x.line) (names x.form)) (given_by names xs) (given_before names xs k) (given n name) (given_here names xs k n form name e one) in
    let at : given_before names (x ∷ xs) (suc k) ≡ r.0 = omega (arith, r.2, length-append (map (given x.line) (names x.form)) (given_by names (take k xs))) in
    ap (λ (p : ℕ). slice_get (given_by names (x ∷ xs)) p) at ∙ r.1
