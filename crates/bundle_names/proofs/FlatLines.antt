-- The lines of all domains, and the lines of each.
use Rattle.std.proofs.Common.{◌≡◌, ℕ, zero, suc, ◌+◌, ◌<◌, ◌≤◌, ◌⊎◌, inl, inr, true, List, [], ◌∷◌, ◌++◌, length, take, Some, refl, sym, ap, subst, ◌∙◌, arith, add-one, append_assoc, length-append}
use Rattle.std.specs.Prelude.{slice_get}
use Rattle.std.specs.List.{flat_map}
use Rattle.std.proofs.lemmas.List.{append-nil}
use Rattle.rl_defs.specs.declared.bundle.Numbered.{Numbered}
use Rattle.rl_defs.specs.declared.code.DomainLine.{DomainLine}
use Rattle.rl_defs.specs.declared.code.DomainText.{DomainText}
use Rattle.rl_defs.specs.Domains.{Lines}
use Rattle.rl_defs.specs.BundleOrder.{numbers_of, Rise}
use Rattle.rl_defs.specs.DomainParts.{LinesRise}
use Rattle.rl_defs.proofs.Places.{get_front}
use Rattle.bundle_names.specs.declared.roles.Role.{Role}
use Rattle.bundle_names.specs.Scopes.{Scope, names_in, behind, behind_all, repeats, Repeats}
use Rattle.bundle_names.specs.DomainNames.{domain_role, all_lines, NumbersRise, domains_before}
use Rattle.bundle_names.proofs.Lists.{get_map}
use Rattle.bundle_names.proofs.Scoping.{few_behind}

pub get_back : {A : Type 0} (xs ys : List A) (i : ℕ) → slice_get (xs ++ ys) (length xs + i) ≡ slice_get ys i
get_back [] ys i = ap (slice_get ys) (let e : 0 + i ≡ i = omega arith in e)
get_back (x ∷ xs) ys i = ap (slice_get (x ∷ (xs ++ ys))) (let e : length (x ∷ xs) + i ≡ suc (length xs + i) = omega arith in e) ∙ get_back xs ys i

-- an item of two lists is one of the first, or of the second
pub get_either : {A : Type 0} (xs ys : List A) (i : ℕ) (x : A) → slice_get (xs ++ ys) i ≡ Some x → (slice_get xs i ≡ Some x) ⊎ ((j : ℕ) × (i ≡ length xs + j) × (slice_get ys j ≡ Some x))
get_either [] ys i x e = inr (i, omega arith, e)
get_either (y ∷ xs) ys zero x e = inl e
get_either (y ∷ xs) ys (suc i) x e = elim (get_either xs ys i x e) [ inl a ↦ inl a | inr b ↦ inr (b.0, omega (arith, b.1), b.2) ]

-- numbers that rise
pub rise_front : (xs ys : List ℕ) → Rise (xs ++ ys) → Rise xs
rise_front xs ys h j k x y lt e f = h j k x y lt (get_front xs ys j x e) (get_front xs ys k y f)

pub rise_back : (xs ys : List ℕ) → Rise (xs ++ ys) → Rise ys
rise_back xs ys h j k x y lt e f = h (length xs + j) (length xs + k) x y (omega (arith, lt)) (get_back xs ys j ∙ e) (get_back xs ys k ∙ f)

within : (xs : List ℕ) (i x : ℕ) → slice_get xs i ≡ Some x → i < length xs
within [] i x e = absurd cc
within (y ∷ xs) zero x e = omega arith
within (y ∷ xs) (suc i) x e = omega (arith, within xs i x e)

rise_across : (xs ys : List ℕ) (i j x y : ℕ) → Rise (xs ++ ys) → slice_get xs i ≡ Some x → slice_get ys j ≡ Some y → x < y
rise_across xs ys i j x y h e f = h i (length xs + j) x y (omega (arith, within xs i x e)) (get_front xs ys i x e) (get_back xs ys j ∙ f)

number_at : {Form : Type 0} (lines : List (Numbered Form)) (i : ℕ) (x : Numbered Form) → slice_get lines i ≡ Some x → slice_get (numbers_of lines) i ≡ Some x.line
number_at {Form} lines i x e = get_map (λ (l : Numbered Form). l.line) lines i x e

pub lines_rise : (lines : Lines) → Rise (numbers_of lines) → LinesRise lines
lines_rise lines h j k x y lt e f = h j k x.line y.line lt (number_at lines j x e) (number_at lines k y f)

pub domain_rises : (ds : List DomainText) (d : ℕ) (t : DomainText) → NumbersRise ds → slice_get ds d ≡ Some t → Rise (numbers_of t.lines)
domain_rises [] d t h e = absurd cc
domain_rises (x ∷ ds) zero t h e = let same : x ≡ t = cc in subst (λ (y : DomainText). Rise (numbers_of y.lines)) same (rise_front (numbers_of x.lines) (flat_map (λ d. numbers_of d.lines) ds) h)
domain_rises (x ∷ ds) (suc d) t h e = domain_rises ds d t (rise_back (numbers_of x.lines) (flat_map (λ d. numbers_of d.lines) ds) h) e

in_numbers : (ds : List DomainText) (d : ℕ) (t : DomainText) (i : ℕ) (x : Numbered DomainLine) → slice_get ds d ≡ Some t → slice_get t.lines i ≡ Some x → (p : ℕ) × (slice_get (flat_map (λ d. numbers_of d.lines) ds) p ≡ Some x.line)
in_numbers [] d t i x e f = absurd cc
in_numbers (y ∷ ds) zero t i x e f =
    let same : y ≡ t = cc in
    (i, get_front (numbers_of y.lines) (flat_map (λ d. numbers_of d.lines) ds) i x.line (number_at y.lines i x (ap (λ (z : DomainText). slice_get z.lines i) same ∙ f)))
in_numbers (y ∷ ds) (suc d) t i x e f = let h = in_numbers ds d t i x e f in (length (numbers_of y.lines) + h.0, get_back (numbers_of y.lines) (flat_map (λ d. numbers_of d.lines) ds) h.0 ∙ h.1)

-- a line of a later domain has a greater number
pub domains_rise : (ds : List DomainText) (d e : ℕ) (t u : DomainText) (i j : ℕ) (x y : Numbered DomainLine) → NumbersRise ds → d < e → slice_get ds d ≡ Some t → slice_get ds e ≡ Some u → slice_get t.lines i ≡ Some x → slice_get u.lines j ≡ Some y → x.line < y.line
domains_rise [] d e t u i j x y h lt a b f g = absurd cc
domains_rise (z ∷ ds) d zero t u i j x y h lt a b f g = absurd (omega (arith, lt))
domains_rise (z ∷ ds) zero (suc e) t u i j x y h lt a b f g =
    let same : z ≡ t = cc in
    let p = in_numbers ds e u j y b g in
    rise_across (numbers_of z.lines) (flat_map (λ d. numbers_of d.lines) ds) i p.0 x.line y.line h (number_at z.lines i x (ap (λ (w : DomainText). slice_get w.lines i) same ∙ f)) p.1
domains_rise (z ∷ ds) (suc d) (suc e) t u i j x y h lt a b f g = domains_rise ds d e t u i j x y (rise_back (numbers_of z.lines) (flat_map (λ d. numbers_of d.lines) ds) h) (omega (arith, lt)) a b f g

pub count_numbers : {Form : Type 0} (ls : List (Numbered Form)) → length (numbers_of ls) ≡ length ls
count_numbers [] = refl
count_numbers (l ∷ ls) = ap (λ n. suc n) (count_numbers ls)

pub length_numbers : (ds : List DomainText) → length (flat_map (λ d. numbers_of d.lines) ds) ≡ length (all_lines ds)
length_numbers [] = refl
length_numbers (d ∷ ds) = omega (arith, length-append (numbers_of d.lines) (flat_map (λ d. numbers_of d.lines) ds), length-append d.lines (all_lines ds), count_numbers d.lines, length_numbers ds)

-- a domain and those before it have no more lines than all domains
pub few_lines : (ds : List DomainText) (k : ℕ) (t : DomainText) → slice_get ds k ≡ Some t → length (all_lines (take k ds)) + length t.lines ≤ length (all_lines ds)
few_lines [] k t e = absurd cc
few_lines (d ∷ ds) zero t e = let same : d ≡ t = cc in omega (arith, length-append d.lines (all_lines ds), ap (λ (z : DomainText). length z.lines) same)
few_lines (d ∷ ds) (suc k) t e = omega (arith, length-append d.lines (all_lines ds), length-append d.lines (all_lines (take k ds)), few_lines ds k t e)

-- scopes behind lists one after the other
pub behind_append : {Form : Type 0} (f : Form → Role) (scope : Scope) (xs ys : List (Numbered Form)) → behind_all f scope (xs ++ ys) ≡ behind_all f (behind_all f scope xs) ys
behind_append f scope [] ys = refl
behind_append f scope (x ∷ xs) ys = behind_append f (behind (f x.form) scope) xs ys

lines_suc : (ds : List DomainText) (k : ℕ) (t : DomainText) → slice_get ds k ≡ Some t → all_lines (take (suc k) ds) ≡ all_lines (take k ds) ++ t.lines
lines_suc [] k t e = absurd cc
lines_suc (d ∷ ds) zero t e = let same : d ≡ t = cc in append-nil d.lines ∙ ap (λ (z : DomainText). z.lines) same
lines_suc (d ∷ ds) (suc k) t e = ap (λ (ls : Lines). d.lines ++ ls) (lines_suc ds k t e) ∙ sym (append_assoc d.lines (all_lines (take k ds)) t.lines)

pub before_more : (ds : List DomainText) (k : ℕ) (t : DomainText) → slice_get ds k ≡ Some t → behind_all domain_role (domains_before ds k) t.lines ≡ domains_before ds (k + 1)
before_more ds k t e = rw add-one (sym (behind_append domain_role (Some []) (all_lines (take k ds)) t.lines) ∙ ap (behind_all domain_role (Some [])) (sym (lines_suc ds k t e)))

pub few_behind_all : {Form : Type 0} (f : Form → Role) (scope : Scope) (lines : List (Numbered Form)) → names_in (behind_all f scope lines) ≤ names_in scope + length lines
few_behind_all f scope [] = omega arith
few_behind_all f scope (l ∷ ls) = omega (arith, few_behind_all f (behind (f l.form) scope) ls, few_behind (f l.form) scope)

-- a name given again in one list after another is given again in one of them
repeats_first : {Form : Type 0} (f : Form → Role) (scope : Scope) (xs ys : List (Numbered Form)) (n place : ℕ) (form : Form) → slice_get (xs ++ ys) place ≡ Some (record { line = n; form = form }) → repeats (f form) (behind_all f scope (take place (xs ++ ys))) ≡ true → Repeats f scope xs n ⊎ Repeats f (behind_all f scope xs) ys n
repeats_first f scope [] ys n place form here again = inr (record { place = place; form = form; here = here; again = again })
repeats_first f scope (x ∷ xs) ys n zero form here again = inl (record { place = 0; form = form; here = here; again = again })
repeats_first f scope (x ∷ xs) ys n (suc k) form here again = elim (repeats_first f (behind (f x.form) scope) xs ys n k form here again) [
  | inl a ↦ inl (record { place = suc a.place; form = a.form; here = a.here; again = a.again })
  | inr b ↦ inr b
]

front_repeats : {Form : Type 0} (f : Form → Role) (scope : Scope) (xs ys : List (Numbered Form)) (n place : ℕ) (form : Form) → slice_get xs place ≡ Some (record { line = n; form = form }) → repeats (f form) (behind_all f scope (take place xs)) ≡ true → Repeats f scope (xs ++ ys) n
front_repeats f scope [] ys n place form here again = absurd cc
front_repeats f scope (x ∷ xs) ys n zero form here again = record { place = 0; form = form; here = here; again = again }
front_repeats f scope (x ∷ xs) ys n (suc k) form here again = let h = front_repeats f (behind (f x.form) scope) xs ys n k form here again in record { place = suc h.place; form = h.form; here = h.here; again = h.again }

back_repeats : {Form : Type 0} (f : Form → Role) (scope : Scope) (xs ys : List (Numbered Form)) (n : ℕ) → Repeats f (behind_all f scope xs) ys n → Repeats f scope (xs ++ ys) n
back_repeats f scope [] ys n h = h
back_repeats f scope (x ∷ xs) ys n h = let r = back_repeats f (behind (f x.form) scope) xs ys n h in record { place = suc r.place; form = r.form; here = r.here; again = r.again }

-- a name given again in the lines of all domains is given again in those of one
pub record InOne (f : DomainLine → Role) (scope : Scope) (ds : List DomainText) (n : ℕ) : Type 0 where
  pub place : ℕ
  pub text : DomainText
  pub here : slice_get ds place ≡ Some text
  pub again : Repeats f (behind_all f scope (all_lines (take place ds))) text.lines n

pub repeats_in_one : (f : DomainLine → Role) (scope : Scope) (ds : List DomainText) (n : ℕ) → Repeats f scope (all_lines ds) n → InOne f scope ds n
repeats_in_one f scope [] n h = by h.place (record { line = n; form = h.form }) h.here where
  by : (place : ℕ) (x : Numbered DomainLine) → slice_get [] place ≡ Some x → InOne f scope [] n
  by place x e = absurd cc
repeats_in_one f scope (d ∷ ds) n h = elim (repeats_first f scope d.lines (all_lines ds) n h.place h.form h.here h.again) [
  | inl a ↦ record { place = 0; text = d; here = refl; again = a }
  | inr b ↦ (let r = repeats_in_one f (behind_all f scope d.lines) ds n b in record { place = suc r.place; text = r.text; here = r.here; again = subst (λ (s : Scope). Repeats f s r.text.lines n) (sym (behind_append f scope d.lines (all_lines (take r.place ds)))) r.again })
]

pub in_one_repeats : (f : DomainLine → Role) (scope : Scope) (ds : List DomainText) (n place : ℕ) (t : DomainText) → slice_get ds place ≡ Some t → Repeats f (behind_all f scope (all_lines (take place ds))) t.lines n → Repeats f scope (all_lines ds) n
in_one_repeats f scope [] n place t e h = absurd cc
in_one_repeats f scope (d ∷ ds) n zero t e h = let same : d ≡ t = cc in let r = subst (λ (z : DomainText). Repeats f scope z.lines n) (sym same) h in front_repeats f scope d.lines (all_lines ds) n r.place r.form r.here r.again
in_one_repeats f scope (d ∷ ds) n (suc k) t e h = back_repeats f scope d.lines (all_lines ds) n (in_one_repeats f (behind_all f scope d.lines) ds n k t e (subst (λ (s : Scope). Repeats f s t.lines n) (behind_append f scope d.lines (all_lines (take k ds))) h))

-- a line of all domains is a line of one
pub line_in_one : (ds : List DomainText) (p : ℕ) (x : Numbered DomainLine) → slice_get (all_lines ds) p ≡ Some x → (d : ℕ) × (t : DomainText) × (slice_get ds d ≡ Some t) × ((i : ℕ) × (slice_get t.lines i ≡ Some x))
line_in_one [] p x e = absurd cc
line_in_one (d ∷ ds) p x e = elim (get_either d.lines (all_lines ds) p x e) [
  | inl a ↦ (0, d, refl, (p, a))
  | inr b ↦ (let h = line_in_one ds b.0 x b.2 in (suc h.0, h.1, h.2, h.3))
]

pub in_one_line : (ds : List DomainText) (d : ℕ) (t : DomainText) (i : ℕ) (x : Numbered DomainLine) → slice_get ds d ≡ Some t → slice_get t.lines i ≡ Some x → (p : ℕ) × (slice_get (all_lines ds) p ≡ Some x)
in_one_line [] d t i x e f = absurd cc
in_one_line (y ∷ ds) zero t i x e f = let same : y ≡ t = cc in (i, get_front y.lines (all_lines ds) i x (ap (λ (z : DomainText). slice_get z.lines i) same ∙ f))
in_one_line (y ∷ ds) (suc d) t i x e f = let h = in_one_line ds d t i x e f in (length y.lines + h.0, get_back y.lines (all_lines ds) h.0 ∙ h.1)
