-- Names that are given twice, line by line.
use Rattle.std.proofs.Common.{◌≡◌, ℕ, zero, suc, ◌<◌, Bool, List, [], ◌∷◌, ◌++◌, length, map, Some, ◌⊎◌, inl, inr, refl, sym, ap, subst, ◌∙◌, arith, append_assoc}
use Rattle.std.specs.Prelude.{slice_get, IsTrue}
use Rattle.std.proofs.lemmas.List.{append-nil}
use Rattle.rl_defs.specs.declared.bundle.Numbered.{Numbered}
use Rattle.rl_defs.specs.BundleNames.{Given, given, given_by}
use Rattle.rl_defs.specs.NameRules.{GivenTwice}
use Rattle.rl_defs.proofs.Places.{get_seam, get_front, get_last}
use Rattle.bundle_names.specs.Tests.{is_given, repeats}
use Rattle.bundle_names.proofs.Naming.{or_either, or_first, or_second, stands_given, given_stands}
use Rattle.bundle_names.proofs.Walking.{Meets}

-- a name of this line's was given before, where these were given before them all
abbrev pub Again : List (List ℕ) → List Given → ℕ → Type 0
Again before [] n = ⊥
Again before (g ∷ gs) n = ((g.line ≡ n) × IsTrue (is_given before g.name)) ⊎ Again (before ++ g.name ∷ []) gs n

-- what stands at a place comes again, where it was given before
again_at : (before : List (List ℕ)) (gs : List Given) (n i : ℕ) (g : Given) → slice_get gs i ≡ Some g → g.line ≡ n → (j : ℕ) → slice_get before j ≡ Some g.name → Again before gs n
again_at before [] n i g e line j there = absurd cc
again_at before (x ∷ xs) n zero g e line j there = let same : x ≡ g = cc in inl (ap (λ (y : Given). y.line) same ∙ line, rw same (stands_given before j g.name there))
again_at before (x ∷ xs) n (suc i) g e line j there = inr (again_at (before ++ x.name ∷ []) xs n i g e line j (get_front before (x.name ∷ []) j g.name there))

-- of two places that have one name the later comes again
again_two : (before : List (List ℕ)) (gs : List Given) (n i k : ℕ) (f g : Given) → i < k → slice_get gs i ≡ Some f → slice_get gs k ≡ Some g → g.line ≡ n → g.name ≡ f.name → Again before gs n
again_two before [] n i k f g lt e d line same = absurd cc
again_two before (x ∷ xs) n zero zero f g lt e d line same = absurd (omega arith)
again_two before (x ∷ xs) n (suc i) zero f g lt e d line same = absurd (omega arith)
again_two before (x ∷ xs) n zero (suc k) f g lt e d line same =
    let is : x ≡ f = cc in
    inr (again_at (before ++ x.name ∷ []) xs n k g d line (length before) (get_seam before x.name [] ∙ ap (λ (y : List ℕ). Some y) (ap (λ (y : Given). y.name) is ∙ sym same)))
again_two before (x ∷ xs) n (suc i) (suc k) f g lt e d line same = inr (again_two (before ++ x.name ∷ []) xs n i k f g (omega (arith, lt)) e d line same)

pub twice_again : (gs : List Given) (n : ℕ) → GivenTwice gs n → Again [] gs n
twice_again gs n t = again_two [] gs n t.earlier t.place t.first t.second t.before t.there t.here t.line t.again

-- what comes again was given before, or stands at an earlier place
pub record Before (before : List (List ℕ)) (gs : List Given) (n : ℕ) : Type 0 where
  pub place : ℕ
  pub second : Given
  pub here : slice_get gs place ≡ Some second
  pub line : second.line ≡ n
  pub source : ((j : ℕ) × (slice_get before j ≡ Some second.name)) ⊎ ((j : ℕ) × (f : Given) × (j < place) × (slice_get gs j ≡ Some f) × (second.name ≡ f.name))

source_back : (before : List (List ℕ)) (x : Given) (xs : List Given) (n : ℕ) → Before (before ++ x.name ∷ []) xs n → Before before (x ∷ xs) n
source_back before x xs n b = record {
  place = suc b.place;
  second = b.second;
  here = b.here;
  line = b.line;
  source = elim b.source [
    | inl s ↦ earlier s.0 s.1
    | inr s ↦ inr (suc s.0, s.1, omega (arith, s.2), s.3, s.4)
  ];
} where
  earlier : (j : ℕ) → slice_get (before ++ x.name ∷ []) j ≡ Some b.second.name → ((j : ℕ) × (slice_get before j ≡ Some b.second.name)) ⊎ ((j : ℕ) × (f : Given) × (j < suc b.place) × (slice_get (x ∷ xs) j ≡ Some f) × (b.second.name ≡ f.name))
  earlier j e = elim (get_last before x.name j b.second.name e) [
    | inl p ↦ inl (j, p)
    | inr p ↦ inr (0, x, omega arith, refl, p.1)
  ]

again_before : (before : List (List ℕ)) (gs : List Given) (n : ℕ) → Again before gs n → Before before gs n
again_before before [] n h = absurd h
again_before before (x ∷ xs) n (inl h) = let there = given_stands before x.name h.1 in record { place = 0; second = x; here = refl; line = h.0; source = inl there }
again_before before (x ∷ xs) n (inr h) = source_back before x xs n (again_before (before ++ x.name ∷ []) xs n h)

pub again_twice : (gs : List Given) (n : ℕ) → Again [] gs n → GivenTwice gs n
again_twice gs n h = from (again_before [] gs n h) where
  from : Before [] gs n → GivenTwice gs n
  from b = elim b.source [
    | inl s ↦ absurd (nowhere s.0 s.1)
    | inr s ↦ record { earlier = s.0; place = b.place; before = s.2; first = s.1; second = b.second; there = s.3; here = b.here; line = b.line; again = s.4 }
  ] where
    nowhere : (j : ℕ) → slice_get {X = List ℕ} [] j ≡ Some b.second.name → ⊥
    nowhere j e = absurd cc

-- the names of one line before those of others
again_line : (before ns : List (List ℕ)) (line : ℕ) (gs : List Given) (n : ℕ) → Again before (map (given line) ns ++ gs) n → ((line ≡ n) × IsTrue (repeats before ns)) ⊎ Again (before ++ ns) gs n
again_line before [] line gs n h = inr (subst (λ (b : List (List ℕ)). Again b gs n) (sym (append-nil before)) h)
again_line before (m ∷ ms) line gs n (inl h) = inl (h.0, or_first (is_given before m) (repeats (before ++ m ∷ []) ms) h.1)
again_line before (m ∷ ms) line gs n (inr h) = elim (again_line (before ++ m ∷ []) ms line gs n h) [
  | inl p ↦ inl (p.0, or_second (is_given before m) (repeats (before ++ m ∷ []) ms) p.1)
  | inr p ↦ inr (subst (λ (b : List (List ℕ)). Again b gs n) (append_assoc before (m ∷ []) ms) p)
]

line_again : (before ns : List (List ℕ)) (line : ℕ) (gs : List Given) (n : ℕ) → line ≡ n → IsTrue (repeats before ns) → Again before (map (given line) ns ++ gs) n
line_again before [] line gs n is h = absurd cc
line_again before (m ∷ ms) line gs n is h = elim (or_either (is_given before m) (repeats (before ++ m ∷ []) ms) h) [
  | inl p ↦ inl (is, p)
  | inr p ↦ inr (line_again (before ++ m ∷ []) ms line gs n is p)
]

rest_again : (before ns : List (List ℕ)) (line : ℕ) (gs : List Given) (n : ℕ) → Again (before ++ ns) gs n → Again before (map (given line) ns ++ gs) n
rest_again before [] line gs n h = subst (λ (b : List (List ℕ)). Again b gs n) (append-nil before) h
rest_again before (m ∷ ms) line gs n h = inr (rest_again (before ++ m ∷ []) ms line gs n (subst (λ (b : List (List ℕ)). Again b gs n) (sym (append_assoc before (m ∷ []) ms)) h))

-- the names so far, with those of one line more
abbrev pub given_more : {Form : Type 0} → (Form → List (List ℕ)) → List (List ℕ) → Form → List (List ℕ)
given_more names before form = before ++ names form

abbrev pub given_before : {Form : Type 0} → (Form → List (List ℕ)) → List (List ℕ) → Form → Bool
given_before names before form = repeats before (names form)

again_meets : {Form : Type 0} (names : Form → List (List ℕ)) (before : List (List ℕ)) (lines : List (Numbered Form)) (n : ℕ) → Again before (given_by names lines) n → Meets (given_more names) (given_before names) before lines n
again_meets names before [] n h = h
again_meets names before (x ∷ xs) n h = elim (again_line before (names x.form) x.line (given_by names xs) n h) [
  | inl p ↦ inl p
  | inr p ↦ inr (again_meets names (before ++ names x.form) xs n p)
]

meets_again : {Form : Type 0} (names : Form → List (List ℕ)) (before : List (List ℕ)) (lines : List (Numbered Form)) (n : ℕ) → Meets (given_more names) (given_before names) before lines n → Again before (given_by names lines) n
meets_again names before [] n h = h
meets_again names before (x ∷ xs) n (inl h) = line_again before (names x.form) x.line (given_by names xs) n h.0 h.1
meets_again names before (x ∷ xs) n (inr h) = rest_again before (names x.form) x.line (given_by names xs) n (meets_again names (before ++ names x.form) xs n h)

-- a line gives a name that was given before
pub twice_meets : {Form : Type 0} (names : Form → List (List ℕ)) (lines : List (Numbered Form)) (n : ℕ) → GivenTwice (given_by names lines) n → Meets (given_more names) (given_before names) [] lines n
twice_meets names lines n t = again_meets names [] lines n (twice_again (given_by names lines) n t)

pub meets_twice : {Form : Type 0} (names : Form → List (List ℕ)) (lines : List (Numbered Form)) (n : ℕ) → Meets (given_more names) (given_before names) [] lines n → GivenTwice (given_by names lines) n
meets_twice names lines n h = again_twice (given_by names lines) n (meets_again names [] lines n h)
