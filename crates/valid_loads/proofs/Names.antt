-- Names, their places among names, and names that no line gives twice.
use Rattle.std.proofs.Common.{◌≡◌, ℕ, suc, ◌+◌, ◌<◌, ◌⊎◌, inl, inr, Bool, true, false, List, [], ◌∷◌, ◌++◌, length, map, Option, Some, None, refl, sym, ap, subst, ◌∙◌, arith, cond, nat_eq}
use Rattle.std.specs.Prelude.{slice_get}
use Rattle.std.specs.Option.{option_map}
use Rattle.std.specs.List.{flat_map}
use Rattle.std.specs.Cmp.Lexicographic.{pointwise}
use Rattle.std.proofs.lemmas.Bool.{cases_order}
use Rattle.rl_defs.specs.declared.bundle.Numbered.{Numbered}
use Rattle.rl_defs.specs.Interfaces.{place_of}
use Rattle.rl_defs.specs.BundleNames.{Given, given, given_by, names_of}
use Rattle.rl_defs.specs.NameRules.{GivenTwice, IsUnknown, NamesUnknown}
pub use Rattle.rl_defs.proofs.NamePlaces.{same_name, same_self, place_there, there_place, Apart, apart_place}
use Rattle.rl_defs.proofs.Lists.{map_get, get_first, get_second, get_both, in_list, comes, goes}

clash : (gs : List Given) → ((n : ℕ) → GivenTwice gs n → ⊥) → (j k : ℕ) (q : List ℕ) → j < k → slice_get (names_of gs) j ≡ Some q → slice_get (names_of gs) k ≡ Some q → ⊥
clash gs none j k q lt e d =
    let f = map_get (λ (g : Given). g.name) gs j q e in
    let g = map_get (λ (g : Given). g.name) gs k q d in
    none g.0.line (record { earlier = j; place = k; before = lt; first = f.0; second = g.0; there = f.1; here = g.1; line = refl; again = g.2 ∙ sym f.2 })

-- names that no line gives twice are apart
pub given_apart : (gs : List Given) → ((n : ℕ) → GivenTwice gs n → ⊥) → Apart (names_of gs)
given_apart gs none j k q e d = elim (cases_order j k) [
  | inl same ↦ same
  | inr (inl less) ↦ absurd (clash gs none j k q less e d)
  | inr (inr more) ↦ absurd (clash gs none k j q more d e)
]

names_of_append : (line : ℕ) (ns : List (List ℕ)) (gs : List Given) → names_of (map (given line) ns ++ gs) ≡ ns ++ names_of gs
names_of_append line [] gs = refl
names_of_append line (m ∷ ms) gs = ap (λ (xs : List (List ℕ)). m ∷ xs) (names_of_append line ms gs)

-- the names that lines give, one line after the other
pub names_flat : {Form : Type 0} (f : Form → List (List ℕ)) (lines : List (Numbered Form)) → names_of (given_by f lines) ≡ flat_map (λ l. f l.form) lines
names_flat f [] = refl
names_flat f (x ∷ xs) = names_of_append x.line (f x.form) (given_by f xs) ∙ ap (λ (ns : List (List ℕ)). f x.form ++ ns) (names_flat f xs)

-- a name that isn't unknown has a place
pub known : (used declared : List (List ℕ)) → (IsUnknown used declared → ⊥) → (i : ℕ) (q : List ℕ) → slice_get used i ≡ Some q → (p : ℕ) × (place_of q declared ≡ Some p)
known used declared none i q e = by (place_of q declared) refl where
  by : (o : Option ℕ) → place_of q declared ≡ o → (p : ℕ) × (place_of q declared ≡ Some p)
  by (Some p) is = (p, is)
  by None is = absurd (none (record { place = i; name = q; uses = e; unknown = is }))

-- what a line names is declared
pub declared_by : {Form : Type 0} (lines : List (Numbered Form)) (uses : Form → List (List ℕ)) (declared : List (List ℕ)) → ((n : ℕ) → NamesUnknown lines uses declared n → ⊥) → (k : ℕ) (x : Numbered Form) → slice_get lines k ≡ Some x → (i : ℕ) (q : List ℕ) → slice_get (uses x.form) i ≡ Some q → (p : ℕ) × (place_of q declared ≡ Some p)
declared_by lines uses declared none k x here i q e = known (uses x.form) declared (λ u. none x.line (record { place = k; form = x.form; here = here; unknown = u })) i q e

-- ---- names apart among others

abbrev StandsIn : List (List ℕ) → List ℕ → Type 0
StandsIn names q = (i : ℕ) × (slice_get names i ≡ Some q)

pub apart_second : (xs ys : List (List ℕ)) → Apart (xs ++ ys) → Apart ys
apart_second xs ys apart j k q e d = let same = apart (length xs + j) (length xs + k) q (get_second xs ys j ∙ e) (get_second xs ys k ∙ d) in omega (arith, same)

beside : (xs ys zs : List (List ℕ)) → Apart (xs ++ ys) → Apart zs → ((q : List ℕ) (i : ℕ) → slice_get zs i ≡ Some q → StandsIn ys q) → Apart (xs ++ zs)
beside xs ys zs apart rest sub j k q e d = by (get_both xs zs j q e) (get_both xs zs k q d) where
  across : (j i : ℕ) → slice_get xs j ≡ Some q → slice_get zs i ≡ Some q → ⊥
  across j i a b =
      let there = sub q i b in
      let same = apart j (length xs + there.0) q (get_first xs ys j q a) (get_second xs ys there.0 ∙ there.1) in
      let within = in_list xs j q a in
      absurd (omega (arith, same, within))

  by : (slice_get xs j ≡ Some q) ⊎ ((i : ℕ) × (j ≡ length xs + i) × (slice_get zs i ≡ Some q)) → (slice_get xs k ≡ Some q) ⊎ ((i : ℕ) × (k ≡ length xs + i) × (slice_get zs i ≡ Some q)) → j ≡ k
  by (inl a) (inl b) = apart j k q (get_first xs ys j q a) (get_first xs ys k q b)
  by (inl a) (inr b) = absurd (across j b.0 a b.2)
  by (inr a) (inl b) = absurd (across k a.0 b a.2)
  by (inr a) (inr b) = let same = rest a.0 b.0 q a.2 b.2 in omega (arith, same, a.1, b.1)

-- of names apart, those of some lines are apart
pub apart_among : {A : Type 0} (f g : A → List (List ℕ)) → ((x : A) → (g x ≡ []) ⊎ (g x ≡ f x)) → (xs : List A) → Apart (flat_map f xs) → Apart (flat_map g xs)
apart_among f g sub [] apart = apart
apart_among {A} f g sub (x ∷ xs) apart = by (sub x) (apart_among f g sub xs (apart_second (f x) (flat_map f xs) apart)) where
  one : (y : A) (i : ℕ) (q : List ℕ) → (g y ≡ []) ⊎ (g y ≡ f y) → slice_get (g y) i ≡ Some q → slice_get (f y) i ≡ Some q
  one y i q (inl none) e = let bad : None ≡ Some q = sym (ap (λ (ns : List (List ℕ)). slice_get ns i) none) ∙ e in absurd cc
  one y i q (inr same) e = sym (ap (λ (ns : List (List ℕ)). slice_get ns i) same) ∙ e

  inside : (q : List ℕ) (i : ℕ) → slice_get (flat_map g xs) i ≡ Some q → StandsIn (flat_map f xs) q
  inside q i e = let c = comes g xs i q e in goes f xs c.place c.inner c.item q c.here (one c.item c.inner q (sub c.item) c.there)

  by : (g x ≡ []) ⊎ (g x ≡ f x) → Apart (flat_map g xs) → Apart (g x ++ flat_map g xs)
  by (inl none) rest = subst (λ (ns : List (List ℕ)). Apart (ns ++ flat_map g xs)) (sym none) rest
  by (inr same) rest = subst (λ (ns : List (List ℕ)). Apart (ns ++ flat_map g xs)) (sym same) (beside (f x) (flat_map f xs) (flat_map g xs) apart rest inside)

-- ---- places in two lists of names

pub place_first : (q : List ℕ) (xs ys : List (List ℕ)) (k : ℕ) → place_of q xs ≡ Some k → place_of q (xs ++ ys) ≡ Some k
place_first q [] ys k e = absurd cc
place_first q (x ∷ xs) ys k e = here (pointwise nat_eq x q) (place_of q xs) e (λ j h. place_first q xs ys j h) where
  here : (b : Bool) (o : Option ℕ) → cond b (Some 0) (option_map (λ (i : ℕ). suc i) o) ≡ Some k → ((j : ℕ) → o ≡ Some j → place_of q (xs ++ ys) ≡ Some j) → cond b (Some 0) (option_map (λ (i : ℕ). suc i) (place_of q (xs ++ ys))) ≡ Some k
  here true o h more = h
  here false None h more = absurd cc
  here false (Some j) h more = ap (option_map (λ (i : ℕ). suc i)) (more j refl) ∙ h

pub place_second : (q : List ℕ) (xs ys : List (List ℕ)) (k : ℕ) → place_of q xs ≡ None → place_of q ys ≡ Some k → place_of q (xs ++ ys) ≡ Some (length xs + k)
place_second q [] ys k e d = d ∙ ap (λ (n : ℕ). Some n) (omega arith)
place_second q (x ∷ xs) ys k e d = here (pointwise nat_eq x q) (place_of q xs) e (λ h. place_second q xs ys k h d) where
  here : (b : Bool) (o : Option ℕ) → cond b (Some 0) (option_map (λ (i : ℕ). suc i) o) ≡ None → (o ≡ None → place_of q (xs ++ ys) ≡ Some (length xs + k)) → cond b (Some 0) (option_map (λ (i : ℕ). suc i) (place_of q (xs ++ ys))) ≡ Some (length (x ∷ xs) + k)
  here true o h more = absurd cc
  here false (Some j) h more = absurd cc
  here false None h more = ap (option_map (λ (i : ℕ). suc i)) (more refl) ∙ ap (λ (n : ℕ). Some n) (omega arith)

-- the one name there is the name
pub only_name : (q x : List ℕ) → ((q ≡ x → ⊥) → ⊥) → x ≡ q
only_name q x never = by (pointwise nat_eq x q) refl where
  by : (b : Bool) → pointwise nat_eq x q ≡ b → x ≡ q
  by true e = same_name x q e
  by false e = absurd (never (λ same. (let bad : true ≡ false = sym (same_self x) ∙ ap (λ (y : List ℕ). pointwise nat_eq x y) (sym same) ∙ e in absurd cc)))
