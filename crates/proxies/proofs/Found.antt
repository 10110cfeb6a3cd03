-- What is found for each load and target.
use Rattle.std.proofs.Common.{◌≡◌, refl, sym, ◌∙◌, ap, ℕ, zero, suc, ◌+◌, ◌-◌, ◌<◌, ◌≤◌, false, List, [], ◌∷◌, length, map, Some, None, unwrap_or, slice_get, arith, inl, inr, ◌⊎◌}
use Rattle.std.specs.List.{range_with_len}
use Rattle.std.proofs.lemmas.Option.{slice_get_past}
use Rattle.std.proofs.lemmas.List.FromFn.{length-map-range_with_len}
use Rattle.rl_defs.specs.declared.load.LoadRows.{LoadRows}
use Rattle.rl_defs.specs.declared.load.ShadowRow.{ShadowRow}
use Rattle.rl_defs.specs.Domains.{row, is_serial, load_of_target, load_row, load_of_row, load_of_shadow, method_of, method_in}
use Rattle.proxies.specs.Table.{Found, Table, proxies_of, found_at, trait_of_load}

pub range_at : {X : Type 0} (f : ℕ → X) (a n k : ℕ) → k < n → slice_get (map f (range_with_len a n)) k ≡ Some (f (a + k))
range_at f a zero k lt = absurd (omega arith)
range_at f a (suc n) zero lt = let e : a ≡ a + 0 = omega arith in ap (λ i. Some (f i)) e
range_at f a (suc n) (suc k) lt =
    let e : (a + 1) + k ≡ a + suc k = omega arith in
    range_at f (a + 1) n k (omega arith) ∙ ap (λ i. Some (f i)) e

pub range_past : {X : Type 0} (f : ℕ → X) (a n k : ℕ) → n ≤ k → slice_get (map f (range_with_len a n)) k ≡ None
range_past f a n k le = let e = length-map-range_with_len f a n in slice_get_past (map f (range_with_len a n)) k (omega arith)

below_or_past : (k n : ℕ) → (k < n) ⊎ (n ≤ k)
below_or_past k zero = inr (omega arith)
below_or_past zero (suc n) = inl (omega arith)
below_or_past (suc k) (suc n) = elim (below_or_past k n) [ inl lt ↦ inl (omega arith) | inr le ↦ inr (omega arith) ]

-- an item of a range is what stands there
pub range_holds : {X : Type 0} (f : ℕ → X) (n k : ℕ) (x : X) → slice_get (map f (range_with_len 1 n)) k ≡ Some x → x ≡ f (suc k)
range_holds f n k x is = elim (below_or_past k n) [
  | inl lt ↦ (let e : 1 + k ≡ suc k = omega arith in let at = range_at f 1 n k lt in let same : Some x ≡ Some (f (1 + k)) = sym is ∙ at in (let y : x ≡ f (1 + k) = cc in y ∙ ap f e))
  | inr le ↦ (let past = range_past f 1 n k le in let no : Some x ≡ None = sym is ∙ past in cc)
]

pub range_ends : {X : Type 0} (f : ℕ → X) (n k : ℕ) → slice_get (map f (range_with_len 1 n)) k ≡ None → n ≤ k
range_ends f n k is = elim (below_or_past k n) [
  | inl lt ↦ (let at = range_at f 1 n k lt in let no : Some (f (1 + k)) ≡ None = sym at ∙ is in cc)
  | inr le ↦ le
]

pub serial_is : (L : LoadRows) (k : ℕ) → unwrap_or (row (proxies_of L).serial k) false ≡ is_serial L k
serial_is L zero = refl
serial_is L (suc k) = elim (below_or_past k (length L.loads)) [
  | inl lt ↦ (let e : 1 + k ≡ suc k = omega arith in rw (range_at (is_serial L) 1 (length L.loads) k lt) (ap (is_serial L) e))
  | inr le ↦ rw (range_past (is_serial L) 1 (length L.loads) k le, slice_get_past L.loads k le) refl
]

pub target_holds : (L : LoadRows) (x : ℕ) (f : Found) → row (proxies_of L).targets x ≡ Some f → f ≡ found_at L x
target_holds L zero f is = cc
target_holds L (suc k) f is = range_holds (found_at L) (length L.loads + length L.shadows) k f is

pub load_holds : (L : LoadRows) (table : Table) (x : ℕ) (f : Found) → table ≡ proxies_of L → row table.targets x ≡ Some f → f.load ≡ load_of_target L x
load_holds L table x f whole is =
    ap (λ (g : Found). g.load) (target_holds L x f (sym (ap (λ (t : Table). row t.targets x) whole) ∙ is))

-- the trait by its place is the one by its name
pub method_holds : (L : LoadRows) (table : Table) (x m : ℕ) (f : Found) → table ≡ proxies_of L → row table.targets x ≡ Some f → method_in (slice_get L.tables.traits f.has) m ≡ method_of L x m
method_holds L table x m f whole is =
    let e = ap (λ (g : Found). g.has) (target_holds L x f (sym (ap (λ (t : Table). row t.targets x) whole) ∙ is)) in
    ap (λ i. method_in (slice_get L.tables.traits i) m) e

some_at : {A : Type 0} (xs : List A) (k : ℕ) → k < length xs → (x : A) × (slice_get xs k ≡ Some x)
some_at [] k lt = absurd (omega arith)
some_at (x ∷ xs) zero lt = (x, refl)
some_at (x ∷ xs) (suc k) lt = some_at xs k (omega arith)

-- a load stands for itself, a shadow for its load
pub load_itself : (L : LoadRows) (k : ℕ) → k < length L.loads → load_of_target L (k + 1) ≡ k + 1
load_itself L k lt =
    let e : k + 1 ≡ suc k = omega arith in
    let at = some_at L.loads k lt in
    ap (load_of_row L (k + 1)) (ap (row L.loads) e ∙ at.1)

-- the next shadow stands for its load
pub load_of_next : (L : LoadRows) (j : ℕ) (x : ShadowRow) → slice_get L.shadows j ≡ Some x → load_of_target L (length L.loads + (j + 1)) ≡ x.load
load_of_next L j x is =
    let e : length L.loads + (j + 1) ≡ suc (length L.loads + j) = omega arith in
    let none : load_row L (length L.loads + (j + 1)) ≡ None = ap (row L.loads) e ∙ slice_get_past L.loads (length L.loads + j) (omega arith) in
    let place : length L.loads + (j + 1) - length L.loads ≡ suc j = omega arith in
    ap (load_of_row L (length L.loads + (j + 1))) none ∙ ap load_of_shadow (ap (row L.shadows) place ∙ is)

pub found_next : (L : LoadRows) (k : ℕ) (f : Found) → f.load ≡ load_of_target L k → f.has ≡ trait_of_load L f.load → f ≡ found_at L k
found_next L k f load has =
    ap (λ h. record { load = f.load; has = h }) has ∙ ap (λ l. record { load = l; has = trait_of_load L l }) load
