-- What `show` lists of an object: as many of its first cells as there are up to the last that doesn't show 0.
use Rattle.std.proofs.Common.{◌≡◌, ℕ, suc, ◌+◌, ◌<◌, ◌≤◌, ◌==◌, Bool, true, false, Option, find, List, [], ◌∷◌, ◌++◌, length, take, if◌then◌else◌, refl, sym, ap, subst, ◌∙◌, arith}
use Rattle.std.proofs.lemmas.List.{length-take-le}
use Rattle.std.proofs.Math.Seq.{take-suc}
use Rattle.std.specs.List.{slice_index_or}
use Rattle.std.specs.Option.{option_map}
use Rattle.rl_defs.specs.declared.values.Value.{Value}
use Rattle.machine_defs.specs.State.{State, Object}
use Rattle.machine_defs.specs.Objects.{cell_value, cells_in, hangs_in, hung_in, is_zero, listed, listed_from, shown}
use Rattle.machine_defs.specs.Loans.{object_of}
use Rattle.rref_heap.specs.HeapValue.{HeapRows, cells_at}
use Rattle.rref_heap.proofs.Objects.{IsNumbered, object_found}
use Rattle.machine_steps.specs.CellsShown.{heap_state, values_from}

-- one cell more: where it shows 0, no more is listed, and where it doesn't, all is
listed_zero : (v : Value) → is_zero v ≡ true → listed v [] ≡ []
listed_zero v zero' = rw zero' refl

listed_other : (v : Value) → is_zero v ≡ false → listed v [] ≡ v ∷ []
listed_other v other = rw other refl

pub more_zero : (s : State) (o at : ℕ) (cells : List ℕ) (n : ℕ) → is_zero (cell_value (hung_in s o (at + length cells)) n) ≡ true → listed_from s o at (cells ++ n ∷ []) ≡ listed_from s o at cells
more_zero s o at [] n zero' = let e : at + 0 ≡ at = omega arith in listed_zero (cell_value (hung_in s o at) n) (subst (λ (p : ℕ). is_zero (cell_value (hung_in s o p) n) ≡ true) e zero')
more_zero s o at (c ∷ cells) n zero' =
    let e : at + suc (length cells) ≡ (at + 1) + length cells = omega arith in
    ap (listed (cell_value (hung_in s o at) c)) (more_zero s o (at + 1) cells n (subst (λ (p : ℕ). is_zero (cell_value (hung_in s o p) n) ≡ true) e zero'))

listed_all : (v : Value) (values : List Value) (k : ℕ) → length values ≡ k + 1 → length (listed v values) ≡ k + 2
listed_all v [] k e = absurd (omega (arith, e))
listed_all v (x ∷ values) k e = omega (arith, e)

pub more_other : (s : State) (o at : ℕ) (cells : List ℕ) (n : ℕ) → is_zero (cell_value (hung_in s o (at + length cells)) n) ≡ false → length (listed_from s o at (cells ++ n ∷ [])) ≡ length cells + 1
more_other s o at [] n other = let e : at + 0 ≡ at = omega arith in ap length (listed_other (cell_value (hung_in s o at) n) (subst (λ (p : ℕ). is_zero (cell_value (hung_in s o p) n) ≡ false) e other))
more_other s o at (c ∷ cells) n other =
    let e : at + suc (length cells) ≡ (at + 1) + length cells = omega arith in
    let more = more_other s o (at + 1) cells n (subst (λ (p : ℕ). is_zero (cell_value (hung_in s o p) n) ≡ false) e other) in
    let all' = listed_all (cell_value (hung_in s o at) c) (listed_from s o (at + 1) (cells ++ n ∷ [])) (length cells) more in
    omega (arith, all')

-- what is listed is what the first cells show
listed_first : (s : State) (o at n : ℕ) (cells : List ℕ) (values : List Value) → values ≡ values_from s o (at + 1) (take (length values) cells)
    → listed (cell_value (hung_in s o at) n) values ≡ values_from s o at (take (length (listed (cell_value (hung_in s o at) n) values)) (n ∷ cells))
listed_first s o at n cells [] is = go (is_zero (cell_value (hung_in s o at) n))
  where
    go : (b : Bool) → ◌≡◌ {A = List Value} (if b then [] else cell_value (hung_in s o at) n ∷ []) (values_from s o at (take (length (if b then [] else cell_value (hung_in s o at) n ∷ [])) (n ∷ cells)))
    go true = refl
    go false = refl
listed_first s o at n cells (x ∷ values) is = ap (λ vs. cell_value (hung_in s o at) n ∷ vs) is

pub listed_values : (s : State) (o at : ℕ) (cells : List ℕ) → listed_from s o at cells ≡ values_from s o at (take (length (listed_from s o at cells)) cells)
listed_values s o at [] = refl
listed_values s o at (n ∷ cells) = listed_first s o at n cells (listed_from s o (at + 1) cells) (listed_values s o (at + 1) cells)

listed_few : (v : Value) (values : List Value) → length (listed v values) ≤ suc (length values)
listed_few v [] = go (is_zero v)
  where
    go : (b : Bool) → length (if b then [] else v ∷ []) ≤ 1
    go true = omega arith
    go false = omega arith
listed_few v (x ∷ values) = omega arith

pub listed_within : (s : State) (o at : ℕ) (cells : List ℕ) → length (listed_from s o at cells) ≤ length cells
listed_within s o at [] = omega arith
listed_within s o at (n ∷ cells) =
    let few = listed_few (cell_value (hung_in s o at) n) (listed_from s o (at + 1) cells) in
    let rest = listed_within s o (at + 1) cells in
    omega (arith, few, rest)

-- ---- the loops

-- what the cells that come show, behind what those before them show
pub values_more : (s : State) (o at : ℕ) (cells : List ℕ) (n : ℕ) → values_from s o at (cells ++ n ∷ []) ≡ values_from s o at cells ++ cell_value (hung_in s o (at + length cells)) n ∷ []
values_more s o at [] n = let e : at ≡ at + 0 = omega arith in ap (λ (p : ℕ). cell_value (hung_in s o p) n ∷ []) e
values_more s o at (c ∷ cells) n =
    let e : (at + 1) + length cells ≡ at + suc (length cells) = omega arith in
    ap (λ vs. cell_value (hung_in s o at) c ∷ vs) (values_more s o (at + 1) cells n ∙ ap (λ (p : ℕ). values_from s o (at + 1) cells ++ cell_value (hung_in s o p) n ∷ []) e)

-- the cells up to one that a loop has come to
module _ (s : State) (o : ℕ) (cells : List ℕ) (at : ℕ) (here : at < length cells) where
  one_more : take (at + 1) cells ≡ take at cells ++ slice_index_or cells at 0 ∷ []
  one_more = let e : at + 1 ≡ suc at = omega arith in ap (λ (p : ℕ). take p cells) e ∙ take-suc cells at 0 here

  so_far : at ≡ 0 + length (take at cells)
  so_far = let n = length-take-le at cells (omega (arith, here)) in omega (arith, n)

  pub values_next : values_from s o 0 (take (at + 1) cells) ≡ values_from s o 0 (take at cells) ++ cell_value (hung_in s o at) (slice_index_or cells at 0) ∷ []
  values_next =
      ap (values_from s o 0) one_more
      ∙ (values_more s o 0 (take at cells) (slice_index_or cells at 0) ∙ ap (λ (p : ℕ). values_from s o 0 (take at cells) ++ cell_value (hung_in s o p) (slice_index_or cells at 0) ∷ []) (sym so_far))

  pub count_zero : is_zero (cell_value (hung_in s o at) (slice_index_or cells at 0)) ≡ true → length (listed_from s o 0 (take (at + 1) cells)) ≡ length (listed_from s o 0 (take at cells))
  count_zero zero' =
      ap (λ (xs : List ℕ). length (listed_from s o 0 xs)) one_more
      ∙ ap length (more_zero s o 0 (take at cells) (slice_index_or cells at 0) (subst (λ (p : ℕ). is_zero (cell_value (hung_in s o p) (slice_index_or cells at 0)) ≡ true) so_far zero'))

  pub count_other : is_zero (cell_value (hung_in s o at) (slice_index_or cells at 0)) ≡ false → length (listed_from s o 0 (take (at + 1) cells)) ≡ at + 1
  count_other other =
      let more = more_other s o 0 (take at cells) (slice_index_or cells at 0) (subst (λ (p : ℕ). is_zero (cell_value (hung_in s o p) (slice_index_or cells at 0)) ≡ false) so_far other) in
      let same : length (listed_from s o 0 (take (at + 1) cells)) ≡ length (listed_from s o 0 (take at cells ++ slice_index_or cells at 0 ∷ [])) = ap (λ (xs : List ℕ). length (listed_from s o 0 xs)) one_more in
      omega (arith, more, same, so_far)

-- ---- an object of the heap

pub shown_is : (rows : HeapRows) → IsNumbered rows → (o count : ℕ) (cells : List ℕ) → cells ≡ cells_at rows o → count ≡ length (listed_from (heap_state rows) o 0 cells)
    → values_from (heap_state rows) o 0 (take count cells) ≡ shown (heap_state rows) o
shown_is rows numbered o count cells are is =
    let there : cells_at rows o ≡ cells_in (object_of (heap_state rows) o) = ap cells_in (sym (object_found rows numbered o)) in
    ap (λ (n : ℕ). values_from (heap_state rows) o 0 (take n cells)) is
    ∙ (sym (listed_values (heap_state rows) o 0 cells) ∙ ap (listed_from (heap_state rows) o 0) (are ∙ there))

-- it lists the same in each state that has these objects
listed_same : (s z : State) → s.objects ≡ z.objects → (o at : ℕ) (cells : List ℕ) → listed_from s o at cells ≡ listed_from z o at cells
listed_same s z same o at [] = refl
listed_same s z same o at (n ∷ cells) =
    let hung : hung_in s o at ≡ hung_in z o at = ap (λ xs. option_map (λ x. x.number) (find (λ x. hangs_in o at x.placement) xs)) same in
    ap (λ (v : Option ℕ). listed (cell_value v n) (listed_from s o (at + 1) cells)) hung ∙ ap (listed (cell_value (hung_in z o at) n)) (listed_same s z same o (at + 1) cells)

pub shown_same : (s z : State) → s.objects ≡ z.objects → (o : ℕ) → shown s o ≡ shown z o
shown_same s z same o =
    listed_same s z same o 0 (cells_in (object_of s o))
    ∙ ap (λ xs. listed_from z o 0 (cells_in (find (λ (x : Object). x.number == o) xs))) same
