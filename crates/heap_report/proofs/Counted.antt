-- How many objects hang in one, as what is told of an object changes.
use Rattle.std.proofs.Common.{◌≡◌, ◌≢◌, ℕ, zero, suc, ◌+◌, ◌≤◌, ◌<◌, ◌==◌, ◌&&◌, ◌⊎◌, inl, inr, not, Bool, true, false, [], ◌∷◌, List, Option, Some, length, filter, set, get_or, refl, sym, ap, ◌∙◌, subst, cond, arith, ◌++◌, take, append-nil, length-append}
use Rattle.std.proofs.lemmas.Bool.{eq-eqb}
use Rattle.std.proofs.lemmas.Bool.Decides.{nat_tests}
use Rattle.std.proofs.Math.Nat.{eq-or-lt_of_le}
use Rattle.std.proofs.lemmas.List.{get_or-set_same, get_or-set_other, take_more}
use Rattle.std.proofs.lemmas.Grind.{flat_map-append}
use Rattle.std.specs.List.{range_with_len}
use Rattle.machine_defs.specs.Report.{one_if}
use Rattle.heap_report.specs.declared.objects.ObjectRecord.{ObjectRecord}
use Rattle.heap_report.specs.KeptObjects.{ToldObject, unknown, record_at, told, holder, is_parent, hangs_in, hung_in, is_made, counts, IsCounted, with_hung}

-- ---- filters of a range

abbrev pub many : (ℕ → Bool) → ℕ → ℕ → ℕ
many f k n = length (filter f (range_with_len k n))

pub first_or_not : (f : ℕ → Bool) (k n : ℕ) → many f k (suc n) ≡ one_if (f k) + many f (k + 1) n
first_or_not f k n = elim (f k) as (λ b. length (cond b (k ∷ filter f (range_with_len (k + 1) n)) (filter f (range_with_len (k + 1) n))) ≡ one_if b + many f (k + 1) n) [ true ↦ omega arith | false ↦ omega arith ]

pub few_many : (f : ℕ → Bool) (k n : ℕ) → many f k n ≤ n
few_many f k zero = omega arith
few_many f k (suc n) =
    let one : one_if (f k) ≤ 1 = elim (f k) as (λ b. one_if b ≤ 1) [ true ↦ omega arith | false ↦ omega arith ] in
    omega (arith, first_or_not f k n, few_many f (k + 1) n)

pub same_many : (f g : ℕ → Bool) (k n : ℕ) → ((u : ℕ) → k ≤ u → u < k + n → f u ≡ g u) → many f k n ≡ many g k n
same_many f g k zero same = refl
same_many f g k (suc n) same =
    let here : f k ≡ g k = same k (omega arith) (omega arith) in
    let first : one_if (f k) ≡ one_if (g k) = ap one_if here in
    let rest : many f (k + 1) n ≡ many g (k + 1) n = same_many f g (k + 1) n (λ u l h. same u (omega arith) (omega arith)) in
    omega (arith, first_or_not f k n, first_or_not g k n, first, rest)

pub last_one : (f : ℕ → Bool) (k n : ℕ) → many f k (suc n) ≡ many f k n + one_if (f (k + n))
last_one f k zero = let e : k + 0 ≡ k = omega arith in rw e (omega (arith, first_or_not f k 0))
last_one f k (suc n) =
    let e : (k + 1) + n ≡ k + suc n = omega arith in
    let step : many f (k + 1) (suc n) ≡ many f (k + 1) n + one_if (f (k + suc n)) = subst (λ (m : ℕ). many f (k + 1) (suc n) ≡ many f (k + 1) n + one_if (f m)) e (last_one f (k + 1) n) in
    omega (arith, first_or_not f k n, first_or_not f k (suc n), step)

-- two tests that differ at one place, which is first in the range
first_changed : (f g : ℕ → Bool) (v k n : ℕ) → ((u : ℕ) → v ≢ u → f u ≡ g u) → k ≡ v → many g k (suc n) + one_if (f v) ≡ many f k (suc n) + one_if (g v)
first_changed f g v k n same at =
    let rest : many g (k + 1) n ≡ many f (k + 1) n = same_many g f (k + 1) n (λ u l h. sym (same u (λ (e : v ≡ u). absurd (omega arith)))) in
    let first : one_if (f k) ≡ one_if (f v) = ap (λ (x : ℕ). one_if (f x)) at in
    let other : one_if (g k) ≡ one_if (g v) = ap (λ (x : ℕ). one_if (g x)) at in
    omega (arith, first_or_not f k n, first_or_not g k n, rest, first, other)

-- or which comes after the first
later_changed : (f g : ℕ → Bool) (v k n : ℕ) → ((u : ℕ) → v ≢ u → f u ≡ g u) → k < v → many g (k + 1) n + one_if (f v) ≡ many f (k + 1) n + one_if (g v) → many g k (suc n) + one_if (f v) ≡ many f k (suc n) + one_if (g v)
later_changed f g v k n same after rest =
    let here : f k ≡ g k = same k (λ (e : v ≡ k). absurd (omega arith)) in
    let first : one_if (f k) ≡ one_if (g k) = ap one_if here in
    omega (arith, first_or_not f k n, first_or_not g k n, rest, first)

pub changed_at : (f g : ℕ → Bool) (v k n : ℕ) → ((u : ℕ) → v ≢ u → f u ≡ g u) → k ≤ v → v < k + n → many g k n + one_if (f v) ≡ many f k n + one_if (g v)
changed_at f g v k zero same from within = absurd (omega arith)
changed_at f g v k (suc n) same from within =
    elim (eq-or-lt_of_le from) [
      | inl at ↦ first_changed f g v k n same at
      | inr after ↦ later_changed f g v k n same after (changed_at f g v (k + 1) n same (omega arith) (omega arith))
    ]

-- ---- what hangs in an object

is_made_tells : (made v : ℕ) → is_made made v ≡ true → (1 ≤ v) × (v ≤ made)
is_made_tells made v h = grind (arith, nat_tests)

not_made_tells : (made v : ℕ) → is_made made v ≡ false → (v < 1) ⊎ (made < v)
not_made_tells made v h = grind (arith, nat_tests)

holder_hangs : (o : ℕ) (parent : Option ℕ) (gone : Bool) → is_parent o (holder parent gone) ≡ (not gone && is_parent o parent)
holder_hangs o parent true = refl
holder_hangs o parent false = refl

-- where what is told of one object changes, which was made or not
by_case : (rows rows' : List ObjectRecord) (made v o : ℕ) (b : Bool) → is_made made v ≡ b → ((u : ℕ) → v ≢ u → told (record_at rows u) ≡ told (record_at rows' u)) → length (hung_in rows' made o) + one_if (b && hangs_in rows o v) ≡ length (hung_in rows made o) + one_if (b && hangs_in rows' o v)
by_case rows rows' made v o true h same =
    let at = is_made_tells made v h in
    changed_at (hangs_in rows o) (hangs_in rows' o) v 1 made (λ u e. ap (λ (x : ToldObject). not x.gone && is_parent o x.parent) (same u e)) at.0 (omega (arith, at.1))
by_case rows rows' made v o false h same =
    let off = not_made_tells made v h in
    let alike : many (hangs_in rows' o) 1 made ≡ many (hangs_in rows o) 1 made = same_many (hangs_in rows' o) (hangs_in rows o) 1 made (λ u l w. sym (ap (λ (x : ToldObject). not x.gone && is_parent o x.parent) (same u (λ (e : v ≡ u). elim off [ inl low ↦ absurd (omega arith) | inr high ↦ absurd (omega arith) ])))) in
    omega (arith, alike)

pub recounted : (rows rows' : List ObjectRecord) (made v o : ℕ) → ((u : ℕ) → v ≢ u → told (record_at rows u) ≡ told (record_at rows' u)) → length (hung_in rows' made o) + counts made v o (holder (record_at rows v).parent (record_at rows v).gone) ≡ length (hung_in rows made o) + counts made v o (holder (record_at rows' v).parent (record_at rows' v).gone)
recounted rows rows' made v o same =
    rw (holder_hangs o (record_at rows v).parent (record_at rows v).gone, holder_hangs o (record_at rows' v).parent (record_at rows' v).gone) (by_case rows rows' made v o (is_made made v) refl same)

-- an object that hangs in another is one of those that do
at_least : (f : ℕ → Bool) (v k n : ℕ) → k ≤ v → v < k + n → one_if (f v) ≤ many f k n
at_least f v k zero from within = absurd (omega arith)
at_least f v k (suc n) from within =
    elim (eq-or-lt_of_le from) [
      | inl at ↦ (let first : one_if (f k) ≡ one_if (f v) = ap (λ (x : ℕ). one_if (f x)) at in omega (arith, first_or_not f k n, first))
      | inr after ↦ (let rest = at_least f v (k + 1) n (omega arith) (omega arith) in omega (arith, first_or_not f k n, rest))
    ]

hangs_by_case : (rows : List ObjectRecord) (made v o : ℕ) (b : Bool) → is_made made v ≡ b → one_if (b && hangs_in rows o v) ≤ length (hung_in rows made o)
hangs_by_case rows made v o true h = let at = is_made_tells made v h in at_least (hangs_in rows o) v 1 made at.0 (omega (arith, at.1))
hangs_by_case rows made v o false h = omega arith

pub counted_once : (rows : List ObjectRecord) (made v o : ℕ) → counts made v o (holder (record_at rows v).parent (record_at rows v).gone) ≤ length (hung_in rows made o)
counted_once rows made v o = rw (holder_hangs o (record_at rows v).parent (record_at rows v).gone) (hangs_by_case rows made v o (is_made made v) refl)

-- an object in which another hangs is known
pub known : (rows : List ObjectRecord) (o : ℕ) → 1 ≤ (record_at rows o).below → o < length rows
known [] zero some = absurd (omega arith)
known [] (suc o) some = absurd (omega arith)
known (x ∷ rows) zero some = omega arith
known (x ∷ rows) (suc o) some = omega (arith, known rows o some)

same_number : (p : ℕ) → (p == p) ≡ true
same_number p = eq-eqb p p refl

-- an object that was made counts where it hangs
pub counted_here : (made v p : ℕ) → is_made made v ≡ true → counts made v p (Some p) ≡ 1
counted_here made v p h = rw (h, same_number p) refl

pub known_row : (rows : List ObjectRecord) (o : ℕ) (x : ObjectRecord) → o < length rows → x ≡ get_or rows o x → x ≡ record_at rows o
known_row [] o x within is = absurd (omega arith)
known_row (y ∷ rows) zero x within is = is
known_row (y ∷ rows) (suc o) x within is = known_row rows o x (omega arith) is

-- ---- the steps of a table

pub few_below : (rows : List ObjectRecord) (made o : ℕ) → IsCounted rows made → (record_at rows o).below ≤ made
few_below rows made o counted = omega (arith, counted o, few_many (hangs_in rows o) 1 made)

pub may_take : (old rows : List ObjectRecord) (made made' v o : ℕ) (h : Option ℕ) (row : ObjectRecord) → made' ≡ made → ((u : ℕ) → record_at rows u ≡ record_at old u) → h ≡ holder row.parent row.gone → row ≡ record_at rows v → IsCounted old made → counts made' v o h ≤ (record_at rows o).below
may_take old rows made made' v o h row same_made same is at counted =
    let row_is : row ≡ record_at old v = at ∙ same v in
    let h_is : h ≡ holder (record_at old v).parent (record_at old v).gone = is ∙ ap (λ (r : ObjectRecord). holder r.parent r.gone) row_is in
    let once : counts made' v o h ≤ length (hung_in old made o) = subst (λ (g : Option ℕ). counts made' v o g ≤ length (hung_in old made o)) (sym h_is) (subst (λ (m : ℕ). counts m v o (holder (record_at old v).parent (record_at old v).gone) ≤ length (hung_in old made o)) (sym same_made) (counted_once old made v o)) in
    omega (arith, once, counted o, ap (λ (r : ObjectRecord). r.below) (same o))

below_kept : (rows : List ObjectRecord) (i o : ℕ) (x : ObjectRecord) → i < length rows → x.below ≡ (record_at rows i).below → (record_at (set rows i x) o).below ≡ (record_at rows o).below
below_kept [] i o x within same = absurd (omega arith)
below_kept (y ∷ rows) zero zero x within same = same
below_kept (y ∷ rows) zero (suc o) x within same = refl
below_kept (y ∷ rows) (suc i) zero x within same = refl
below_kept (y ∷ rows) (suc i) (suc o) x within same = below_kept rows i o x (omega arith) same

-- the record of one object is replaced, and where it hangs was counted anew
pub change_counted : (old rows : List ObjectRecord) (made made' i o : ℕ) (x : ObjectRecord) → i < length rows → made' ≡ made → ((u : ℕ) → told (record_at rows u) ≡ told (record_at old u)) → x.below ≡ (record_at rows i).below → (record_at rows o).below + counts made i o (holder (record_at old i).parent (record_at old i).gone) ≡ (record_at old o).below + counts made i o (holder x.parent x.gone) → IsCounted old made → (record_at (set rows i x) o).below ≡ length (hung_in (set rows i x) made' o)
change_counted old rows made made' i o x within same_made same below moved counted =
    let there : record_at (set rows i x) i ≡ x = get_or-set_same rows i x unknown within in
    let elsewhere : (u : ℕ) → i ≢ u → told (record_at old u) ≡ told (record_at (set rows i x) u) = λ u ne. sym (same u) ∙ sym (ap told (get_or-set_other rows i u x unknown (λ e. ne (sym e)))) in
    let again : length (hung_in (set rows i x) made o) + counts made i o (holder (record_at old i).parent (record_at old i).gone) ≡ length (hung_in old made o) + counts made i o (holder x.parent x.gone) =
    subst (λ (r : ObjectRecord). length (hung_in (set rows i x) made o) + counts made i o (holder (record_at old i).parent (record_at old i).gone) ≡ length (hung_in old made o) + counts made i o (holder r.parent r.gone)) there (recounted old (set rows i x) made i o elsewhere) in
    subst (λ (m : ℕ). (record_at (set rows i x) o).below ≡ length (hung_in (set rows i x) m o)) (sym same_made)
    (omega (arith, again, moved, counted o, below_kept rows i o x within below))

made_now : (made : ℕ) → is_made (made + 1) (made + 1) ≡ true
made_now made = grind (arith, nat_tests)

-- one object more was made
pub make_counted : (old rows : List ObjectRecord) (made o : ℕ) (h : Option ℕ) → ((u : ℕ) → told (record_at rows u) ≡ told (record_at old u)) → h ≡ holder (record_at old (made + 1)).parent (record_at old (made + 1)).gone → (record_at rows o).below ≡ (record_at old o).below + counts (made + 1) (made + 1) o h → IsCounted old made → (record_at rows o).below ≡ length (hung_in rows (made + 1) o)
make_counted old rows made o h same is below counted =
    let hangs : (u : ℕ) → hangs_in rows o u ≡ hangs_in old o u = λ u. ap (λ (x : ToldObject). not x.gone && is_parent o x.parent) (same u) in
    let alike : many (hangs_in rows o) 1 made ≡ many (hangs_in old o) 1 made = same_many (hangs_in rows o) (hangs_in old o) 1 made (λ u l w. hangs u) in
    let last : is_parent o h ≡ hangs_in rows o (made + 1) = ap (is_parent o) is ∙ (holder_hangs o (record_at old (made + 1)).parent (record_at old (made + 1)).gone ∙ sym (hangs (made + 1))) in
    let counts_last : counts (made + 1) (made + 1) o h ≡ one_if (hangs_in rows o (made + 1)) = ap (λ (b : Bool). one_if (b && is_parent o h)) (made_now made) ∙ ap one_if last in
    let e : suc made ≡ made + 1 = omega arith in
    let e' : 1 + made ≡ made + 1 = omega arith in
    let more : many (hangs_in rows o) 1 (made + 1) ≡ many (hangs_in rows o) 1 made + one_if (hangs_in rows o (made + 1)) =
    subst (λ (m : ℕ). many (hangs_in rows o) 1 m ≡ many (hangs_in rows o) 1 made + one_if (hangs_in rows o (made + 1))) e (subst (λ (m : ℕ). many (hangs_in rows o) 1 (suc made) ≡ many (hangs_in rows o) 1 made + one_if (hangs_in rows o m)) e' (last_one (hangs_in rows o) 1 made)) in
    omega (arith, more, counts_last, alike, below, counted o)

-- one object more of a list, with what hangs in it
pub hung_more : (rows : List ObjectRecord) (made : ℕ) (os : List ℕ) (i d : ℕ) → i < length os → length (with_hung rows made (take (i + 1) os)) ≡ length (with_hung rows made (take i os)) + (1 + length (hung_in rows made (get_or os i d)))
hung_more rows made os i d within =
    let one : with_hung rows made (get_or os i d ∷ []) ≡ get_or os i d ∷ hung_in rows made (get_or os i d) = ap (λ (ys : List ℕ). get_or os i d ∷ ys) (append-nil (hung_in rows made (get_or os i d))) in
    let parts : with_hung rows made (take (i + 1) os) ≡ with_hung rows made (take i os) ++ (get_or os i d ∷ hung_in rows made (get_or os i d)) = ap (with_hung rows made) (take_more os i d within) ∙ (flat_map-append (λ (o : ℕ). o ∷ hung_in rows made o) (take i os) (get_or os i d ∷ []) ∙ ap (λ (ys : List ℕ). with_hung rows made (take i os) ++ ys) one) in
    omega (arith, ap length parts, length-append (with_hung rows made (take i os)) (get_or os i d ∷ hung_in rows made (get_or os i d)))

pub same_counts : (made made' i o : ℕ) (h h' : Option ℕ) → made' ≡ made → h' ≡ h → counts made' i o h' ≡ counts made i o h
same_counts made made' i o h h' m e = ap (λ (k : ℕ). counts k i o h') m ∙ ap (λ (g : Option ℕ). counts made i o g) e
