-- An object leaves the heap, and what hangs in it is freed.
use Rattle.std.proofs.Common.{◌≡◌, ℕ, suc, ◌+◌, ◌≤◌, ◌==◌, ◌||◌, if◌then◌else◌, not, Bool, true, false, List, [], ◌∷◌, length, map, filter, Option, Some, None, refl, sym, ap, subst, ◌∙◌, arith, inl, inr}
use Rattle.std.proofs.lemmas.Bool.{cases_Bool, cases_eq, eq-eqb, ne_eqb, or_parts}
use Rattle.std.proofs.lemmas.List.{length-map}
use Rattle.std.proofs.lemmas.List.Elements.{filter_agree}
use Rattle.machine_defs.specs.declared.entry.Entry.TheVariants as entry
use Rattle.machine_defs.specs.Arguments.{has}
use Rattle.machine_defs.specs.Loans.{freed, sweep}
use Rattle.machine_defs.specs.Objects.{without}
use Rattle.machine_defs.specs.State.{State, Object, Placement, Root, Hung}
use Rattle.machine_defs.specs.Steps.{Row}
use Rattle.step_laws.specs.StepLaws.{FreesBy, hangs_among}
use Rattle.rref_heap.specs.Changing.{hangs_below, is_below, leaving, unless, with_leaving}
use Rattle.rref_heap.specs.HeapValue.{HeapRow, HeapRows, heap_objects, row_of}
use Rattle.rref_heap.specs.Leaving.{leaving_in, leaving_number, swept_row, swept_rows}
use Rattle.rref_heap.proofs.Objects.{Tells, leaving_is, objects_unless, objects_unless_passing, objects_with_leaving, passing_number, passing_numbers, row_of_map, same_filter_map, same_map, swept_is, unless_passing}
use Rattle.machine_steps.specs.declared.machine.Machine.TheInside.{Inside}
use Rattle.machine_steps.specs.Kept.{MayStep, Agrees}
use Rattle.machine_steps.specs.Inside.{state_of, kept, IsKept}
use Rattle.machine_steps.specs.Known.{Known}
use Rattle.machine_steps.proofs.Stepping.{KeepsRows, agrees_mapped}

-- ---- numbers and places

one_is : (o n : ℕ) → has (o ∷ []) n ≡ (n == o)
one_is o n = elim (cases_eq n o) [
  | inl e ↦ rw (e, eq-eqb o o refl) refl
  | inr ne ↦ rw (ne_eqb o n (λ e. ne (sym e)), ne_eqb n o ne) refl
]

below_is : (o : ℕ) (p : Placement) → hangs_among (o ∷ []) p ≡ hangs_below o p
below_is o (Root w) = refl
below_is o (Hung parent place) = one_is o parent

or_none : (a b : Bool) → b ≡ false → (a || b) ≡ a
or_none true b is = refl
or_none false b is = is

-- ---- the rows of the heap

-- the object is gone, and what hangs in it is listed for the sweep
abbrev pub dropped_rows : ℕ → HeapRows → HeapRows
dropped_rows o rows = map (with_leaving o) (map (unless o) rows)

record DroppedRow (o : ℕ) (x : Option HeapRow) (r : HeapRow) : Type 0 where
  old : HeapRow
  is : x ≡ Some old
  other : (old.object.number == o) ≡ false
  row : r ≡ leaving o old

dropped_as : (o : ℕ) (x : Option HeapRow) (r : HeapRow) → with_leaving o (unless o x) ≡ Some r → DroppedRow o x r
dropped_as o None r e = absurd cc
dropped_as o (Some q) r e = elim (cases_Bool (q.object.number == o)) [
  | inl this ↦ absurd (let h : with_leaving o None ≡ Some r = rw this at e in cc)
  | inr other ↦
      let h : Some (leaving o q) ≡ Some r = rw other at e in
      let same : leaving o q ≡ r = cc in
      record { old = q; is = refl; other = other; row = sym same }
]

-- an object hangs in the one that goes. Where none was listed before, just these are
abbrev hangs_in_it : ℕ → Object → Bool
hangs_in_it o x = hangs_among (o ∷ []) x.placement

dropped_tells : (o : ℕ) (rows : HeapRows) → ((n : ℕ) (r : HeapRow) → row_of rows n ≡ Some r → r.leaves ≡ false) → Tells (λ r. r.leaves) (hangs_in_it o) (dropped_rows o rows)
dropped_tells o rows stay j r is =
    let inner : row_of (map (unless o) rows) (suc j) ≡ unless o (row_of rows (suc j)) = row_of_map (unless o) refl rows (suc j) in
    let outer : row_of (dropped_rows o rows) (suc j) ≡ with_leaving o (row_of (map (unless o) rows) (suc j)) = row_of_map (with_leaving o) refl (map (unless o) rows) (suc j) in
    let d = dropped_as o (row_of rows (suc j)) r (sym (outer ∙ ap (with_leaving o) inner) ∙ is) in
    let leaves : (leaving o d.old).leaves ≡ hangs_below o d.old.object.placement = or_none (is_below o d.old.object) d.old.leaves (stay (suc j) d.old d.is) ∙ ap (λ b. b || hangs_below o d.old.object.placement) d.other in
    ap (λ y. hangs_in_it o y.object) d.row ∙ (below_is o d.old.object.placement ∙ (sym leaves ∙ ap (λ y. y.leaves) (sym d.row)))

-- what is swept then, and what stays
abbrev stay_rows : ℕ → Option HeapRow → Option HeapRow
stay_rows o x = swept_row (with_leaving o (unless o x))

stay_composed : (o : ℕ) (rows : HeapRows) → swept_rows (dropped_rows o rows) ≡ map (stay_rows o) rows
stay_composed o [] = refl
stay_composed o (x ∷ rows) = ap (λ rs. stay_rows o x ∷ rs) (stay_composed o rows)

swept_as : (x : Option HeapRow) (r : HeapRow) → swept_row x ≡ Some r → (x ≡ Some r) × (r.leaves ≡ false)
swept_as None r e = absurd cc
swept_as (Some q) r e = elim (cases_Bool q.leaves) [
  | inl leaves ↦ absurd (let h : None ≡ Some r = sym (ap (λ b. if b then None else Some q) leaves) ∙ e in cc)
  | inr stays ↦
      let h : Some q ≡ Some r = sym (ap (λ b. if b then None else Some q) stays) ∙ e in
      let same : q ≡ r = cc in
      (ap (λ y. Some y) same, ap (λ y. y.leaves) (sym same) ∙ stays)
]

stay_keeps : (o : ℕ) → KeepsRows (stay_rows o)
stay_keeps o x r e =
    let s = swept_as (with_leaving o (unless o x)) r e in
    let d = dropped_as o x r s.0 in
    let old : d.old.leaves ≡ false = (or_parts (is_below o d.old.object) d.old.leaves (ap (λ y. y.leaves) (sym d.row) ∙ s.1)).1 in
    (d.old, d.is, ap (λ y. y.loans) d.row, ap (λ y. y.nests) d.row, ap (λ y. y.object.ty) d.row, s.1 ∙ sym old)

-- ---- the step

module _ (known : Known) {w : Inside} (k : IsKept w) (t o : ℕ) (made : State) (may : MayStep (kept w) t) (makes : Row w.load (state_of w) (entry.Drop t o) made) (left : made.objects ≡ (without (o ∷ []) (state_of w)).objects) where
  drop_frees_by : FreesBy made (hangs_in_it o)
  drop_frees_by =
      known.doomed w.load w.log.entries (state_of w) made (entry.Drop t o) k.valid k.run may.enabled makes (hangs_in_it o)
      (known.drops w.load w.log.entries (state_of w) made (entry.Drop t o) k.valid k.run may.enabled makes)

  drop_tells : Tells (λ r. r.leaves) (hangs_in_it o) (dropped_rows o w.heap.rows)
  drop_tells = dropped_tells o w.heap.rows (λ n r is. (k.agrees n r is).stays)

  left_so : made.objects ≡ heap_objects (map (unless o) w.heap.rows)
  left_so = left ∙ (filter_agree (λ x. not (has (o ∷ []) x.number)) (λ x. not (x.number == o)) (λ x. ap not (one_is o x.number)) (heap_objects w.heap.rows) ∙ sym (objects_unless o w.heap.rows))

  dropped_left : heap_objects (dropped_rows o w.heap.rows) ≡ made.objects
  dropped_left = objects_with_leaving o (map (unless o) w.heap.rows) ∙ sym left_so

  -- what is listed is what is freed
  pub drop_frees : leaving_in (dropped_rows o w.heap.rows) ≡ freed made
  drop_frees =
      same_filter_map leaving_number (passing_number (λ r. r.leaves)) (dropped_rows o w.heap.rows) leaving_is
      ∙ (passing_numbers (λ r. r.leaves) (hangs_in_it o) (dropped_rows o w.heap.rows) drop_tells
      ∙ (ap (λ (xs : List Object). map (λ x. x.number) (filter (hangs_in_it o) xs)) dropped_left ∙ sym drop_frees_by.frees))

  pub drop_stays : heap_objects (swept_rows (dropped_rows o w.heap.rows)) ≡ (sweep made).objects
  drop_stays =
      ap heap_objects (same_map swept_row (unless_passing (λ r. r.leaves)) (dropped_rows o w.heap.rows) swept_is)
      ∙ (objects_unless_passing (λ r. r.leaves) (hangs_in_it o) (dropped_rows o w.heap.rows) drop_tells
      ∙ (ap (λ (xs : List Object). filter (λ x. not (hangs_in_it o x)) xs) dropped_left ∙ sym (ap (λ (z : State). z.objects) drop_frees_by.stays)))

  pub drop_count : length (swept_rows (dropped_rows o w.heap.rows)) ≡ length w.heap.rows
  drop_count = ap length (stay_composed o w.heap.rows) ∙ length-map w.heap.rows (stay_rows o)

  -- there is room for the entries of what is freed
  pub drop_room : length (leaving_in (dropped_rows o w.heap.rows)) + 1 ≤ w.log.spare
  drop_room =
      let few = (known.few w.load w.log.entries (state_of w) made (entry.Drop t o) k.valid k.run may.enabled makes).frees in
      let same : length (leaving_in (dropped_rows o w.heap.rows)) ≡ length (freed made) = ap length drop_frees in
      omega (arith, few, same, k.rooms.log, may.short)

  pub drop_agrees : Agrees w.load (sweep made) (swept_rows (dropped_rows o w.heap.rows))
  drop_agrees =
      subst (λ rows. Agrees w.load (sweep made) rows) (sym (stay_composed o w.heap.rows))
      (agrees_mapped w.load (state_of w) (sweep made) w.heap.rows (stay_rows o) refl (stay_keeps o)
      (known.loans w.load w.log.entries (state_of w) made (entry.Drop t o) k.valid k.run may.enabled makes) k.agrees)
