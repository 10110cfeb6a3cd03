-- One object leaves the heap, and what hung in it is swept: that is what the state frees.
use Rattle.std.proofs.Common.{◌≡◌, ℕ, suc, ◌<◌, ◌==◌, ◌||◌, not, if◌then◌else◌, Bool, true, false, List, [], ◌∷◌, length, map, filter, Option, Some, None, refl, sym, ap, subst, ◌∙◌, arith, inl, inr}
use Rattle.std.proofs.lemmas.Bool.{cases_Bool, cases_eq, eq-eqb, ne_eqb}
use Rattle.std.proofs.lemmas.List.Elements.{filter_agree}
use Rattle.std.specs.List.{list_any}
use Rattle.rl_defs.specs.CodeNames.{cells_of}
use Rattle.machine_defs.specs.declared.entry.Entry.{Entry}
use Rattle.machine_defs.specs.declared.values.Owner.{Owner}
use Rattle.machine_defs.specs.State.{State, Object, Placement, Root, Hung}
use Rattle.machine_defs.specs.Arguments.{has}
use Rattle.machine_defs.specs.Loans.{loans, sweep, freed}
use Rattle.machine_defs.specs.Objects.{without}
use Rattle.machine_defs.specs.Entries.{thread_of}
use Rattle.machine_defs.specs.Sound.{IsRoot as IsRootIn}
use Rattle.machine_defs.specs.Steps.{Row}
use Rattle.step_laws.specs.StepLaws.{DoomsBy, FreesBy, hangs_among}
use Rattle.rref_heap.specs.HeapValue.{HeapRow, HeapRows, row_of, heap_objects, object_in, loans_at, leaves_at, IsRoot, is_rref}
use Rattle.rref_heap.specs.Changing.{unless, leaving, with_leaving, hangs_below}
use Rattle.rref_heap.specs.Leaving.{swept_row, swept_rows, leaving_number, leaving_in}
use Rattle.rref_heap.proofs.Objects.{IsNumbered, Tells, object_found, unless_passing, passing_number, objects_unless, objects_with_leaving, objects_unless_passing, passing_numbers, same_map, same_filter_map, swept_is, leaving_is, row_of_map}
use Rattle.machine_steps.specs.declared.machine.Machine.TheInside.{Inside}
use Rattle.machine_steps.specs.Kept.{MayStep, Agrees, AgreesAt}
use Rattle.machine_steps.specs.Inside.{state_of, kept, IsKept}
use Rattle.machine_steps.specs.Known.{Known}

-- the rows without an object, where what hung in it is listed for the sweep
abbrev pub dropped_rows : ℕ → HeapRows → HeapRows
dropped_rows o rows = map (with_leaving o) (map (unless o) rows)

-- ---- which rows those are

pub record Stays (o : ℕ) (x : Option HeapRow) (r : HeapRow) : Type 0 where
  pub row : HeapRow
  pub was : x ≡ Some row
  pub is : r ≡ leaving o row
  pub other : (row.object.number == o) ≡ false

stays_listed : (o : ℕ) (x : Option HeapRow) (r : HeapRow) → with_leaving o (unless o x) ≡ Some r → Stays o x r
stays_listed o None r is = absurd cc
stays_listed o (Some q) r is = elim (cases_Bool (q.object.number == o)) [
  | inl same ↦ absurd (let e : ◌≡◌ {A = Option HeapRow} None (Some r) = rw same at is in cc)
  | inr other ↦ (let e : Some (leaving o q) ≡ Some r = rw other at is in record { row = q; was = refl; is = cc; other = other })
]

pub stays_there : (o : ℕ) (rows : HeapRows) (n : ℕ) (r : HeapRow) → row_of (dropped_rows o rows) n ≡ Some r → Stays o (row_of rows n) r
stays_there o rows n r is = stays_listed o (row_of rows n) r (sym (row_of_map (with_leaving o) refl (map (unless o) rows) n ∙ ap (with_leaving o) (row_of_map (unless o) refl rows n)) ∙ is)

swept_stays : (q r : HeapRow) (b : Bool) → ◌≡◌ {A = Option HeapRow} (if b then None else Some q) (Some r) → (q ≡ r) × (b ≡ false)
swept_stays q r true is = absurd cc
swept_stays q r false is = (cc, refl)

same_either : (a b : ℕ) → (a == b) ≡ (b == a)
same_either a b = elim (cases_eq a b) [
  | inl e ↦ rw (eq-eqb a b e, eq-eqb b a (sym e)) refl
  | inr ne ↦ rw (ne_eqb a b ne, ne_eqb b a (λ e. ne (sym e))) refl
]

hangs_same : (o : ℕ) (p : Placement) → hangs_among (o ∷ []) p ≡ (hangs_below o p || false)
hangs_same o (Root w) = refl
hangs_same o (Hung parent place) = ap (λ b. b || false) (same_either o parent)

without_same : (o : ℕ) (xs : List Object) → filter (λ x. not (x.number == o)) xs ≡ filter (λ x. not (has (o ∷ []) x.number)) xs
without_same o xs = filter_agree (λ (x : Object). not (x.number == o)) (λ (x : Object). not (has (o ∷ []) x.number)) (λ x. same x) xs
  where
    same : (x : Object) → not (x.number == o) ≡ not (has (o ∷ []) x.number)
    same x = elim (cases_eq x.number o) [
      | inl e ↦ rw (eq-eqb x.number o e, eq-eqb o x.number (sym e)) refl
      | inr ne ↦ rw (ne_eqb x.number o ne, ne_eqb o x.number (λ e. ne (sym e))) refl
    ]

pub objects_dropped : (o : ℕ) (rows : HeapRows) → heap_objects (dropped_rows o rows) ≡ filter (λ x. not (has (o ∷ []) x.number)) (heap_objects rows)
objects_dropped o rows = objects_with_leaving o (map (unless o) rows) ∙ (objects_unless o rows ∙ without_same o (heap_objects rows))

-- ---- a root that nobody has borrowed is dropped

module _ {w : Inside} (k : IsKept w) (numbered : IsNumbered w.heap.rows) (o : ℕ) where
  -- what the sweep takes
  listed_below : Tells (λ r. r.leaves) (λ x. hangs_among (o ∷ []) x.placement) (dropped_rows o w.heap.rows)
  listed_below j r is =
      let s = stays_there o w.heap.rows (suc j) r is in
      let stays : s.row.leaves ≡ false = (k.agrees (suc j) s.row s.was).stays in
      let listed : (leaving o s.row).leaves ≡ (hangs_below o s.row.object.placement || false) = rw (s.other, stays) refl in
      subst (λ (q : HeapRow). hangs_among (o ∷ []) q.object.placement ≡ q.leaves) (sym s.is) (hangs_same o s.row.object.placement ∙ sym listed)

  objects_kept : heap_objects (swept_rows (dropped_rows o w.heap.rows)) ≡ filter (λ x. not (hangs_among (o ∷ []) x.placement)) (heap_objects (dropped_rows o w.heap.rows))
  objects_kept =
      ap heap_objects (same_map swept_row (unless_passing (λ r. r.leaves)) (dropped_rows o w.heap.rows) swept_is)
      ∙ objects_unless_passing (λ r. r.leaves) (λ x. hangs_among (o ∷ []) x.placement) (dropped_rows o w.heap.rows) listed_below

  numbers_listed : leaving_in (dropped_rows o w.heap.rows) ≡ map (λ x. x.number) (filter (λ x. hangs_among (o ∷ []) x.placement) (heap_objects (dropped_rows o w.heap.rows)))
  numbers_listed =
      same_filter_map leaving_number (passing_number (λ r. r.leaves)) (dropped_rows o w.heap.rows) leaving_is
      ∙ passing_numbers (λ r. r.leaves) (λ x. hangs_among (o ∷ []) x.placement) (dropped_rows o w.heap.rows) listed_below

  -- what stays is as it was
  pub agrees_dropped : (z : State) → ((n : ℕ) → loans z n ≡ loans (state_of w) n) → Agrees w.load z (swept_rows (dropped_rows o w.heap.rows))
  agrees_dropped z same n r here = go (row_of (dropped_rows o w.heap.rows) n) refl (sym (row_of_map swept_row refl (dropped_rows o w.heap.rows) n) ∙ here)
    where
      go : (x : Option HeapRow) → row_of (dropped_rows o w.heap.rows) n ≡ x → swept_row x ≡ Some r → AgreesAt w.load z n r
      go None there swept = absurd cc
      go (Some q) there swept =
          let kept' = swept_stays q r q.leaves swept in
          let s = stays_there o w.heap.rows n q there in
          let at = k.agrees n s.row s.was in
          subst (λ (x : HeapRow). AgreesAt w.load z n x) kept'.0 (record {
            lent = ap (λ (x : HeapRow). x.loans) s.is ∙ (at.lent ∙ sym (same n));
            nests = ap (λ (x : HeapRow). x.nests) s.is ∙ (at.nests ∙ ap (λ (x : HeapRow). list_any is_rref (cells_of w.load.tables x.object.ty)) (sym s.is));
            stays = kept'.1;
          })

-- ---- so the state frees what the sweep takes

module _ (known : Known) {w : Inside} (k : IsKept w) (numbered : IsNumbered w.heap.rows) (o : ℕ) (e : Entry) (made : State) (may : MayStep (kept w) (thread_of e)) (makes : Row w.load (state_of w) e made)
    (dooms : DoomsBy made (λ x. hangs_among (o ∷ []) x.placement)) (leaves : made.objects ≡ (without (o ∷ []) (state_of w)).objects) where
  frees_by : FreesBy made (λ x. hangs_among (o ∷ []) x.placement)
  frees_by = known.doomed w.load w.log.entries (state_of w) made e k.valid k.run may.enabled makes (λ x. hangs_among (o ∷ []) x.placement) dooms

  objects_same : heap_objects (dropped_rows o w.heap.rows) ≡ made.objects
  objects_same = objects_dropped o w.heap.rows ∙ sym leaves

  pub objects_swept : heap_objects (swept_rows (dropped_rows o w.heap.rows)) ≡ filter (λ x. not (hangs_among (o ∷ []) x.placement)) made.objects
  objects_swept = objects_kept k numbered o ∙ ap (filter (λ x. not (hangs_among (o ∷ []) x.placement))) objects_same

  pub listed_freed : leaving_in (dropped_rows o w.heap.rows) ≡ freed made
  listed_freed = numbers_listed k numbered o ∙ (ap (λ xs. map (λ x. x.number) (filter (λ x. hangs_among (o ∷ []) x.placement) xs)) objects_same ∙ sym frees_by.frees)

  pub swept_made : sweep made ≡ record made { objects = heap_objects (swept_rows (dropped_rows o w.heap.rows)) }
  swept_made = frees_by.stays ∙ ap (λ xs. record made { objects = xs }) (sym objects_swept)

  pub drop_room : length (leaving_in (dropped_rows o w.heap.rows)) < w.log.spare
  drop_room =
      let few = (known.few w.load w.log.entries (state_of w) made e k.valid k.run may.enabled makes).frees in
      let n : length (leaving_in (dropped_rows o w.heap.rows)) ≡ length (freed made) = ap length listed_freed in
      omega (arith, few, n, k.rooms.log, may.short)

-- ---- what the heap is asked for

-- a root of the state is one of the heap
pub record RootRow (w : Inside) (o : ℕ) (v : Owner) : Type 0 where
  pub row : HeapRow
  pub is : row_of w.heap.rows o ≡ Some row
  pub root : row.object.placement ≡ Root v

pub root_row : {w : Inside} → IsNumbered w.heap.rows → (o : ℕ) (v : Owner) → IsRootIn (state_of w) o v → RootRow w o v
root_row {w} numbered o v root = go (row_of w.heap.rows o) refl
  where
    found : object_in (row_of w.heap.rows o) ≡ Some root.0
    found = sym (object_found w.heap.rows numbered o) ∙ root.1

    go : (x : Option HeapRow) → row_of w.heap.rows o ≡ x → RootRow w o v
    go None is = absurd (let e : ◌≡◌ {A = Option Object} None (Some root.0) = sym (ap object_in is) ∙ found in cc)
    go (Some r) is =
        let e : Some r.object ≡ Some root.0 = sym (ap object_in is) ∙ found in
        let same : r.object ≡ root.0 = cc in
        record { row = r; is = is; root = ap (λ (x : Object). x.placement) same ∙ root.2 }

module _ {w : Inside} (k : IsKept w) (numbered : IsNumbered w.heap.rows) (o : ℕ) (v : Owner) (root : IsRootIn (state_of w) o v) where
  pub is_root : IsRoot w.heap.rows o
  is_root = let r = root_row {w = w} numbered o v root in rw (r.is, r.root) refl

  pub loans_known : loans_at w.heap.rows o ≡ loans (state_of w) o
  loans_known = let r = root_row {w = w} numbered o v root in rw r.is (k.agrees o r.row r.is).lent

  pub stays_known : leaves_at w.heap.rows o ≡ false
  stays_known = let r = root_row {w = w} numbered o v root in rw r.is (k.agrees o r.row r.is).stays
