-- What a refused call moves leaves the heap, and what hangs in it is what is freed.
use Rattle.std.proofs.Common.{◌≡◌, ℕ, ◌+◌, ◌≤◌, ◌&&◌, ◌||◌, Bool, true, false, not, List, [], ◌∷◌, length, map, filter, All, Option, Some, None, refl, sym, ap, ap₂, subst, ◌∙◌, arith, inl, inr, if◌then◌else◌}
use Rattle.std.specs.Option.{option_map_or}
use Rattle.std.proofs.lemmas.Bool.{cases_Bool, eq-eqb, false_from_ne_true}
use Rattle.std.proofs.lemmas.List.{length-map}
use Rattle.machine_defs.specs.declared.entry.Entry.{Entry}
use Rattle.machine_defs.specs.declared.entry.Entry.TheVariants as entry
use Rattle.machine_defs.specs.declared.values.Arg.{Arg}
use Rattle.machine_defs.specs.declared.values.RpcCode.{RpcCode}
use Rattle.machine_defs.specs.State.{State, Object, Placement, Root, Hung}
use Rattle.machine_defs.specs.Arguments.{has, moved_of}
use Rattle.machine_defs.specs.Frames.{acting}
use Rattle.machine_defs.specs.Loans.{count}
use Rattle.machine_defs.specs.NativeFits.{are_distinct}
use Rattle.machine_defs.specs.Steps.{Row}
use Rattle.machine_laws.specs.LedgerOf.{ledger_of}
use Rattle.machine_laws.proofs.Counts.{has_counted}
use Rattle.machine_laws.proofs.OwnRows.{at_most_once}
use Rattle.step_laws.specs.StepLaws.{DoomsBy, hangs_among}
use Rattle.step_laws.proofs.MadeRows.{IsMade, made_row}
use Rattle.proxies.specs.Objects.{IsFree, given_up, hangs_in_one}
use Rattle.rref_heap.specs.HeapValue.{HeapRow, HeapRows, HeapValue, row_of, heap_objects}
use Rattle.rref_heap.specs.Kept.{IsHeapOf}
use Rattle.rref_heap.proofs.Objects.{row_of_map}
use Rattle.machine_steps.specs.declared.machine.Machine.TheInside.{Inside}
use Rattle.machine_steps.specs.Kept.{MayStep}
use Rattle.machine_steps.specs.Inside.{state_of, kept, IsKept}
use Rattle.machine_steps.specs.Known.{Known}
use Rattle.machine_steps.proofs.Freeing.{root_row, row_found, is_heap_root, all_numbers, TellsAt, Frees, dooms_by_rows, frees_listed, KeepsRooms}
use Rattle.machine_steps.proofs.FrameEnds.{loans_here}

-- numbers that each stand once at most are distinct
pub distinct_from : (os : List ℕ) → ((o : ℕ) → count o os ≤ 1) → are_distinct os ≡ true
distinct_from [] once = refl
distinct_from (x ∷ os) once =
    let first : has os x ≡ false = false_from_ne_true (has os x) (λ is. (let one = once x in let some = has_counted os x is in let here : count x (x ∷ os) ≡ 1 + count x os = ap (λ b. (if b then 1 else 0) + count x os) (eq-eqb x x refl) in omega (arith, one, some, here))) in
    ap₂ (λ a b. not a && b) first (distinct_from os (λ o. omega (arith, once o)))

-- the objects that are given up are gone, and the others stay
pub objects_given_up : (os : List ℕ) (rows : HeapRows) → heap_objects (map (given_up os) rows) ≡ filter (λ x. not (has os x.number)) (heap_objects rows)
objects_given_up os [] = refl
objects_given_up os (None ∷ rows) = objects_given_up os rows
objects_given_up os (Some r ∷ rows) = elim (cases_Bool (has os r.object.number)) [
  | inl gone ↦ rw (gone, objects_given_up os rows) refl
  | inr stays ↦ rw (stays, objects_given_up os rows) refl
]

-- the row of an object that stays
pub record Stayed (rows : HeapRows) (os : List ℕ) (o : ℕ) (z : HeapRow) : Type 0 where
  pub row : HeapRow
  pub is : row_of rows o ≡ Some row
  pub now : z ≡ record row { leaves = hangs_in_one os row.object.placement || row.leaves }

abbrev left_row : List ℕ → HeapRow → HeapRow
left_row os r = record r { leaves = hangs_in_one os r.object.placement || r.leaves }

stayed_row : (os : List ℕ) (r z : HeapRow) → given_up os (Some r) ≡ Some z → z ≡ left_row os r
stayed_row os r z is = go (has os r.object.number) refl
  where
    go : (b : Bool) → has os r.object.number ≡ b → z ≡ left_row os r
    go true gone = absurd (let e : ◌≡◌ {A = Option HeapRow} None (Some z) = sym (ap (λ b. if b then None else Some (left_row os r)) gone) ∙ is in cc)
    go false stays = (let e : Some (left_row os r) ≡ Some z = sym (ap (λ b. if b then None else Some (left_row os r)) stays) ∙ is in let same : left_row os r ≡ z = cc in sym same)

pub stayed : (rows : HeapRows) (os : List ℕ) (o : ℕ) (z : HeapRow) → row_of (map (given_up os) rows) o ≡ Some z → Stayed rows os o z
stayed rows os o z there = go (row_of rows o) refl
  where
    at : row_of (map (given_up os) rows) o ≡ given_up os (row_of rows o)
    at = row_of_map (given_up os) refl rows o

    go : (x : Option HeapRow) → row_of rows o ≡ x → Stayed rows os o z
    go None is = absurd (let e : ◌≡◌ {A = Option HeapRow} None (Some z) = sym (at ∙ ap (given_up os) is) ∙ there in cc)
    go (Some r) is = record { row = r; is = is; now = stayed_row os r z (sym (at ∙ ap (given_up os) is) ∙ there) }

-- what hangs among objects hangs in one of them
hangs_same : (os : List ℕ) (p : Placement) → hangs_among os p ≡ (hangs_in_one os p || false)
hangs_same os (Root w) = refl
hangs_same os (Hung parent place) = go (has os parent)
  where
    go : (b : Bool) → b ≡ (b || false)
    go true = refl
    go false = refl

module _ (known : Known) {w : Inside} (k : IsKept w) (t c x m : ℕ) (why : RpcCode) (args : List Arg) (may : MayStep (kept w) t) (made : State) (makes : Row w.load (state_of w) (entry.Refuse t c why x m args) made) where
  abbrev e : Entry
  e = entry.Refuse t c why x m args

  -- what the call moves is free
  pub all_free : IsHeapOf w.heap → All (IsFree w.heap.rows) (moved_of args)
  all_free is_heap = all_numbers (IsFree w.heap.rows) (moved_of args) (λ o is.
      let r = (known.roots w.load w.log.entries (state_of w) made e k.valid k.run may.enabled makes).changed o is in
      let row = root_row w.heap.rows is_heap.numbered (state_of w) refl o (acting (state_of w) t) r.0 in
      record {
        root = is_heap_root w.heap.rows o (acting (state_of w) t) row;
        unlent = loans_here w.load (state_of w) w.heap.rows is_heap.numbered refl k.agrees o (acting (state_of w) t) row ∙ r.1;
        stays = ap (λ (y : Option HeapRow). option_map_or (λ y. y.leaves) y false) row.is ∙ (k.agrees o row.row row.is).stays;
      })

  pub moved_once : are_distinct (moved_of args) ≡ true
  moved_once =
      let is : IsMade w.load (state_of w) e made = made_row w.load w.log.entries (state_of w) made e k.valid k.run may.enabled makes in
      distinct_from (moved_of args) (λ o.
      let one = at_most_once w.load (ledger_of w.load (state_of w)) is.owned t is.row.0 is.row.1 is.row.3 o in
      let gone = is.row.6.moved o in
      omega (arith, one, gone))

  -- and what is freed is what the heap lists
  module _ (is_heap : IsHeapOf w.heap) (objects : made.objects ≡ filter (λ y. not (has (moved_of args) y.number)) (heap_objects w.heap.rows)) (given : List Arg) (given_is : given ≡ args) {heap : HeapValue} (behind : IsHeapOf heap)
      (heap_is : heap ≡ record w.heap { rows = map (given_up (moved_of given)) w.heap.rows }) where
    rows_are : heap.rows ≡ map (given_up (moved_of args)) w.heap.rows
    rows_are = ap (λ (v : HeapValue). v.rows) heap_is ∙ ap (λ as'. map (given_up (moved_of as')) w.heap.rows) given_is

    there_is : (o : ℕ) (z : HeapRow) → row_of heap.rows o ≡ Some z → Stayed w.heap.rows (moved_of args) o z
    there_is o z there = stayed w.heap.rows (moved_of args) o z (sym (ap (λ rows. row_of rows o) rows_are) ∙ there)

    objects_are : made.objects ≡ heap_objects heap.rows
    objects_are = objects ∙ (sym (objects_given_up (moved_of args) w.heap.rows) ∙ ap heap_objects (sym rows_are))

    pub refused_frees : Frees made heap.rows
    refused_frees = frees_listed known k e may made makes heap.rows behind.numbered objects_are (dooms_by_rows heap.rows made behind.numbered objects_are (λ o z there.
        let was = there_is o z there in
        let drops : DoomsBy made (λ y. hangs_among (moved_of args) y.placement) = known.drops w.load w.log.entries (state_of w) made e k.valid k.run may.enabled makes in
        let listed : z.leaves ≡ (hangs_in_one (moved_of args) z.object.placement || false) =
        ap (λ (y : HeapRow). y.leaves) was.now ∙ (ap (λ b. hangs_in_one (moved_of args) was.row.object.placement || b) (k.agrees o was.row was.is).stays
        ∙ ap (λ (y : Object). hangs_in_one (moved_of args) y.placement || false) (sym (ap (λ (y : HeapRow). y.object) was.now))) in
        drops z.object (row_found heap.rows behind.numbered made objects_are o z there) ∙ (hangs_same (moved_of args) z.object.placement ∙ sym listed)))

    pub refused_tells : (o : ℕ) (z : HeapRow) → row_of heap.rows o ≡ Some z → TellsAt w.load made o z
    refused_tells o z there =
        let was = there_is o z there in
        let at = k.agrees o was.row was.is in
        let same = known.loans w.load w.log.entries (state_of w) made e k.valid k.run may.enabled makes o in
        subst (TellsAt w.load made o) (sym was.now) (record { lent = at.lent ∙ sym same; nests = at.nests })

    pub refused_rooms : KeepsRooms w.heap heap
    refused_rooms = record {
      clients = ap (λ (v : HeapValue). v.clients) heap_is;
      instances = ap (λ (v : HeapValue). v.instances) heap_is;
      long = ap length rows_are ∙ length-map w.heap.rows (given_up (moved_of args));
    }
