-- The loans of a frame end with it, and what it returns passes on: what of that is listed for the sweep is what is freed.
use Rattle.std.proofs.Common.{◌≡◌, ℕ, zero, suc, ◌+◌, ◌-◌, ◌<◌, ◌≤◌, ◌==◌, ◌&&◌, ◌||◌, Bool, true, false, List, [], ◌∷◌, ◌++◌, length, map, Option, Some, None, All, refl, sym, ap, subst, ◌∙◌, arith, inl, inr, if◌then◌else◌}
use Rattle.std.specs.List.{list_any}
use Rattle.std.specs.Option.{option_map_or}
use Rattle.std.proofs.lemmas.Bool.{cases_Bool, eq-eqb, ne_eqb, false_from_ne_true}
use Rattle.std.proofs.lemmas.List.{length-map}
use Rattle.machine_defs.specs.declared.entry.Entry.{Entry}
use Rattle.machine_defs.specs.declared.values.Owner.{Owner}
use Rattle.machine_defs.specs.declared.values.Owner.TheVariants as owner
use Rattle.rl_defs.specs.declared.load.LoadRows.{LoadRows}
use Rattle.rl_defs.specs.CodeNames.{cells_of}
use Rattle.machine_defs.specs.State.{State, Instance, Object, Placement, Root, Hung}
use Rattle.machine_defs.specs.Arguments.{has}
use Rattle.machine_defs.specs.Entries.{thread_of}
use Rattle.machine_defs.specs.Steps.{Row}
use Rattle.machine_defs.specs.Loans.{count, loans, object_of, is_doomed, has_ended}
use Rattle.machine_defs.specs.Objects.{given_to, owned_by}
use Rattle.machine_defs.specs.Sound.{IsRoot}
use Rattle.machine_laws.proofs.Counts.{has_counted}
use Rattle.step_laws.specs.StepLaws.{FreesAmong, GoesWithParent}
use Rattle.proxies.specs.Objects.{IsLent, IsUnlent, is_over_for, is_let_go, is_let_go_at, hangs_in_one, returned, returned_row, handed_back, handed_back_row, passed}
use Rattle.rref_heap.specs.HeapValue.{HeapRow, HeapRows, HeapValue, row_of, heap_objects, loans_at, root_owner, is_rref}
use Rattle.rref_heap.specs.Kept.{IsHeapOf, HangsWell}
use Rattle.rref_heap.proofs.Objects.{IsNumbered, row_of_map}
use Rattle.machine_steps.specs.declared.machine.Machine.TheInside.{Inside}
use Rattle.machine_steps.specs.Kept.{MayStep, Agrees}
use Rattle.machine_steps.specs.Inside.{state_of, kept, IsKept}
use Rattle.machine_steps.specs.Known.{Known}
use Rattle.machine_steps.proofs.Freeing.{RootRow, root_row, row_found, found_row, owner_of_root, is_heap_root, all_numbers, TellsAt, Frees, dooms_by_rows, frees_listed, KeepsRooms}

-- ---- the rows of the heap

-- the objects stay, or pass to the owner
pub objects_returned : (all : HeapRows) (instances : List Instance) (lent : List ℕ) (rows : HeapRows) → heap_objects (map (returned all instances lent) rows) ≡ heap_objects rows
objects_returned all instances lent [] = refl
objects_returned all instances lent (None ∷ rows) = objects_returned all instances lent rows
objects_returned all instances lent (Some r ∷ rows) = ap (λ xs. r.object ∷ xs) (objects_returned all instances lent rows)

pub objects_handed_back : (os : List ℕ) (to : Owner) (over : Bool) (rows : HeapRows) → heap_objects (map (handed_back os to over) rows) ≡ given_to to os (heap_objects rows)
objects_handed_back os to over [] = refl
objects_handed_back os to over (None ∷ rows) = objects_handed_back os to over rows
objects_handed_back os to over (Some r ∷ rows) = ap (λ xs. passed to os r.object ∷ xs) (objects_handed_back os to over rows)

-- where nothing is returned, nothing changes
pub none_handed_back : (to : Owner) (rows : HeapRows) → map (handed_back [] to false) rows ≡ rows
none_handed_back to [] = refl
none_handed_back to (None ∷ rows) = ap (λ xs. None ∷ xs) (none_handed_back to rows)
none_handed_back to (Some r ∷ rows) = ap (λ xs. Some r ∷ xs) (none_handed_back to rows)

-- an owner has ended in the state where it has in its instances
pub over_ended : (s : State) (w : Owner) → has_ended s w ≡ is_over_for s.instances w
over_ended s (owner.Client c) = refl
over_ended s (owner.Instance i) = refl

-- ---- what is lent to a frame can end

module _ (L : LoadRows) (s : State) (rows : HeapRows) (numbered : IsNumbered rows) (same : s.objects ≡ heap_objects rows) (agrees : Agrees L s rows) where
  -- a root's loans are those of its row
  pub loans_here : (o : ℕ) (w : Owner) → RootRow rows o w → loans_at rows o ≡ loans s o
  loans_here o w r = ap (λ (x : Option HeapRow). option_map_or (λ x. x.loans) x 0) r.is ∙ (agrees o r.row r.is).lent

  pub all_lent : (lent : List ℕ) → ((o : ℕ) → has lent o ≡ true → count o lent ≤ loans s o) → ((o : ℕ) → 0 < loans s o → (w : Owner) × IsRoot s o w) → All (IsLent rows lent) lent
  all_lent lent counted roots = all_numbers (IsLent rows lent) lent (λ o is.
      let few = counted o is in
      let some = has_counted lent o is in
      let root = roots o (omega (arith, few, some)) in
      let r = root_row rows numbered s same o root.0 root.1 in
      record { root = is_heap_root rows o root.0 r; counted = subst (λ n. count o lent ≤ n) (sym (loans_here o root.0 r)) few })

  -- what is returned isn't lent, also behind the end of the frame's loans
  pub all_unlent : (instances : List Instance) (lent os : List ℕ) → ((o : ℕ) → has os o ≡ true → (w : Owner) × IsRoot s o w × (loans s o ≡ 0)) → All (IsUnlent (map (returned rows instances lent) rows)) os
  all_unlent instances lent os free = all_numbers (IsUnlent (map (returned rows instances lent) rows)) os (λ o is.
      let f = free o is in
      let r = root_row rows numbered s same o f.0 f.1 in
      let here : row_of (map (returned rows instances lent) rows) o ≡ Some (returned_row rows instances lent r.row) = row_of_map (returned rows instances lent) refl rows o ∙ ap (returned rows instances lent) r.is in
      let none : r.row.loans ≡ 0 = (agrees o r.row r.is).lent ∙ f.2 in
      record {
        root = is_heap_root (map (returned rows instances lent) rows) o f.0 (record { row = returned_row rows instances lent r.row; is = here; root = r.root });
        unlent = ap (λ (x : Option HeapRow). option_map_or (λ x. x.loans) x 0) here ∙ (let e : r.row.loans - count r.row.object.number lent ≡ 0 = omega (arith, none) in e);
      })

-- ---- what is listed is doomed

-- A frame of a state ends, to which these objects are lent, and these pass to an owner. Its loans end, and what that frees is among them.
pub record FrameEnds (s made : State) (lent os : List ℕ) (to : Owner) : Type 0 where
  pub objects : made.objects ≡ given_to to os s.objects
  pub instances : made.instances ≡ s.instances
  pub falls : (o : ℕ) → loans made o + count o lent ≡ loans s o
  pub free : (o : ℕ) → has os o ≡ true → (w : Owner) × IsRoot s o w × (loans s o ≡ 0)
  pub among : FreesAmong made (lent ++ os)

has_front : (xs ys : List ℕ) (o : ℕ) → has xs o ≡ false → has ys o ≡ false → has (xs ++ ys) o ≡ false
has_front [] ys o a b = b
has_front (x ∷ xs) ys o a b = elim (cases_Bool (x == o)) [
  | inl is ↦ absurd (let e : true ≡ false = rw is at a in cc)
  | inr is ↦ rw is (has_front xs ys o (rw is at a) b)
]

-- a root whose last loan ends is listed where its owner has ended
lost_last : (before ends after : ℕ) (over : Bool) → after + ends ≡ before → ((before == ends) && over) ≡ (over && (after == 0))
lost_last before ends after true is = go after refl
  where
    go : (n : ℕ) → after ≡ n → ((before == ends) && true) ≡ (n == 0)
    go zero none = rw (eq-eqb before ends (omega (arith, is, none))) refl
    go (suc n) some = rw (ne_eqb before ends (λ e. omega (arith, is, some, e)), ne_eqb (suc n) 0 (λ e. omega (arith, e))) refl
lost_last before ends after false is = go (before == ends)
  where
    go : (b : Bool) → (b && false) ≡ false
    go true = refl
    go false = refl

-- whether a row is listed, by what is known of it
abbrev shape : Bool → Bool → Bool → Bool → Bool → Bool → Bool
shape over mine hangs lost lost_above listed = (over && (mine || hangs)) || ((lost || lost_above) || listed)

shape_passed : (over hangs : Bool) → shape over true hangs false false false ≡ over
shape_passed true hangs = refl
shape_passed false hangs = refl

shape_kept : (over lost : Bool) → shape over false false lost false false ≡ lost
shape_kept true true = refl
shape_kept true false = refl
shape_kept false true = refl
shape_kept false false = refl

and_true : (b : Bool) → (b && true) ≡ b
and_true true = refl
and_true false = refl

same_owner : (v w : Owner) → ◌≡◌ {A = Placement} (Root v) (Root w) → v ≡ w
same_owner v w e = cc

passed_there : (to : Owner) (os : List ℕ) (x : Object) (b : Bool) → has os x.number ≡ b → passed to os x ≡ (if b then owned_by to x else x)
passed_there to os x b is = ap (λ b. if b then owned_by to x else x) is

module _ (L : LoadRows) (s made : State) (lent os : List ℕ) (to : Owner) (over : Bool) (rows : HeapRows) (numbered : IsNumbered rows) (same : s.objects ≡ heap_objects rows) (agrees : Agrees L s rows)
    (ends : FrameEnds s made lent os to) (is_over : over ≡ is_over_for s.instances to) where
  abbrev pub rows_behind : HeapRows
  rows_behind = map (handed_back os to over) (map (returned rows s.instances lent) rows)

  abbrev became : HeapRow → HeapRow
  became r = handed_back_row os to over (returned_row rows s.instances lent r)

  pub objects_behind : made.objects ≡ heap_objects rows_behind
  objects_behind = ends.objects ∙ sym (objects_handed_back os to over (map (returned rows s.instances lent) rows) ∙ ap (given_to to os) (objects_returned rows s.instances lent rows ∙ sym same))

  -- the row that a row was
  record Came (o : ℕ) (z : HeapRow) : Type 0 where
    row : HeapRow
    is : row_of rows o ≡ Some row
    now : z ≡ became row

  came : (o : ℕ) (z : HeapRow) → row_of rows_behind o ≡ Some z → Came o z
  came o z there = go (row_of rows o) refl
    where
      at : row_of rows_behind o ≡ handed_back os to over (returned rows s.instances lent (row_of rows o))
      at = row_of_map (handed_back os to over) refl (map (returned rows s.instances lent) rows) o ∙ ap (handed_back os to over) (row_of_map (returned rows s.instances lent) refl rows o)

      go : (x : Option HeapRow) → row_of rows o ≡ x → Came o z
      go None is = absurd (let e : ◌≡◌ {A = Option HeapRow} None (Some z) = sym (at ∙ ap (λ x. handed_back os to over (returned rows s.instances lent x)) is) ∙ there in cc)
      go (Some r) is = record { row = r; is = is; now = let e : Some (became r) ≡ Some z = sym (at ∙ ap (λ x. handed_back os to over (returned rows s.instances lent x)) is) ∙ there in cc }

  -- a root is listed where it is doomed
  module _ (o : ℕ) (z : HeapRow) (w : Owner) (there : row_of rows_behind o ≡ Some z) (root : z.object.placement ≡ Root w) (doomed : is_doomed made z.object ≡ (has_ended made w && (loans made o == 0)))
      (others : has (lent ++ os) o ≡ false → is_doomed made z.object ≡ false) where
    abbrev c : Came o z
    c = came o z there

    abbrev lost : Bool
    lost = is_let_go rows s.instances lent o

    abbrev lost_above : Bool
    lost_above = is_let_go_at rows s.instances lent c.row.object.placement

    abbrev hangs : Bool
    hangs = hangs_in_one os c.row.object.placement

    number : c.row.object.number ≡ o
    number = numbered o c.row c.is

    ended_over : has_ended made w ≡ is_over_for s.instances w
    ended_over = over_ended made w ∙ ap (λ instances. is_over_for instances w) ends.instances

    leaves_is : z.leaves ≡ shape over (has os o) hangs lost lost_above false
    leaves_is =
        ap (λ (x : HeapRow). x.leaves) c.now
        ∙ ap (λ n. shape over (has os n) hangs (is_let_go rows s.instances lent n) lost_above c.row.leaves) number
        ∙ ap (shape over (has os o) hangs lost lost_above) (agrees o c.row c.is).stays

    same_row : (v : Owner) (r : RootRow rows o v) → c.row.object.placement ≡ Root v
    same_row v r = (let e : ◌≡◌ {A = Option HeapRow} (Some c.row) (Some r.row) = sym c.is ∙ r.is in let same : c.row ≡ r.row = cc in ap (λ (x : HeapRow). x.object.placement) same ∙ r.root)

    object_is : (b : Bool) → has os o ≡ b → z.object ≡ (if b then owned_by to c.row.object else c.row.object)
    object_is b is = ap (λ (x : HeapRow). x.object) c.now ∙ passed_there to os c.row.object b (ap (has os) number ∙ is)

    passed_dooms : has os o ≡ true → is_doomed made z.object ≡ z.leaves
    passed_dooms mine =
        let f = ends.free o mine in
        let here : c.row.object.placement ≡ Root f.0 = same_row f.0 (root_row rows numbered s same o f.0 f.1) in
        let falls = ends.falls o in
        let unlent : has lent o ≡ false = false_from_ne_true (has lent o) (λ is. (let some = has_counted lent o is in omega (arith, falls, some, f.2))) in
        let none : lost ≡ false = ap (λ b. (b && (loans_at rows o == count o lent)) && option_map_or (is_over_for s.instances) (root_owner rows o) false) unlent in
        let none_above : lost_above ≡ false = ap (is_let_go_at rows s.instances lent) here in
        let listed : shape over (has os o) hangs lost lost_above false ≡ over =
        ap (λ b. shape over b hangs lost lost_above false) mine ∙ (ap (λ b. shape over true hangs b lost_above false) none ∙ (ap (λ b. shape over true hangs false b false) none_above ∙ shape_passed over hangs)) in
        let to_w : to ≡ w = same_owner to w (sym (ap (λ (x : Object). x.placement) (object_is true mine)) ∙ root) in
        let freed : (has_ended made w && (loans made o == 0)) ≡ over =
        ap (λ b. has_ended made w && b) (eq-eqb (loans made o) 0 (omega (arith, falls, f.2))) ∙ (and_true (has_ended made w) ∙ (ended_over ∙ (ap (is_over_for s.instances) (sym to_w) ∙ sym is_over))) in
        doomed ∙ (freed ∙ sym (leaves_is ∙ listed))

    kept_dooms : has os o ≡ false → is_doomed made z.object ≡ z.leaves
    kept_dooms mine = elim (cases_Bool (has lent o)) [
      | inl was_lent ↦
          let first : lost ≡ ((loans s o == count o lent) && is_over_for s.instances w) =
          ap (λ b. (b && (loans_at rows o == count o lent)) && option_map_or (is_over_for s.instances) (root_owner rows o) false) was_lent
          ∙ (ap (λ n. (n == count o lent) && option_map_or (is_over_for s.instances) (root_owner rows o) false) (loans_here L s rows numbered same agrees o w here_row)
          ∙ ap (λ x. (loans s o == count o lent) && option_map_or (is_over_for s.instances) x false) (owner_of_root rows o w here_row)) in
          let last : lost ≡ (is_over_for s.instances w && (loans made o == 0)) = first ∙ lost_last (loans s o) (count o lent) (loans made o) (is_over_for s.instances w) (ends.falls o) in
          doomed ∙ (ap (λ b. b && (loans made o == 0)) ended_over ∙ sym (leaves_is ∙ (listed ∙ last)))
      | inr unlent ↦
          let none : lost ≡ false = ap (λ b. (b && (loans_at rows o == count o lent)) && option_map_or (is_over_for s.instances) (root_owner rows o) false) unlent in
          others (has_front lent os o unlent mine) ∙ sym (leaves_is ∙ (listed ∙ none))
    ]
      where
        here : c.row.object.placement ≡ Root w
        here = sym (ap (λ (x : Object). x.placement) (object_is false mine)) ∙ root

        here_row : RootRow rows o w
        here_row = record { row = c.row; is = c.is; root = here }

        listed : shape over (has os o) hangs lost lost_above false ≡ lost
        listed =
            ap (λ b. shape over b hangs lost lost_above false) mine ∙ (ap (λ b. shape over false b lost lost_above false) (ap (hangs_in_one os) here)
            ∙ (ap (λ b. shape over false false lost b false) (ap (is_let_go_at rows s.instances lent) here) ∙ shape_kept over lost))

    root_dooms : is_doomed made z.object ≡ z.leaves
    root_dooms = elim (cases_Bool (has os o)) [
      | inl mine ↦ passed_dooms mine
      | inr mine ↦ kept_dooms mine
    ]

  -- each object is listed where it is doomed: what hangs is with its root
  module _ (v : HeapValue) (is_heap : IsHeapOf v) (rows_are : v.rows ≡ rows_behind) where
    pub numbered_behind : IsNumbered rows_behind
    numbered_behind = subst IsNumbered rows_are is_heap.numbered

    there_behind : (o : ℕ) (z : HeapRow) → row_of rows_behind o ≡ Some z → object_of made z.object.number ≡ Some z.object
    there_behind o z there = row_found rows_behind numbered_behind made objects_behind o z there

    roots_doom : (o : ℕ) (z : HeapRow) (w : Owner) → row_of rows_behind o ≡ Some z → z.object.placement ≡ Root w → is_doomed made z.object ≡ z.leaves
    roots_doom o z w there root =
        let number : z.object.number ≡ o = numbered_behind o z there in
        root_dooms o z w there root
        (ends.among.roots z.object w (there_behind o z there) root ∙ ap (λ n. has_ended made w && (loans made n == 0)) number)
        (λ out. ends.among.others z.object w (there_behind o z there) root (ap (has (lent ++ os)) number ∙ out))

    hung_doom : (o p k : ℕ) (z : HeapRow) → row_of rows_behind o ≡ Some z → z.object.placement ≡ Hung p k → is_doomed made z.object ≡ z.leaves
    hung_doom o p k z there hung =
        let with_parent : GoesWithParent made z.object p = ends.among.hung z.object p k (there_behind o z there) hung in
        let above = root_row rows_behind numbered_behind made objects_behind p with_parent.owner with_parent.root in
        let found = found_row rows_behind numbered_behind made objects_behind p with_parent.root.0 with_parent.root.1 in
        let well : HangsWell v.rows z p k = is_heap.hung o p k z (ap (λ rows. row_of rows o) rows_are ∙ there) hung in
        let listed = (well.with_parent found.row (ap (λ rows. row_of rows p) rows_are ∙ found.is)).2 in
        with_parent.same ∙ (ap (is_doomed made) (sym found.object)
        ∙ (roots_doom p found.row with_parent.owner found.is (ap (λ (x : Object). x.placement) found.object ∙ with_parent.root.2) ∙ sym listed))

    pub each_dooms : (o : ℕ) (z : HeapRow) → row_of rows_behind o ≡ Some z → is_doomed made z.object ≡ z.leaves
    each_dooms o z there = go z.object.placement refl
      where
        go : (place : Placement) → z.object.placement ≡ place → is_doomed made z.object ≡ z.leaves
        go (Root w) is = roots_doom o z w there is
        go (Hung p k) is = hung_doom o p k z there is

  -- what the heap keeps beside the objects is told of the state
  pub tells_behind : (o : ℕ) (z : HeapRow) → row_of rows_behind o ≡ Some z → TellsAt L made o z
  tells_behind o z there =
      let c' = came o z there in
      let at = agrees o c'.row c'.is in
      let number : c'.row.object.number ≡ o = numbered o c'.row c'.is in
      let falls = ends.falls o in
      let less : z.loans ≡ c'.row.loans - count o lent = ap (λ (x : HeapRow). x.loans) c'.now ∙ ap (λ n. c'.row.loans - count n lent) number in
      let was : c'.row.loans ≡ loans s o = at.lent in
      record {
        lent = omega (arith, less, was, falls);
        nests = ap (λ (x : HeapRow). x.nests) c'.now ∙ (at.nests ∙ ap (λ ty. list_any is_rref (cells_of L.tables ty)) (sym (ap (λ (x : HeapRow). x.object.ty) c'.now ∙ ty_kept (has os c'.row.object.number) c'.row.object)));
      }
    where
      ty_kept : (b : Bool) (x : Object) → (if b then owned_by to x else x).ty ≡ x.ty
      ty_kept true x = refl
      ty_kept false x = refl

-- ---- a frame that ends

module _ (known : Known) {w : Inside} (k : IsKept w) (e : Entry) (may : MayStep (kept w) (thread_of e)) (made : State) (makes : Row w.load (state_of w) e made) (is_heap : IsHeapOf w.heap) (lent os : List ℕ) (to : Owner) (over : Bool)
    (ends : FrameEnds (state_of w) made lent os to) (is_over : over ≡ is_over_for w.instances to) (heap : HeapValue) (behind : IsHeapOf heap)
    (heap_is : heap ≡ record w.heap { rows = map (handed_back os to over) (map (returned w.heap.rows w.instances lent) w.heap.rows) }) where
  rows_are : heap.rows ≡ map (handed_back os to over) (map (returned w.heap.rows w.instances lent) w.heap.rows)
  rows_are = ap (λ (v : HeapValue). v.rows) heap_is

  numbered_after : IsNumbered (map (handed_back os to over) (map (returned w.heap.rows w.instances lent) w.heap.rows))
  numbered_after = numbered_behind w.load (state_of w) made lent os to over w.heap.rows is_heap.numbered refl k.agrees ends is_over heap behind rows_are

  objects_after : made.objects ≡ heap_objects (map (handed_back os to over) (map (returned w.heap.rows w.instances lent) w.heap.rows))
  objects_after = objects_behind w.load (state_of w) made lent os to over w.heap.rows is_heap.numbered refl k.agrees ends is_over

  pub ending_frees : Frees made heap.rows
  ending_frees = subst (Frees made) (sym rows_are) (frees_listed known k e may made makes (map (handed_back os to over) (map (returned w.heap.rows w.instances lent) w.heap.rows)) numbered_after objects_after
      (dooms_by_rows (map (handed_back os to over) (map (returned w.heap.rows w.instances lent) w.heap.rows)) made numbered_after objects_after
      (each_dooms w.load (state_of w) made lent os to over w.heap.rows is_heap.numbered refl k.agrees ends is_over heap behind rows_are)))

  pub ending_tells : (o : ℕ) (r : HeapRow) → row_of heap.rows o ≡ Some r → TellsAt w.load made o r
  ending_tells o r there = tells_behind w.load (state_of w) made lent os to over w.heap.rows is_heap.numbered refl k.agrees ends is_over o r (sym (ap (λ rows. row_of rows o) rows_are) ∙ there)

  pub ending_rooms : KeepsRooms w.heap heap
  ending_rooms = record {
    clients = ap (λ (v : HeapValue). v.clients) heap_is;
    instances = ap (λ (v : HeapValue). v.instances) heap_is;
    long = ap length rows_are ∙ (length-map (map (returned w.heap.rows w.instances lent) w.heap.rows) (handed_back os to over) ∙ length-map w.heap.rows (returned w.heap.rows w.instances lent));
  }

-- where nothing passes on, the objects stay as they were
pub none_given : (to : Owner) (objects : List Object) → given_to to [] objects ≡ objects
none_given to [] = refl
none_given to (x ∷ objects) = ap (λ xs. x ∷ xs) (none_given to objects)
