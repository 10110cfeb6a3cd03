-- One object more in the heap, whose first cells are set.
use Rattle.std.proofs.Common.{◌≡◌, ◌≢◌, ℕ, zero, suc, ◌+◌, ◌-◌, ◌<◌, ◌⊎◌, List, [], ◌∷◌, ◌++◌, length, map, drop, replicate, Option, Some, None, refl, sym, ap, ap₂, subst, ◌∙◌, arith, inl, inr}
use Rattle.std.specs.List.{slice_index_or, list_any}
use Rattle.std.proofs.lemmas.Bool.{eq-eqb, ne_eqb}
use Rattle.std.proofs.lemmas.List.{drop-replicate, length-replicate, map-append}
use Rattle.rl_defs.specs.declared.load.LoadRows.{LoadRows}
use Rattle.rl_defs.specs.declared.tables.Kind.{Kind}
use Rattle.rl_defs.specs.CodeNames.{cells_of}
use Rattle.machine_defs.specs.declared.values.Owner.{Owner}
use Rattle.machine_defs.specs.State.{State, Object, Root}
use Rattle.machine_defs.specs.Loans.{loans, object_of}
use Rattle.machine_defs.specs.Objects.{fresh_object, overwritten, with_cells}
use Rattle.machine_defs.specs.Sound.{Sound}
use Rattle.machine_laws.proofs.Objects.{found_number}
use Rattle.rref_heap.specs.Changing.{new_row, on_row, on_object, with_new_object, with_object}
use Rattle.rref_heap.specs.HeapValue.{HeapRow, HeapRows, HeapValue, Room, cells_at, is_rref, room_of, row_of}
use Rattle.rref_heap.proofs.Objects.{IsNumbered, NumberedBehind, numbered_behind, numbered_head, numbered_tail}
use Rattle.machine_steps.specs.declared.machine.Machine.TheInside.{Inside}
use Rattle.machine_steps.specs.Inside.{state_of, IsKept}
use Rattle.machine_steps.specs.Kept.{Agrees, AgreesAt}
use Rattle.machine_steps.specs.Known.{Known}

-- ---- one row more

row_behind : (rows : HeapRows) (x : Option HeapRow) (j : ℕ) (r : HeapRow) → slice_index_or (rows ++ x ∷ []) j None ≡ Some r → (slice_index_or rows j None ≡ Some r) ⊎ ((j ≡ length rows) × (x ≡ Some r))
row_behind [] x zero r is = inr (refl, is)
row_behind [] x (suc j) r is = absurd cc
row_behind (y ∷ rows) x zero r is = inl is
row_behind (y ∷ rows) x (suc j) r is = elim (row_behind rows x j r is) [ inl old ↦ inl old | inr new ↦ inr (omega (arith, new.0), new.1) ]

row_either : (rows : HeapRows) (x : Option HeapRow) (o : ℕ) (r : HeapRow) → row_of (rows ++ x ∷ []) o ≡ Some r → (row_of rows o ≡ Some r) ⊎ ((o ≡ length rows + 1) × (x ≡ Some r))
row_either rows x zero r is = absurd cc
row_either rows x (suc j) r is = elim (row_behind rows x j r is) [ inl old ↦ inl old | inr new ↦ inr (omega (arith, new.0), new.1) ]

last_row : (rows : HeapRows) (x : Option HeapRow) → slice_index_or (rows ++ x ∷ []) (length rows) None ≡ x
last_row [] x = refl
last_row (y ∷ rows) x = last_row rows x

pub row_of_last : (rows : HeapRows) (x : Option HeapRow) → row_of (rows ++ x ∷ []) (length rows + 1) ≡ x
row_of_last rows x = let e : length rows + 1 ≡ suc (length rows) = omega arith in ap (row_of (rows ++ x ∷ [])) e ∙ last_row rows x

-- a change of the object of that number changes no other row
others_stay : (n o : ℕ) (f : HeapRow → HeapRow) (rows : HeapRows) → NumberedBehind n rows → n + length rows < o → map (on_row o f) rows ≡ rows
others_stay n o f [] numbered less = refl
others_stay n o f (None ∷ rows) numbered less = ap (λ (rs : HeapRows). None ∷ rs) (others_stay (suc n) o f rows (numbered_tail n None rows numbered) (omega (arith, less)))
others_stay n o f (Some r ∷ rows) numbered less =
    let is = numbered_head n r rows numbered in
    let apart : r.object.number ≢ o = λ e. omega (arith, is, e, less) in
    rw (ne_eqb r.object.number o apart) (ap (λ (rs : HeapRows). Some r ∷ rs) (others_stay (suc n) o f rows (numbered_tail n (Some r) rows numbered) (omega (arith, less))))

pub last_changed : (rows : HeapRows) → IsNumbered rows → (f : HeapRow → HeapRow) (r : HeapRow) → r.object.number ≡ length rows + 1 → map (on_row (length rows + 1) f) (rows ++ Some r ∷ []) ≡ rows ++ Some (f r) ∷ []
last_changed rows numbered f r is =
    let here : on_row (length rows + 1) f (Some r) ≡ Some (f r) = rw (eq-eqb r.object.number (length rows + 1) is) refl in
    map-append (on_row (length rows + 1) f) rows (Some r ∷ [])
    ∙ ap₂ (λ (xs : HeapRows) (x : Option HeapRow). xs ++ x ∷ []) (others_stay 0 (length rows + 1) f rows (numbered_behind rows numbered) (omega arith)) here

-- ---- the new object

-- its row, where its first cells have these values
abbrev pub row_with : ℕ → ℕ → Owner → List Kind → List ℕ → HeapRow
row_with o ty v kinds values = with_object (with_cells (overwritten 0 values)) (new_row o ty v (room_of kinds))

cells_with : (values : List ℕ) (n : ℕ) → overwritten 0 values (replicate n 0) ≡ values ++ replicate (n - length values) 0
cells_with values n =
    let e : 0 + length values ≡ length values = omega arith in
    ap (λ (p : ℕ). values ++ drop p (replicate n 0)) e ∙ ap (λ (xs : List ℕ). values ++ xs) (drop-replicate (length values) n 0)

abbrev object_with : ℕ → ℕ → Owner → List ℕ → Object
object_with o ty v cells = record { number = o; ty = ty; placement = Root v; cells = cells }

pub is_fresh : (L : LoadRows) (o ty : ℕ) (v : Owner) (kinds : List Kind) (values : List ℕ) → cells_of L.tables ty ≡ kinds → (row_with o ty v kinds values).object ≡ fresh_object L o ty v values
is_fresh L o ty v kinds values same =
    ap (object_with o ty v) (cells_with values (length kinds))
    ∙ ap (λ (ks : List Kind). object_with o ty v (values ++ replicate (length ks - length values) 0)) (sym same)

-- the heap with it
abbrev pub heap_with : HeapValue → ℕ → Owner → List Kind → List ℕ → HeapValue
heap_with heap ty v kinds values = record heap { rows = heap.rows ++ Some (row_with (length heap.rows + 1) ty v kinds values) ∷ []; ready = None }

abbrev pub blank_heap : HeapValue → ℕ → Owner → List Kind → HeapValue
blank_heap heap ty v kinds = record heap { rows = heap.rows ++ Some (new_row (length heap.rows + 1) ty v (room_of kinds)) ∷ []; ready = None }

module _ (heap : HeapValue) (ty : ℕ) (v : Owner) (kinds : List Kind) where
  pub made_blank : {ready made : HeapValue} → ready ≡ record heap { ready = Some (room_of kinds) } → made ≡ with_new_object ready ty v → made ≡ blank_heap heap ty v kinds
  made_blank reserved is = is ∙ ap (λ h. with_new_object h ty v) reserved

  pub blank_cells : length (cells_at (blank_heap heap ty v kinds).rows (length heap.rows + 1)) ≡ length kinds
  blank_cells = rw (row_of_last heap.rows (Some (new_row (length heap.rows + 1) ty v (room_of kinds)))) (length-replicate (length kinds) 0)

  pub set_with : IsNumbered heap.rows → {made set : HeapValue} {o : ℕ} {first values : List ℕ} → made ≡ blank_heap heap ty v kinds → o ≡ length heap.rows + 1 → first ≡ values
      → set ≡ record made { rows = map (on_object o (with_cells (overwritten 0 first))) made.rows } → set ≡ heap_with heap ty v kinds values
  set_with numbered {made} {set} {o} {first} {values} blank number same is =
      is
      ∙ (ap (λ (h : HeapValue). record h { rows = map (on_object o (with_cells (overwritten 0 first))) h.rows }) blank
      ∙ (ap₂ (λ (n : ℕ) (vs : List ℕ). record (blank_heap heap ty v kinds) { rows = map (on_object n (with_cells (overwritten 0 vs))) (blank_heap heap ty v kinds).rows }) number same
      ∙ ap (λ (rs : HeapRows). record (blank_heap heap ty v kinds) { rows = rs })
      (last_changed heap.rows numbered (with_object (with_cells (overwritten 0 values))) (new_row (length heap.rows + 1) ty v (room_of kinds)) refl)))

-- ---- what the state says of it

module _ (known : Known) {w : Inside} (k : IsKept w) where
  -- what isn't there yet isn't lent
  unlent_yet : loans (state_of w) (length w.heap.rows + 1) ≡ 0
  unlent_yet = go (loans (state_of w) (length w.heap.rows + 1)) refl
    where
      sound : Sound w.load (state_of w)
      sound = known.sound w.load w.log.entries (state_of w) k.valid k.run

      go : (n : ℕ) → loans (state_of w) (length w.heap.rows + 1) ≡ n → n ≡ 0
      go zero is = refl
      go (suc n) is =
          let root = sound.lent.roots (length w.heap.rows + 1) (omega (arith, is)) in
          let number : root.1.0.number ≡ length w.heap.rows + 1 = found_number (length w.heap.rows + 1) (state_of w).objects root.1.0 root.1.1 in
          let below = (sound.numbers.objects root.1.0 (ap (object_of (state_of w)) number ∙ root.1.1)).1 in
          absurd (omega (arith, number, below))

  pub agrees_with : (z : State) (ty : ℕ) (v : Owner) (kinds : List Kind) (values : List ℕ) → cells_of w.load.tables ty ≡ kinds → ((o : ℕ) → loans z o ≡ loans (state_of w) o)
      → Agrees w.load z (heap_with w.heap ty v kinds values).rows
  agrees_with z ty v kinds values same lent o r here = elim (row_either w.heap.rows (Some (row_with (length w.heap.rows + 1) ty v kinds values)) o r here) [
    | inl old ↦ let at = k.agrees o r old in record { lent = at.lent ∙ sym (lent o); nests = at.nests; stays = at.stays }
    | inr new ↦
        let is : row_with (length w.heap.rows + 1) ty v kinds values ≡ r = cc in
        let none : loans z o ≡ 0 = lent o ∙ (ap (loans (state_of w)) new.0 ∙ unlent_yet) in
        subst (AgreesAt w.load z o) is (record { lent = sym none; nests = ap (list_any is_rref) (sym same); stays = refl })
  ]

-- room that was reserved, or is no more, is nothing that a machine keeps
pub kept_reserving : {w : Inside} → IsKept w → {heap : HeapValue} (ready : Option Room) → heap ≡ record w.heap { ready = ready } → IsKept (record w { heap = heap })
kept_reserving {w} k ready is =
    subst (λ h. IsKept (record w { heap = h })) (sym is) (record {
      valid = k.valid;
      run = k.run;
      turns = k.turns;
      agrees = k.agrees;
      rooms = record { log = k.rooms.log; counts = k.rooms.counts; clients = k.rooms.clients; owners = k.rooms.owners };
      found = k.found;
      code = k.code;
    })
