-- What results do to the rows of a heap, one by one.
use Rattle.std.proofs.Common.{◌≡◌, refl, sym, ◌∙◌, ap, subst, ℕ, ◌+◌, ◌<◌, ◌==◌, ◌||◌, ◌&&◌, Bool, true, false, is_some, if◌then◌else◌, List, [], ◌∷◌, ◌++◌, length, map, take, Option, Some, None, All}
use Rattle.std.specs.List.{slice_index_or}
use Rattle.std.specs.Option.{option_map_or}
use Rattle.std.proofs.lemmas.List.{take_more}
use Rattle.machine_defs.specs.declared.values.Owner.{Owner}
use Rattle.rl_defs.specs.declared.values.Value.{Value}
use Rattle.rl_defs.specs.declared.values.Value.TheVariants as value
use Rattle.machine_defs.specs.Objects.{owned_by}
use Rattle.machine_defs.specs.Arguments.{has, objects_in, object_of_value}
use Rattle.rref_heap.specs.HeapValue.{HeapRow, HeapRows, HeapValue, row_of, owner_in}
use Rattle.rref_heap.specs.Changing.{on_object, with_object, with_leaving, leaving_if, hangs_below}
use Rattle.proxies.specs.Objects.{handed_back, hangs_in_one, IsUnlent}
use Rattle.proxies.proofs.Rows.{map_then, map_none, row_of_map, has_one_more, given_more, all_has, has_at}
use Rattle.proxies.proofs.Handing.{append_none}
use Rattle.proxies.proofs.GivingUp.{hung_more, none_hang}

-- a row once it has passed, or not, with its mark for the sweep
abbrev back : Bool → Bool → Owner → HeapRow → HeapRow
back b m to r = record r { object = if b then owned_by to r.object else r.object; leaves = m || r.leaves }

-- the mark is made, or not
abbrev pub mark : Bool → ℕ → Option HeapRow → Option HeapRow
mark true o x = with_leaving o x
mark false o x = x

pub leaving_is_mark : (b : Bool) (o : ℕ) (rows : HeapRows) → leaving_if b o rows ≡ map (mark b o) rows
leaving_is_mark true o rows = refl
leaving_is_mark false o rows = sym (map_none (mark false o) rows (λ x. refl))

swaps : (p q l : Bool) → (q || (p || l)) ≡ ((p || q) || l)
swaps true true l = refl
swaps true false l = refl
swaps false true l = refl
swaps false false l = refl

-- one row: it has passed already or not (b), hangs in what has passed or not (p), and passes now or not (e)
marks_row : (b e p : Bool) (to : Owner) (o : ℕ) (r : HeapRow) → (r.object.number == o) ≡ e → with_leaving o (Some (if e then with_object (owned_by to) (back b (b || p) to r) else back b (b || p) to r)) ≡ Some (back (b || e) ((b || e) || (p || hangs_below o r.object.placement)) to r)
marks_row true true p to o r is = ap (λ c. Some (record (back true true to r) { leaves = (c || false) || true })) is
marks_row true false p to o r is = ap (λ c. Some (record (back true true to r) { leaves = (c || false) || true })) is
marks_row false true p to o r is = ap (λ c. Some (record (back true true to r) { leaves = (c || false) || (p || r.leaves) })) is
marks_row false false p to o r is =
    ap (λ k. Some (record r { leaves = k })) (ap (λ c. (c || hangs_below o r.object.placement) || (p || r.leaves)) is ∙ swaps p (hangs_below o r.object.placement) r.leaves)

passes_row : (b e : Bool) (to : Owner) (r : HeapRow) → (if e then with_object (owned_by to) (back b false to r) else back b false to r) ≡ back (b || e) false to r
passes_row true true to r = refl
passes_row true false to r = refl
passes_row false true to r = refl
passes_row false false to r = refl

back_number : (b m : Bool) (to : Owner) (r : HeapRow) → (back b m to r).object.number ≡ r.object.number
back_number true m to r = refl
back_number false m to r = refl

handed_back_more : (os : List ℕ) (to : Owner) (ended : Bool) (o : ℕ) (x : Option HeapRow) → mark ended o (on_object o (owned_by to) (handed_back os to ended x)) ≡ handed_back (os ++ o ∷ []) to ended x
handed_back_more os to true o None = refl
handed_back_more os to false o None = refl
handed_back_more os to true o (Some r) =
    let n = r.object.number in
    let b = has os n in
    let p = hangs_in_one os r.object.placement in
    let row = back b (b || p) to r in
    ap (λ m. with_leaving o (Some (if m == o then with_object (owned_by to) row else row))) (back_number b (b || p) to r)
    ∙ (marks_row b (n == o) p to o r refl
    ∙ (ap (λ h. Some (back h (h || (p || hangs_below o r.object.placement)) to r)) (sym (has_one_more os o n))
    ∙ ap (λ q. Some (back (has (os ++ o ∷ []) n) (has (os ++ o ∷ []) n || q) to r)) (sym (hung_more os o r.object.placement))))
handed_back_more os to false o (Some r) =
    let n = r.object.number in
    let b = has os n in
    let row = back b false to r in
    ap (λ m. Some (if m == o then with_object (owned_by to) row else row)) (back_number b false to r)
    ∙ (ap Some (passes_row b (n == o) to r)
    ∙ ap (λ h. Some (back h false to r)) (sym (has_one_more os o n)))

handed_back_nothing : (to : Owner) (ended : Bool) (x : Option HeapRow) → handed_back [] to ended x ≡ x
handed_back_nothing to ended None = refl
handed_back_nothing to true (Some r) = ap (λ m. Some (record r { leaves = m || r.leaves })) (none_hang r.object.placement)
handed_back_nothing to false (Some r) = refl

-- the heap behind some of the results
abbrev pub HandedBack : HeapValue → List ℕ → Owner → Bool → HeapValue → Type 0
HandedBack v os to ended w = w ≡ record v { rows = map (handed_back os to ended) v.rows }

pub back_none : (v : HeapValue) (to : Owner) (ended : Bool) → HandedBack v [] to ended v
back_none v to ended = ap (λ rows. record v { rows = rows }) (sym (map_none (handed_back [] to ended) v.rows (handed_back_nothing to ended)))

next_result : (values : List Value) (i : ℕ) → i < length values → objects_in (take (i + 1) values) ≡ objects_in (take i values ++ slice_index_or values i (value.Num 0) ∷ [])
next_result values i lt = ap objects_in (take_more values i (value.Num 0) lt)

pub back_object : (v w z : HeapValue) (values : List Value) (to : Owner) (ended : Bool) (i o : ℕ) → HandedBack v (objects_in (take i values)) to ended w → i < length values → slice_index_or values i (value.Num 0) ≡ value.Obj o → z ≡ record w { rows = leaving_if ended o (map (on_object o (owned_by to)) w.rows) } → HandedBack v (objects_in (take (i + 1) values)) to ended z
back_object v w z values to ended i o so_far lt is passes =
    let os = objects_in (take i values) in
    let more = next_result values i lt ∙ (ap (λ a. objects_in (take i values ++ a ∷ [])) is ∙ given_more object_of_value (take i values) (value.Obj o)) in
    passes
    ∙ (ap (λ (u : HeapValue). record u { rows = leaving_if ended o (map (on_object o (owned_by to)) u.rows) }) so_far
    ∙ ap (λ rows. record v { rows = rows })
    (leaving_is_mark ended o (map (on_object o (owned_by to)) (map (handed_back os to ended) v.rows))
    ∙ (ap (map (mark ended o)) (map_then (on_object o (owned_by to)) (handed_back os to ended) (λ x. on_object o (owned_by to) (handed_back os to ended x)) v.rows (λ x. refl))
    ∙ (map_then (mark ended o) (λ x. on_object o (owned_by to) (handed_back os to ended x)) (handed_back (os ++ o ∷ []) to ended) v.rows (handed_back_more os to ended o)
    ∙ ap (λ xs. map (handed_back xs to ended) v.rows) (sym more)))))

same_objects : (values : List Value) (x : Value) → object_of_value x ≡ None → objects_in (values ++ x ∷ []) ≡ objects_in values
same_objects values (value.Num n) none = given_more object_of_value values (value.Num n) ∙ append_none (objects_in values)
same_objects values (value.Obj o) none = cc
same_objects values (value.Cap x) none = given_more object_of_value values (value.Cap x) ∙ append_none (objects_in values)

pub back_other : (v w : HeapValue) (values : List Value) (to : Owner) (ended : Bool) (i : ℕ) → HandedBack v (objects_in (take i values)) to ended w → i < length values → object_of_value (slice_index_or values i (value.Num 0)) ≡ None → HandedBack v (objects_in (take (i + 1) values)) to ended w
back_other v w values to ended i so_far lt none =
    so_far ∙ ap (λ xs. record v { rows = map (handed_back xs to ended) v.rows }) (sym (next_result values i lt ∙ same_objects (take i values) (slice_index_or values i (value.Num 0)) none))

pub is_no_object : (x : Value) → ((o : ℕ) → x ≡ value.Obj o → ⊥) → object_of_value x ≡ None
is_no_object (value.Num n) m = refl
is_no_object (value.Obj o) m = absurd (m o refl)
is_no_object (value.Cap x) m = refl

-- a root stays one, and its loans stay
abbrev UnlentIn : Option HeapRow → Type 0
UnlentIn x = (is_some (owner_in x) ≡ true) × (option_map_or (λ r. r.loans) x 0 ≡ 0)

unlent_row : (b m : Bool) (to : Owner) (r : HeapRow) → UnlentIn (Some r) → UnlentIn (Some (back b m to r))
unlent_row true m to r unlent = (refl, unlent.1)
unlent_row false m to r unlent = unlent

unlent_back : (os : List ℕ) (to : Owner) (ended : Bool) (x : Option HeapRow) → UnlentIn x → UnlentIn (handed_back os to ended x)
unlent_back os to ended None unlent = unlent
unlent_back os to ended (Some r) unlent = unlent_row (has os r.object.number) (ended && (has os r.object.number || hangs_in_one os r.object.placement)) to r unlent

pub back_unlent : (v w : HeapValue) (values : List Value) (to : Owner) (ended : Bool) (i o : ℕ) → HandedBack v (objects_in (take i values)) to ended w → All (IsUnlent v.rows) (objects_in values) → i < length values → slice_index_or values i (value.Num 0) ≡ value.Obj o → IsUnlent w.rows o
back_unlent v w values to ended i o so_far all lt is =
    let unlent = all_has (IsUnlent v.rows) (objects_in values) o all (has_at object_of_value values i (value.Num 0) o lt (ap object_of_value is)) in
    let at = ap (λ (u : HeapValue). row_of u.rows o) so_far ∙ row_of_map (handed_back (objects_in (take i values)) to ended) v.rows o refl in
    let both = subst UnlentIn (sym at) (unlent_back (objects_in (take i values)) to ended (row_of v.rows o) (unlent.root, unlent.unlent)) in
    record { root = both.0; unlent = both.1 }
