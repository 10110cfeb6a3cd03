-- What a refused call does to the rows of a heap, one by one.
use Rattle.std.proofs.Common.{◌≡◌, refl, sym, ◌∙◌, ap, subst, ℕ, ◌+◌, ◌<◌, ◌==◌, ◌||◌, Bool, true, false, is_some, if◌then◌else◌, List, [], ◌∷◌, ◌++◌, length, map, take, Option, Some, None, All}
use Rattle.std.specs.List.{slice_index_or}
use Rattle.std.specs.Option.{option_map_or}
use Rattle.std.proofs.lemmas.List.{take_more}
use Rattle.machine_defs.specs.declared.values.Arg.{Arg}
use Rattle.machine_defs.specs.declared.values.Arg.TheVariants as arg
use Rattle.machine_defs.specs.State.{Placement, Root, Hung}
use Rattle.machine_defs.specs.Arguments.{has, moved_of, moved_by}
use Rattle.machine_defs.specs.NativeFits.{are_distinct}
use Rattle.rref_heap.specs.HeapValue.{HeapRow, HeapValue, row_of, owner_in, owner_at}
use Rattle.rref_heap.specs.Changing.{unless, with_leaving, hangs_below}
use Rattle.rref_heap.specs.Kept.{IsHeapOf}
use Rattle.proxies.specs.Objects.{given_up, hangs_in_one, IsFree}
use Rattle.proxies.proofs.Rows.{map_then, map_none, row_of_map, has_one_more, none_before}
use Rattle.proxies.proofs.Handing.{moved_same, moved_more, moved_free}

-- a row that stays, with its mark for the sweep
abbrev marked : Bool → HeapRow → HeapRow
marked b r = record r { leaves = b || r.leaves }

swap : (q p l : Bool) → (q || (p || l)) ≡ ((p || q) || l)
swap true true l = refl
swap true false l = refl
swap false true l = refl
swap false false l = refl

pub hung_more : (os : List ℕ) (o : ℕ) (at : Placement) → hangs_in_one (os ++ o ∷ []) at ≡ (hangs_in_one os at || hangs_below o at)
hung_more os o (Root w) = refl
hung_more os o (Hung parent place) = has_one_more os o parent

pub none_hang : (at : Placement) → hangs_in_one [] at ≡ false
none_hang (Root w) = refl
none_hang (Hung parent place) = refl

unless_if : (h : Bool) (o : ℕ) (p : Bool) (r : HeapRow) → unless o (if h then None else Some (marked p r)) ≡ (if h then None else (if r.object.number == o then None else Some (marked p r)))
unless_if true o p r = refl
unless_if false o p r = refl

drops_row : (h e p : Bool) (o : ℕ) (r : HeapRow) → (r.object.number == o) ≡ e → with_leaving o (if h then None else (if e then None else Some (marked p r))) ≡ (if h || e then None else Some (marked (p || hangs_below o r.object.placement) r))
drops_row true e p o r is = refl
drops_row false true p o r is = refl
drops_row false false p o r is =
    let q = hangs_below o r.object.placement in
    ap (λ b. Some (record r { leaves = b })) (ap (λ c. (c || q) || (p || r.leaves)) is ∙ swap q p r.leaves)

given_up_more : (os : List ℕ) (o : ℕ) (x : Option HeapRow) → with_leaving o (unless o (given_up os x)) ≡ given_up (os ++ o ∷ []) x
given_up_more os o None = refl
given_up_more os o (Some r) =
    let h = has os r.object.number in
    let p = hangs_in_one os r.object.placement in
    let q = hangs_below o r.object.placement in
    ap (with_leaving o) (unless_if h o p r)
    ∙ (drops_row h (r.object.number == o) p o r refl
    ∙ (ap (λ b. if b then None else Some (marked (p || q) r)) (sym (has_one_more os o r.object.number))
    ∙ ap (λ b. if has (os ++ o ∷ []) r.object.number then None else Some (marked b r)) (sym (hung_more os o r.object.placement))))

given_up_nothing : (x : Option HeapRow) → given_up [] x ≡ x
given_up_nothing None = refl
given_up_nothing (Some r) = ap (λ b. Some (marked b r)) (none_hang r.object.placement)

-- the heap once some objects were given up
abbrev pub GivenUp : HeapValue → List ℕ → HeapValue → Type 0
GivenUp v os w = w ≡ record v { rows = map (given_up os) v.rows }

pub gives_none : (v : HeapValue) → GivenUp v [] v
gives_none v = ap (λ rows. record v { rows = rows }) (sym (map_none (given_up []) v.rows given_up_nothing))

next_moved : (args : List Arg) (i : ℕ) → i < length args → moved_of (take (i + 1) args) ≡ moved_of (take i args ++ slice_index_or args i (arg.Num 0) ∷ [])
next_moved args i lt = ap moved_of (take_more args i (arg.Num 0) lt)

pub gives_up : (v w z : HeapValue) (args : List Arg) (i o : ℕ) → GivenUp v (moved_of (take i args)) w → i < length args → slice_index_or args i (arg.Num 0) ≡ arg.Moved o → z ≡ record w { rows = map (with_leaving o) (map (unless o) w.rows) } → GivenUp v (moved_of (take (i + 1) args)) z
gives_up v w z args i o so_far lt is drops =
    let os = moved_of (take i args) in
    let more = next_moved args i lt ∙ (ap (λ a. moved_of (take i args ++ a ∷ [])) is ∙ moved_more (take i args) o) in
    drops
    ∙ (ap (λ (u : HeapValue). record u { rows = map (with_leaving o) (map (unless o) u.rows) }) so_far
    ∙ ap (λ rows. record v { rows = rows })
    (ap (map (with_leaving o)) (map_then (unless o) (given_up os) (λ x. unless o (given_up os x)) v.rows (λ x. refl))
    ∙ (map_then (with_leaving o) (λ x. unless o (given_up os x)) (given_up (os ++ o ∷ [])) v.rows (given_up_more os o)
    ∙ ap (λ xs. map (given_up xs) v.rows) (sym more))))

pub gives_other : (v w : HeapValue) (args : List Arg) (i : ℕ) → GivenUp v (moved_of (take i args)) w → i < length args → moved_by (slice_index_or args i (arg.Num 0)) ≡ None → GivenUp v (moved_of (take (i + 1) args)) w
gives_other v w args i so_far lt none =
    so_far ∙ ap (λ xs. record v { rows = map (given_up xs) v.rows }) (sym (next_moved args i lt ∙ moved_same (take i args) (slice_index_or args i (arg.Num 0)) none))

pub no_object : (a : Arg) → ((o : ℕ) → a ≡ arg.Moved o → ⊥) → moved_by a ≡ None
no_object (arg.Num n) m = refl
no_object (arg.Moved o) m = absurd (m o refl)
no_object (arg.Lent o) m = refl
no_object (arg.Cap x) m = refl

-- what wasn't given up yet is as free as before
abbrev FreeIn : Option HeapRow → Type 0
FreeIn x = (is_some (owner_in x) ≡ true) × (option_map_or (λ r. r.loans) x 0 ≡ 0) × (option_map_or (λ r. r.leaves) x false ≡ false)

unmarked : (os : List ℕ) (at : Placement) (l : Bool) → is_some (owner_at at) ≡ true → l ≡ false → (hangs_in_one os at || l) ≡ false
unmarked os (Root w) l root stays = stays
unmarked os (Hung parent place) l root stays = cc

free_row : (os : List ℕ) (o : ℕ) (x : Option HeapRow) → has os o ≡ false → ((r : HeapRow) → x ≡ Some r → r.object.number ≡ o) → FreeIn x → FreeIn (given_up os x)
free_row os o None apart numbered free = free
free_row os o (Some r) apart numbered free =
    let e : has os r.object.number ≡ false = ap (has os) (numbered r refl) ∙ apart in
    subst (λ b. FreeIn (if b then None else Some (marked (hangs_in_one os r.object.placement) r))) (sym e) (free.0, free.1, unmarked os r.object.placement r.leaves free.0 free.2)

pub stays_free : (v w : HeapValue) (args : List Arg) (i o : ℕ) → GivenUp v (moved_of (take i args)) w → IsHeapOf v → All (IsFree v.rows) (moved_of args) → are_distinct (moved_of args) ≡ true → i < length args → slice_index_or args i (arg.Num 0) ≡ arg.Moved o → IsFree w.rows o
stays_free v w args i o so_far keeps all once lt is =
    let free = moved_free v.rows args i o all lt is in
    let apart = none_before moved_by args i (arg.Num 0) o lt (ap moved_by is) once in
    let at = ap (λ (u : HeapValue). row_of u.rows o) so_far ∙ row_of_map (given_up (moved_of (take i args))) v.rows o refl in
    let all_three = subst FreeIn (sym at) (free_row (moved_of (take i args)) o (row_of v.rows o) apart (keeps.numbered o) (free.root, free.unlent, free.stays)) in
    record { root = all_three.0; unlent = all_three.1; stays = all_three.2 }
