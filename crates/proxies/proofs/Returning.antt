-- What the end of loans does to the rows of a heap, one by one.
use Rattle.std.proofs.Common.{◌≡◌, refl, sym, ◌∙◌, ap, subst, ℕ, ◌+◌, ◌-◌, ◌<◌, ◌==◌, ◌||◌, ◌&&◌, Bool, true, false, is_some, if◌then◌else◌, List, [], ◌∷◌, ◌++◌, length, map, take, Option, Some, None, All, arith, inl, inr}
use Rattle.std.specs.List.{slice_index_or}
use Rattle.std.specs.Option.{option_map_or}
use Rattle.std.proofs.Math.Bool.{or-true}
use Rattle.std.proofs.lemmas.Bool.{cases_Bool, eqb-true, eq-eqb, ne_eqb}
use Rattle.std.proofs.lemmas.List.{take_more}
use Rattle.machine_defs.specs.Loans.{count}
use Rattle.machine_defs.specs.State.{Instance, Placement, Root, Hung}
use Rattle.machine_defs.specs.Arguments.{has}
use Rattle.rref_heap.specs.HeapValue.{HeapRow, HeapRows, HeapValue, row_of, owner_in, IsRoot, loans_at, root_owner}
use Rattle.rref_heap.specs.Changing.{on_row, one_loan_less, leaving_if, hangs_below}
use Rattle.rref_heap.specs.Kept.{IsHeapOf}
use Rattle.proxies.specs.Objects.{returned, is_let_go, is_let_go_at, is_over_for, IsLent}
use Rattle.proxies.proofs.Rows.{map_then, map_none, row_of_map, has_one_more, count_one_more, all_has, has_there, counted_before, or_none}
use Rattle.proxies.proofs.HandingBack.{mark, leaving_is_mark}

-- a row that has lost loans, with its mark for the sweep
abbrev less : ℕ → Bool → HeapRow → HeapRow
less k m r = record r { loans = r.loans - k; leaves = m || r.leaves }

mix : (g a q e l : Bool) → ((e || q) || ((g || a) || l)) ≡ (((g || e) || (a || q)) || l)
mix true a true true l = refl
mix true a true false l = refl
mix true a false true l = refl
mix true a false false l = refl
mix false true true true l = refl
mix false true true false l = refl
mix false true false true l = refl
mix false true false false l = refl
mix false false true true l = refl
mix false false true false l = refl
mix false false false true l = refl
mix false false false false l = refl

none_more : (g a l : Bool) → ((g || a) || l) ≡ (((g || false) || (a || false)) || l)
none_more g a l = ap (λ x. (x || a) || l) (sym (or_none g)) ∙ ap (λ x. ((g || false) || x) || l) (sym (or_none a))

-- a loan that is the last, or not (b), ends
ends_row : (b e g a : Bool) (k o : ℕ) (r : HeapRow) → (r.object.number == o) ≡ e → mark b o (Some (if e then one_loan_less (less k (g || a) r) else less k (g || a) r)) ≡ Some (less (k + (if e then 1 else 0)) ((g || (b && e)) || (a || (b && hangs_below o r.object.placement))) r)
ends_row true true g a k o r is =
    let q = hangs_below o r.object.placement in
    let fewer : (r.loans - k) - 1 ≡ r.loans - (k + 1) = omega arith in
    ap (λ c. Some (record r { loans = (r.loans - k) - 1; leaves = (c || q) || ((g || a) || r.leaves) })) is
    ∙ (ap (λ m. Some (record r { loans = (r.loans - k) - 1; leaves = m })) (mix g a q true r.leaves)
    ∙ ap (λ n. Some (record r { loans = n; leaves = ((g || true) || (a || q)) || r.leaves })) fewer)
ends_row true false g a k o r is =
    let q = hangs_below o r.object.placement in
    let same : r.loans - k ≡ r.loans - (k + 0) = omega arith in
    ap (λ c. Some (record r { loans = r.loans - k; leaves = (c || q) || ((g || a) || r.leaves) })) is
    ∙ (ap (λ m. Some (record r { loans = r.loans - k; leaves = m })) (mix g a q false r.leaves)
    ∙ ap (λ n. Some (record r { loans = n; leaves = ((g || false) || (a || q)) || r.leaves })) same)
ends_row false true g a k o r is =
    let fewer : (r.loans - k) - 1 ≡ r.loans - (k + 1) = omega arith in
    ap (λ m. Some (record r { loans = (r.loans - k) - 1; leaves = m })) (none_more g a r.leaves)
    ∙ ap (λ n. Some (record r { loans = n; leaves = ((g || false) || (a || false)) || r.leaves })) fewer
ends_row false false g a k o r is =
    let same : r.loans - k ≡ r.loans - (k + 0) = omega arith in
    ap (λ m. Some (record r { loans = r.loans - k; leaves = m })) (none_more g a r.leaves)
    ∙ ap (λ n. Some (record r { loans = n; leaves = ((g || false) || (a || false)) || r.leaves })) same

-- which objects are let go once one loan more has ended
pub record EndsOne (rows : HeapRows) (instances : List Instance) (lent : List ℕ) (o : ℕ) (b : Bool) : Type 0 where
  pub left : count o lent < loans_at rows o
  pub last : b ≡ (option_map_or (is_over_for instances) (root_owner rows o) false && ((loans_at rows o - count o lent) == 1))

same_test : (m n : ℕ) → n < m → ((m - n) == 1) ≡ (m == n + 1)
same_test m n lt = elim (cases_Bool (m == n + 1)) [
  | inl is ↦ (let e = eqb-true m (n + 1) is in let f : m - n ≡ 1 = omega arith in eq-eqb (m - n) 1 f ∙ sym is)
  | inr is ↦ elim (cases_Bool ((m - n) == 1)) [
    | inl is' ↦ (let e = eqb-true (m - n) 1 is' in let f : m ≡ n + 1 = omega arith in let g = eq-eqb m (n + 1) f in let bad : true ≡ false = sym g ∙ is in cc)
    | inr is' ↦ is' ∙ sym is
  ]
]

unequal : (m n : ℕ) → n < m → (m == n) ≡ false
unequal m n lt = ne_eqb m n (λ e. omega arith)

and_swap : (a b : Bool) → (a && b) ≡ (b && a)
and_swap true true = refl
and_swap true false = refl
and_swap false true = refl
and_swap false false = refl

and_none : (a : Bool) → (a && false) ≡ false
and_none true = refl
and_none false = refl

-- of the object itself
let_go_itself : (rows : HeapRows) (instances : List Instance) (lent : List ℕ) (o : ℕ) (b : Bool) → EndsOne rows instances lent o b → is_let_go rows instances (lent ++ o ∷ []) o ≡ (is_let_go rows instances lent o || (b && true))
let_go_itself rows instances lent o b ends =
    let over = option_map_or (is_over_for instances) (root_owner rows o) false in
    let itself : (o == o) ≡ true = eq-eqb o o refl in
    let there : has (lent ++ o ∷ []) o ≡ true = has_one_more lent o o ∙ (ap (λ e. has lent o || e) itself ∙ or-true (has lent o)) in
    let counted : count o (lent ++ o ∷ []) ≡ count o lent + 1 = count_one_more lent o o ∙ ap (λ e. count o lent + (if e then 1 else 0)) itself in
    let after : is_let_go rows instances (lent ++ o ∷ []) o ≡ ((loans_at rows o == count o lent + 1) && over) =
    ap (λ h. (h && (loans_at rows o == count o (lent ++ o ∷ []))) && over) there ∙ ap (λ k. (loans_at rows o == k) && over) counted in
    let before : is_let_go rows instances lent o ≡ false =
    ap (λ t. (has lent o && t) && over) (unequal (loans_at rows o) (count o lent) ends.left) ∙ ap (λ t. t && over) (and_none (has lent o)) in
    let last : b ≡ ((loans_at rows o == count o lent + 1) && over) =
    ends.last ∙ (ap (λ t. over && t) (same_test (loans_at rows o) (count o lent) ends.left) ∙ and_swap over (loans_at rows o == count o lent + 1)) in
    let only : (b && true) ≡ b = and_swap b true in
    after ∙ (sym last ∙ (sym only ∙ ap (λ g. g || (b && true)) (sym before)))

let_go_more : (rows : HeapRows) (instances : List Instance) (lent : List ℕ) (o : ℕ) (b : Bool) (n : ℕ) → EndsOne rows instances lent o b → is_let_go rows instances (lent ++ o ∷ []) n ≡ (is_let_go rows instances lent n || (b && (n == o)))
let_go_more rows instances lent o b n ends = elim (cases_Bool (n == o)) [
  | inl is ↦ (let e : n ≡ o = eqb-true n o is in
      subst (λ m. is_let_go rows instances (lent ++ o ∷ []) m ≡ (is_let_go rows instances lent m || (b && (n == o)))) (sym e)
      (let_go_itself rows instances lent o b ends ∙ ap (λ t. is_let_go rows instances lent o || (b && t)) (sym is)))
  | inr is ↦ (let over = option_map_or (is_over_for instances) (root_owner rows n) false in
      let there : has (lent ++ o ∷ []) n ≡ has lent n = has_one_more lent o n ∙ (ap (λ e. has lent n || e) is ∙ or_none (has lent n)) in
      let zero' : count n lent + 0 ≡ count n lent = omega arith in
      let counted : count n (lent ++ o ∷ []) ≡ count n lent = count_one_more lent o n ∙ (ap (λ e. count n lent + (if e then 1 else 0)) is ∙ zero') in
      ap (λ h. (h && (loans_at rows n == count n (lent ++ o ∷ []))) && over) there
      ∙ (ap (λ k. (has lent n && (loans_at rows n == k)) && over) counted
      ∙ (sym (or_none (is_let_go rows instances lent n))
      ∙ (ap (λ t. is_let_go rows instances lent n || t) (sym (and_none b))
      ∙ ap (λ t. is_let_go rows instances lent n || (b && t)) (sym is)))))
]

let_go_at_more : (rows : HeapRows) (instances : List Instance) (lent : List ℕ) (o : ℕ) (b : Bool) (at : Placement) → EndsOne rows instances lent o b → is_let_go_at rows instances (lent ++ o ∷ []) at ≡ (is_let_go_at rows instances lent at || (b && hangs_below o at))
let_go_at_more rows instances lent o b (Root w) ends = sym (and_none b)
let_go_at_more rows instances lent o b (Hung parent place) ends = let_go_more rows instances lent o b parent ends

mark_none : (b : Bool) (o : ℕ) → mark b o None ≡ None
mark_none true o = refl
mark_none false o = refl

returned_more : (rows : HeapRows) (instances : List Instance) (lent : List ℕ) (o : ℕ) (b : Bool) (x : Option HeapRow) → EndsOne rows instances lent o b → mark b o (on_row o one_loan_less (returned rows instances lent x)) ≡ returned rows instances (lent ++ o ∷ []) x
returned_more rows instances lent o b None ends = mark_none b o
returned_more rows instances lent o b (Some r) ends =
    let n = r.object.number in
    let at = r.object.placement in
    let g = is_let_go rows instances lent n in
    let a = is_let_go_at rows instances lent at in
    ends_row b (n == o) g a (count n lent) o r refl
    ∙ (ap (λ k. Some (less k ((g || (b && (n == o))) || (a || (b && hangs_below o at))) r)) (sym (count_one_more lent o n))
    ∙ (ap (λ m. Some (less (count n (lent ++ o ∷ [])) (m || (a || (b && hangs_below o at))) r)) (sym (let_go_more rows instances lent o b n ends))
    ∙ ap (λ m. Some (less (count n (lent ++ o ∷ [])) (is_let_go rows instances (lent ++ o ∷ []) n || m) r)) (sym (let_go_at_more rows instances lent o b at ends))))

none_let_go_at : (rows : HeapRows) (instances : List Instance) (at : Placement) → is_let_go_at rows instances [] at ≡ false
none_let_go_at rows instances (Root w) = refl
none_let_go_at rows instances (Hung parent place) = refl

returned_nothing : (rows : HeapRows) (instances : List Instance) (x : Option HeapRow) → returned rows instances [] x ≡ x
returned_nothing rows instances None = refl
returned_nothing rows instances (Some r) =
    let same : r.loans - 0 ≡ r.loans = omega arith in
    ap (λ m. Some (record r { loans = r.loans - 0; leaves = m || r.leaves })) (none_let_go_at rows instances r.object.placement)
    ∙ ap (λ n. Some (record r { loans = n })) same

-- the heap once some of the loans have ended
abbrev pub Returned : HeapValue → List Instance → List ℕ → HeapValue → Type 0
Returned v instances lent w = w ≡ record v { rows = map (returned v.rows instances lent) v.rows }

pub returns_none : (v : HeapValue) (instances : List Instance) → Returned v instances [] v
returns_none v instances = ap (λ rows. record v { rows = rows }) (sym (map_none (returned v.rows instances []) v.rows (returned_nothing v.rows instances)))

-- an object behind the end of some loans
owner_returned : (rows : HeapRows) (instances : List Instance) (lent : List ℕ) (x : Option HeapRow) → owner_in (returned rows instances lent x) ≡ owner_in x
owner_returned rows instances lent None = refl
owner_returned rows instances lent (Some r) = refl

loans_returned : (rows : HeapRows) (instances : List Instance) (lent : List ℕ) (o : ℕ) (x : Option HeapRow) → is_some (owner_in x) ≡ true → ((r : HeapRow) → x ≡ Some r → r.object.number ≡ o) → option_map_or (λ r. r.loans) (returned rows instances lent x) 0 ≡ option_map_or (λ r. r.loans) x 0 - count o lent
loans_returned rows instances lent o None is numbered = cc
loans_returned rows instances lent o (Some r) is numbered = ap (λ n. r.loans - count n lent) (numbered r refl)

row_returned : (v w : HeapValue) (instances : List Instance) (lent : List ℕ) (o : ℕ) → Returned v instances lent w → row_of w.rows o ≡ returned v.rows instances lent (row_of v.rows o)
row_returned v w instances lent o so_far = ap (λ (u : HeapValue). row_of u.rows o) so_far ∙ row_of_map (returned v.rows instances lent) v.rows o refl

pub owner_same : (v w : HeapValue) (instances : List Instance) (lent : List ℕ) (o : ℕ) → Returned v instances lent w → root_owner w.rows o ≡ root_owner v.rows o
owner_same v w instances lent o so_far = ap owner_in (row_returned v w instances lent o so_far) ∙ owner_returned v.rows instances lent (row_of v.rows o)

pub loans_fall : (v w : HeapValue) (instances : List Instance) (lent : List ℕ) (o : ℕ) → Returned v instances lent w → IsHeapOf v → IsRoot v.rows o → loans_at w.rows o ≡ loans_at v.rows o - count o lent
loans_fall v w instances lent o so_far keeps root =
    ap (λ x. option_map_or (λ r. r.loans) x 0) (row_returned v w instances lent o so_far) ∙ loans_returned v.rows instances lent o (row_of v.rows o) root (keeps.numbered o)

pub lent_there : (rows : HeapRows) (lent : List ℕ) (i o : ℕ) → All (IsLent rows lent) lent → i < length lent → o ≡ slice_index_or lent i o → IsLent rows lent o
lent_there rows lent i o all lt is = all_has (IsLent rows lent) lent o all (has_there lent i o lt is)

pub still_root : (v w : HeapValue) (instances : List Instance) (lent : List ℕ) (i o : ℕ) → Returned v instances (take i lent) w → All (IsLent v.rows lent) lent → i < length lent → o ≡ slice_index_or lent i o → IsRoot w.rows o
still_root v w instances lent i o so_far all lt is =
    subst (λ x. is_some x ≡ true) (sym (owner_same v w instances (take i lent) o so_far)) (lent_there v.rows lent i o all lt is).root

pub still_lent : (v w : HeapValue) (instances : List Instance) (lent : List ℕ) (i o : ℕ) → Returned v instances (take i lent) w → IsHeapOf v → All (IsLent v.rows lent) lent → i < length lent → o ≡ slice_index_or lent i o → 0 < loans_at w.rows o
still_lent v w instances lent i o so_far keeps all lt is =
    let there = lent_there v.rows lent i o all lt is in
    let before = counted_before lent i o lt is in
    let counted = there.counted in
    let fall = loans_fall v w instances (take i lent) o so_far keeps there.root in
    omega arith

pub returns_one : (v w z : HeapValue) (instances : List Instance) (lent : List ℕ) (i o : ℕ) (ended b : Bool) → Returned v instances (take i lent) w → IsHeapOf v → All (IsLent v.rows lent) lent → i < length lent → o ≡ slice_index_or lent i o → ended ≡ option_map_or (is_over_for instances) (root_owner w.rows o) false → b ≡ (ended && (loans_at w.rows o == 1)) → z ≡ record w { rows = leaving_if b o (map (on_row o one_loan_less) w.rows) } → Returned v instances (take (i + 1) lent) z
returns_one v w z instances lent i o ended b so_far keeps all lt is over last gives =
    let there = lent_there v.rows lent i o all lt is in
    let before = counted_before lent i o lt is in
    let counted = there.counted in
    let front = take i lent in
    let fall = loans_fall v w instances front o so_far keeps there.root in
    let owner = ap (λ x. option_map_or (is_over_for instances) x false) (owner_same v w instances front o so_far) in
    let ends : EndsOne v.rows instances front o b = record {
      left = omega arith;
      last = last ∙ (ap (λ t. t && (loans_at w.rows o == 1)) (over ∙ owner) ∙ ap (λ k. option_map_or (is_over_for instances) (root_owner v.rows o) false && (k == 1)) fall);
    } in
    let more : take (i + 1) lent ≡ front ++ o ∷ [] = take_more lent i o lt ∙ ap (λ x. front ++ x ∷ []) (sym is) in
    gives
    ∙ (ap (λ (u : HeapValue). record u { rows = leaving_if b o (map (on_row o one_loan_less) u.rows) }) so_far
    ∙ ap (λ rows. record v { rows = rows })
    (leaving_is_mark b o (map (on_row o one_loan_less) (map (returned v.rows instances front) v.rows))
    ∙ (ap (map (mark b o)) (map_then (on_row o one_loan_less) (returned v.rows instances front) (λ x. on_row o one_loan_less (returned v.rows instances front x)) v.rows (λ x. refl))
    ∙ (map_then (mark b o) (λ x. on_row o one_loan_less (returned v.rows instances front x)) (returned v.rows instances (front ++ o ∷ [])) v.rows (λ x. returned_more v.rows instances front o b x ends)
    ∙ ap (λ xs. map (returned v.rows instances xs) v.rows) (sym more)))))
