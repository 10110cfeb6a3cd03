-- What arguments do to the rows of a heap, one by one.
use Rattle.std.proofs.Common.{◌≡◌, refl, sym, ◌∙◌, ap, subst, ℕ, ◌+◌, ◌<◌, ◌==◌, ◌||◌, Bool, true, false, is_some, if◌then◌else◌, List, [], ◌∷◌, ◌++◌, length, map, take, Option, Some, None, All, arith}
use Rattle.std.specs.List.{slice_index_or}
use Rattle.std.specs.Option.{option_map_or}
use Rattle.std.proofs.lemmas.List.{take_more}
use Rattle.machine_defs.specs.declared.values.Owner.{Owner}
use Rattle.machine_defs.specs.declared.values.Arg.{Arg}
use Rattle.machine_defs.specs.declared.values.Arg.TheVariants as arg
use Rattle.machine_defs.specs.Loans.{count}
use Rattle.machine_defs.specs.Objects.{owned_by}
use Rattle.machine_defs.specs.State.{Object}
use Rattle.machine_defs.specs.Arguments.{has, moved_of, lent_of, moved_by, lent_by}
use Rattle.rref_heap.specs.HeapValue.{HeapRow, HeapRows, HeapValue, row_of, owner_in, owner_at, IsRoot, loans_at}
use Rattle.rref_heap.specs.Changing.{on_row, on_object, with_object, one_loan_more}
use Rattle.rref_heap.specs.Kept.{IsHeapOf}
use Rattle.proxies.specs.Objects.{handed, MayGive, MayLend, IsFree}
use Rattle.proxies.proofs.Rows.{map_then, map_none, map_same, row_of_map, has_one_more, count_one_more, count_of_none, given_more, all_has, has_at, count_before, count_front}

-- a row once it has passed, or not, and gained loans
abbrev given : Bool → Owner → ℕ → HeapRow → HeapRow
given b to c r = record r { object = if b then owned_by to r.object else r.object; loans = r.loans + c }

given_number : (b : Bool) (to : Owner) (c : ℕ) (r : HeapRow) → (given b to c r).object.number ≡ r.object.number
given_number true to c r = refl
given_number false to c r = refl

moves_row : (b e : Bool) (to : Owner) (c : ℕ) (r : HeapRow) → (if e then with_object (owned_by to) (given b to c r) else given b to c r) ≡ given (b || e) to c r
moves_row true true to c r = refl
moves_row true false to c r = refl
moves_row false true to c r = refl
moves_row false false to c r = refl

lends_row : (b e : Bool) (to : Owner) (c : ℕ) (r : HeapRow) → (if e then one_loan_more (given b to c r) else given b to c r) ≡ given b to (c + (if e then 1 else 0)) r
lends_row b true to c r = let e : (r.loans + c) + 1 ≡ r.loans + (c + 1) = omega arith in ap (λ k. record (given b to c r) { loans = k }) e
lends_row b false to c r = let e : r.loans + c ≡ r.loans + (c + 0) = omega arith in ap (λ k. record (given b to c r) { loans = k }) e

same_given : (b e : Bool) (to : Owner) (c k : ℕ) (r : HeapRow) → b ≡ e → c ≡ k → given b to c r ≡ given e to k r
same_given b e to c k r h l = ap (λ x. given x to c r) h ∙ ap (λ x. given e to x r) l

-- one argument more
pub moved_more : (args : List Arg) (o : ℕ) → moved_of (args ++ arg.Moved o ∷ []) ≡ moved_of args ++ o ∷ []
moved_more args o = given_more moved_by args (arg.Moved o)

lent_more : (args : List Arg) (o : ℕ) → lent_of (args ++ arg.Lent o ∷ []) ≡ lent_of args ++ o ∷ []
lent_more args o = given_more lent_by args (arg.Lent o)

pub append_none : {A : Type 0} (xs : List A) → xs ++ [] ≡ xs
append_none [] = refl
append_none (x ∷ xs) = ap (λ ys. x ∷ ys) (append_none xs)

pub moved_same : (args : List Arg) (a : Arg) → moved_by a ≡ None → moved_of (args ++ a ∷ []) ≡ moved_of args
moved_same args (arg.Num n) no' = given_more moved_by args (arg.Num n) ∙ append_none (moved_of args)
moved_same args (arg.Moved o) no' = cc
moved_same args (arg.Lent o) no' = given_more moved_by args (arg.Lent o) ∙ append_none (moved_of args)
moved_same args (arg.Cap x) no' = given_more moved_by args (arg.Cap x) ∙ append_none (moved_of args)

lent_same : (args : List Arg) (a : Arg) → lent_by a ≡ None → lent_of (args ++ a ∷ []) ≡ lent_of args
lent_same args (arg.Num n) no' = given_more lent_by args (arg.Num n) ∙ append_none (lent_of args)
lent_same args (arg.Moved o) no' = given_more lent_by args (arg.Moved o) ∙ append_none (lent_of args)
lent_same args (arg.Lent o) no' = cc
lent_same args (arg.Cap x) no' = given_more lent_by args (arg.Cap x) ∙ append_none (lent_of args)

pub handed_nothing : (to : Owner) (x : Option HeapRow) → handed [] to x ≡ x
handed_nothing to None = refl
handed_nothing to (Some r) = let e : r.loans + 0 ≡ r.loans = omega arith in ap (λ k. Some (record r { loans = k })) e

handed_moved : (args : List Arg) (to : Owner) (o : ℕ) (x : Option HeapRow) → on_object o (owned_by to) (handed args to x) ≡ handed (args ++ arg.Moved o ∷ []) to x
handed_moved args to o None = refl
handed_moved args to o (Some r) =
    let n = r.object.number in
    let b = has (moved_of args) n in
    let c = count n (lent_of args) in
    let hs = ap (λ os. has os n) (moved_more args o) ∙ has_one_more (moved_of args) o n in
    let ls = ap (count n) (lent_same args (arg.Moved o) refl) in
    let at = ap (λ m. if m == o then with_object (owned_by to) (given b to c r) else given b to c r) (given_number b to c r) in
    ap Some (at ∙ (moves_row b (n == o) to c r ∙ same_given _ _ to _ _ r (sym hs) (sym ls)))

handed_lent : (args : List Arg) (to : Owner) (o : ℕ) (x : Option HeapRow) → on_row o one_loan_more (handed args to x) ≡ handed (args ++ arg.Lent o ∷ []) to x
handed_lent args to o None = refl
handed_lent args to o (Some r) =
    let n = r.object.number in
    let b = has (moved_of args) n in
    let c = count n (lent_of args) in
    let hs = ap (λ os. has os n) (moved_same args (arg.Lent o) refl) in
    let ls = ap (count n) (lent_more args o) ∙ count_one_more (lent_of args) o n in
    let at = ap (λ m. if m == o then one_loan_more (given b to c r) else given b to c r) (given_number b to c r) in
    ap Some (at ∙ (lends_row b (n == o) to c r ∙ same_given _ _ to _ _ r (sym hs) (sym ls)))

handed_other : (args : List Arg) (to : Owner) (a : Arg) (x : Option HeapRow) → moved_by a ≡ None → lent_by a ≡ None → handed args to x ≡ handed (args ++ a ∷ []) to x
handed_other args to a None m l = refl
handed_other args to a (Some r) m l =
    ap Some (same_given _ _ to _ _ r (ap (λ os. has os r.object.number) (sym (moved_same args a m))) (ap (count r.object.number) (sym (lent_same args a l))))

-- the heap behind some of the arguments
abbrev pub Handed : HeapValue → List Arg → Owner → HeapValue → Type 0
Handed v args to w = w ≡ record v { rows = map (handed args to) v.rows }

pub handed_start : (v : HeapValue) (to : Owner) → Handed v [] to v
handed_start v to = ap (λ rows. record v { rows = rows }) (sym (map_none (handed [] to) v.rows (handed_nothing to)))

next_args : (args : List Arg) (i : ℕ) (a : Arg) → i < length args → slice_index_or args i (arg.Num 0) ≡ a → take (i + 1) args ≡ take i args ++ a ∷ []
next_args args i a lt is = take_more args i (arg.Num 0) lt ∙ ap (λ x. take i args ++ x ∷ []) is

pub hands_moved : (v w z : HeapValue) (args : List Arg) (to : Owner) (i o : ℕ) → Handed v (take i args) to w → i < length args → slice_index_or args i (arg.Num 0) ≡ arg.Moved o → z ≡ record w { rows = map (on_object o (owned_by to)) w.rows } → Handed v (take (i + 1) args) to z
hands_moved v w z args to i o so_far lt is passes =
    let more = next_args args i _ lt is in
    passes
    ∙ (ap (λ (u : HeapValue). record u { rows = map (on_object o (owned_by to)) u.rows }) so_far
    ∙ ap (λ rows. record v { rows = rows }) (map_then (on_object o (owned_by to)) (handed (take i args) to) (handed (take i args ++ arg.Moved o ∷ []) to) v.rows (handed_moved (take i args) to o) ∙ ap (λ (xs : List Arg). map (handed xs to) v.rows) (sym more)))

pub hands_lent : (v w z : HeapValue) (args : List Arg) (to : Owner) (i o : ℕ) → Handed v (take i args) to w → i < length args → slice_index_or args i (arg.Num 0) ≡ arg.Lent o → z ≡ record w { rows = map (on_row o one_loan_more) w.rows } → Handed v (take (i + 1) args) to z
hands_lent v w z args to i o so_far lt is lends =
    let more = next_args args i _ lt is in
    lends
    ∙ (ap (λ (u : HeapValue). record u { rows = map (on_row o one_loan_more) u.rows }) so_far
    ∙ ap (λ rows. record v { rows = rows }) (map_then (on_row o one_loan_more) (handed (take i args) to) (handed (take i args ++ arg.Lent o ∷ []) to) v.rows (handed_lent (take i args) to o) ∙ ap (λ (xs : List Arg). map (handed xs to) v.rows) (sym more)))

pub hands_other : (v w : HeapValue) (args : List Arg) (to : Owner) (i : ℕ) (a : Arg) → Handed v (take i args) to w → i < length args → slice_index_or args i (arg.Num 0) ≡ a → moved_by a ≡ None → lent_by a ≡ None → Handed v (take (i + 1) args) to w
hands_other v w args to i a so_far lt is m l =
    so_far ∙ ap (λ rows. record v { rows = rows }) (map_same (handed (take i args) to) (handed (take i args ++ a ∷ []) to) v.rows (λ x. handed_other (take i args) to a x m l) ∙ ap (λ (xs : List Arg). map (handed xs to) v.rows) (sym (next_args args i a lt is)))

-- a root stays one
root_placed : (b : Bool) (to : Owner) (x : Object) → is_some (owner_at x.placement) ≡ true → is_some (owner_at (if b then owned_by to x else x).placement) ≡ true
root_placed true to x is = refl
root_placed false to x is = is

root_handed : (args : List Arg) (to : Owner) (x : Option HeapRow) → is_some (owner_in x) ≡ true → is_some (owner_in (handed args to x)) ≡ true
root_handed args to None is = is
root_handed args to (Some r) is = root_placed (has (moved_of args) r.object.number) to r.object is

pub root_stays : (v w : HeapValue) (args : List Arg) (to : Owner) (o : ℕ) → Handed v args to w → IsRoot v.rows o → IsRoot w.rows o
root_stays v w args to o so_far root =
    let at = ap (λ (u : HeapValue). row_of u.rows o) so_far ∙ row_of_map (handed args to) v.rows o refl in
    subst (λ x. is_some (owner_in x) ≡ true) (sym at) (root_handed args to (row_of v.rows o) root)

-- the loans of an object that is there grow by those among the arguments
loans_handed : (args : List Arg) (to : Owner) (o : ℕ) (x : Option HeapRow) → is_some (owner_in x) ≡ true → ((r : HeapRow) → x ≡ Some r → r.object.number ≡ o) → option_map_or (λ r. r.loans) (handed args to x) 0 ≡ option_map_or (λ r. r.loans) x 0 + count o (lent_of args)
loans_handed args to o None is numbered = cc
loans_handed args to o (Some r) is numbered = ap (λ n. r.loans + count n (lent_of args)) (numbered r refl)

pub loans_grow : (v w : HeapValue) (args : List Arg) (to : Owner) (o : ℕ) → Handed v args to w → IsHeapOf v → IsRoot v.rows o → loans_at w.rows o ≡ loans_at v.rows o + count o (lent_of args)
loans_grow v w args to o so_far keeps root =
    let at = ap (λ (u : HeapValue). row_of u.rows o) so_far ∙ row_of_map (handed args to) v.rows o refl in
    ap (λ x. option_map_or (λ r. r.loans) x 0) at ∙ loans_handed args to o (row_of v.rows o) root (keeps.numbered o)

-- what is moved may pass, and what is lent may be lent once more
moves_at : (args : List Arg) (i o : ℕ) → i < length args → slice_index_or args i (arg.Num 0) ≡ arg.Moved o → moved_by (slice_index_or args i (arg.Num 0)) ≡ Some o
moves_at args i o lt is = ap moved_by is

lends_at : (args : List Arg) (i o : ℕ) → i < length args → slice_index_or args i (arg.Num 0) ≡ arg.Lent o → lent_by (slice_index_or args i (arg.Num 0)) ≡ Some o
lends_at args i o lt is = ap lent_by is

pub moved_free : (rows : HeapRows) (args : List Arg) (i o : ℕ) → All (IsFree rows) (moved_of args) → i < length args → slice_index_or args i (arg.Num 0) ≡ arg.Moved o → IsFree rows o
moved_free rows args i o all lt is = all_has (IsFree rows) (moved_of args) o all (has_at moved_by args i (arg.Num 0) o lt (moves_at args i o lt is))

pub moved_unlent : (v w : HeapValue) (args : List Arg) (to : Owner) (i o : ℕ) → Handed v (take i args) to w → IsHeapOf v → MayGive v.rows args → i < length args → slice_index_or args i (arg.Num 0) ≡ arg.Moved o → loans_at w.rows o ≡ 0
moved_unlent v w args to i o so_far keeps may lt is =
    let free = moved_free v.rows args i o may.moved lt is in
    let none = count_of_none o (lent_of args) (may.apart o (has_at moved_by args i (arg.Num 0) o lt (moves_at args i o lt is))) in
    let front = count_front lent_by args i o in
    let grow = loans_grow v w (take i args) to o so_far keeps free.root in
    let unlent = free.unlent in
    omega arith

pub lent_may : (rows : HeapRows) (args : List Arg) (i o : ℕ) → MayGive rows args → i < length args → slice_index_or args i (arg.Num 0) ≡ arg.Lent o → MayLend rows (lent_of args) o
lent_may rows args i o may lt is = all_has (MayLend rows (lent_of args)) (lent_of args) o may.lent (has_at lent_by args i (arg.Num 0) o lt (lends_at args i o lt is))

pub lent_few : (v w : HeapValue) (args : List Arg) (to : Owner) (i o : ℕ) → Handed v (take i args) to w → IsHeapOf v → MayGive v.rows args → i < length args → slice_index_or args i (arg.Num 0) ≡ arg.Lent o → loans_at w.rows o < 1048576
lent_few v w args to i o so_far keeps may lt is =
    let lend = lent_may v.rows args i o may lt is in
    let front = count_before lent_by args i (arg.Num 0) o lt (lends_at args i o lt is) in
    let grow = loans_grow v w (take i args) to o so_far keeps lend.root in
    let few = lend.few in
    omega arith

pub neither : (a : Arg) → ((o : ℕ) → a ≡ arg.Moved o → ⊥) → ((o : ℕ) → a ≡ arg.Lent o → ⊥) → (moved_by a ≡ None) × (lent_by a ≡ None)
neither (arg.Num n) m l = (refl, refl)
neither (arg.Moved o) m l = absurd (m o refl)
neither (arg.Lent o) m l = absurd (l o refl)
neither (arg.Cap x) m l = (refl, refl)
