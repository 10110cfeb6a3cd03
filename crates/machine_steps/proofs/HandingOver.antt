-- What a call that enters does to the heap: what it moves passes to the instance, and what it lends gains a loan.
use Rattle.std.proofs.Common.{◌≡◌, ℕ, zero, suc, ◌+◌, ◌<◌, ◌≤◌, ◌==◌, Bool, true, false, is_some, if◌then◌else◌, List, [], ◌∷◌, length, map, All, Option, Some, None, refl, sym, ap, subst, ◌∙◌, arith}
use Rattle.std.specs.List.{slice_index_or, list_any}
use Rattle.std.specs.Option.{option_map_or, unwrap_or}
use Rattle.std.proofs.Math.Bool.{or-true}
use Rattle.std.proofs.lemmas.Bool.{eq-eqb}
use Rattle.machine_defs.specs.declared.values.Owner.{Owner}
use Rattle.machine_defs.specs.declared.values.Arg.{Arg}
use Rattle.rl_defs.specs.declared.load.LoadRows.{LoadRows}
use Rattle.machine_defs.specs.State.{State, Object, Root}
use Rattle.machine_defs.specs.Loans.{count, loans}
use Rattle.machine_defs.specs.Arguments.{has, moved_of, lent_of}
use Rattle.machine_defs.specs.Objects.{given_to, owned_by}
use Rattle.machine_defs.specs.Sound.{IsRoot}
use Rattle.rref_heap.specs.HeapValue.{HeapRow, HeapRows, row_of, heap_objects, object_in, is_rref, owner_at, owner_in, leaves_at, loans_at}
use Rattle.rref_heap.proofs.Objects.{IsNumbered, object_found, row_of_map}
use Rattle.proxies.specs.Objects.{handed, handed_row, passed, IsFree, MayLend}
use Rattle.machine_steps.specs.Kept.{Agrees, AgreesAt}

-- what stands in a list is in it
has_got : (xs : List ℕ) (k d : ℕ) → k < length xs → has xs (slice_index_or xs k d) ≡ true
has_got [] k d lt = absurd (omega (arith, lt))
has_got (x ∷ xs) zero d lt = rw (eq-eqb x x refl) refl
has_got (x ∷ xs) (suc k) d lt = rw (has_got xs k d (omega (arith, lt))) (or-true (x == slice_index_or xs k d))

-- what each meets that is in a list, all meet
pub all_of : (P : ℕ → Type 0) (xs : List ℕ) → ((o : ℕ) → has xs o ≡ true → P o) → All P xs
all_of P xs each k d lt = each (slice_index_or xs k d) (has_got xs k d lt)

-- ---- a root of the state

-- the row of a root
pub record RootRow (rows : HeapRows) (o : ℕ) (w : Owner) : Type 0 where
  pub row : HeapRow
  pub is : row_of rows o ≡ Some row
  pub root : row.object.placement ≡ Root w

pub root_row : (s : State) (rows : HeapRows) (o : ℕ) (w : Owner) → IsNumbered rows → s.objects ≡ heap_objects rows → IsRoot s o w → RootRow rows o w
root_row s rows o w numbered same root = go (row_of rows o) refl
  where
    found : object_in (row_of rows o) ≡ Some root.0
    found = sym (object_found rows numbered o) ∙ ap (λ (xs : List Object). Rattle.std.specs.List.find (λ x. x.number == o) xs) (sym same) ∙ root.1

    go : (x : Option HeapRow) → row_of rows o ≡ x → RootRow rows o w
    go None is = absurd (let e : None ≡ Some root.0 = sym (ap object_in is) ∙ found in cc)
    go (Some r) is =
        let e : Some r.object ≡ Some root.0 = sym (ap object_in is) ∙ found in
        let same' : r.object ≡ root.0 = ap (λ (x : Option Object). unwrap_or x root.0) e in
        record { row = r; is = is; root = ap (λ (x : Object). x.placement) same' ∙ root.2 }

module _ (L : LoadRows) (s : State) (rows : HeapRows) (numbered : IsNumbered rows) (objects : s.objects ≡ heap_objects rows) (agrees : Agrees L s rows) where
  root_is : (o : ℕ) (w : Owner) → RootRow rows o w → Rattle.rref_heap.specs.HeapValue.IsRoot rows o
  root_is o w r = ap (λ x. is_some (owner_in x)) r.is ∙ ap (λ p. is_some (owner_at p)) r.root

  loans_are : (o : ℕ) (w : Owner) → RootRow rows o w → loans_at rows o ≡ loans s o
  loans_are o w r = ap (λ x. option_map_or (λ r. r.loans) x 0) r.is ∙ (agrees o r.row r.is).lent

  -- one that nobody has borrowed may be moved
  pub unlent_is_free : (o : ℕ) (w : Owner) → IsRoot s o w → loans s o ≡ 0 → IsFree rows o
  unlent_is_free o w root none =
      let r = root_row s rows o w numbered objects root in
      record {
        root = root_is o w r;
        unlent = loans_are o w r ∙ none;
        stays = ap (λ x. option_map_or (λ r. r.leaves) x false) r.is ∙ (agrees o r.row r.is).stays;
      }

  -- each may be lent, where it is lent seldom behind that
  pub root_may_lend : (os : List ℕ) (o : ℕ) (w : Owner) → IsRoot s o w → loans s o + count o os ≤ 3968 → MayLend rows os o
  root_may_lend os o w root few =
      let r = root_row s rows o w numbered objects root in
      record { root = root_is o w r; few = (let e = loans_are o w r in omega (arith, e, few)) }

-- ---- what has been handed over

pub objects_handed : (args : List Arg) (to : Owner) (rows : HeapRows) → heap_objects (map (handed args to) rows) ≡ given_to to (moved_of args) (heap_objects rows)
objects_handed args to [] = refl
objects_handed args to (None ∷ rows) = objects_handed args to rows
objects_handed args to (Some r ∷ rows) = ap (λ xs. passed to (moved_of args) r.object ∷ xs) (objects_handed args to rows)

same_struct : (to : Owner) (b : Bool) (x : Object) → (if b then owned_by to x else x).ty ≡ x.ty
same_struct to true x = refl
same_struct to false x = refl

pub agrees_handed : (L : LoadRows) (s z : State) (rows : HeapRows) (args : List Arg) (to : Owner) → IsNumbered rows → ((o : ℕ) → loans z o ≡ loans s o + count o (lent_of args)) → Agrees L s rows → Agrees L z (map (handed args to) rows)
agrees_handed L s z rows args to numbered more a o r here = go (row_of rows o) refl
  where
    was : handed args to (row_of rows o) ≡ Some r
    was = sym (row_of_map (handed args to) refl rows o) ∙ here

    go : (x : Option HeapRow) → row_of rows o ≡ x → AgreesAt L z o r
    go None is = absurd (let e : None ≡ Some r = sym (ap (handed args to) is) ∙ was in cc)
    go (Some q) is =
        let e : Some (handed_row args to q) ≡ Some r = sym (ap (handed args to) is) ∙ was in
        let same : handed_row args to q ≡ r = ap (λ (x : Option HeapRow). unwrap_or x r) e in
        let at = a o q is in
        subst (AgreesAt L z o) same (record {
          lent = ap (λ n. q.loans + count n (lent_of args)) (numbered o q is) ∙ (ap (λ n. n + count o (lent_of args)) at.lent ∙ sym (more o));
          nests = at.nests ∙ ap (λ ty. list_any is_rref (Rattle.rl_defs.specs.CodeNames.cells_of L.tables ty)) (sym (same_struct to (has (moved_of args) q.object.number) q.object));
          stays = at.stays;
        })
