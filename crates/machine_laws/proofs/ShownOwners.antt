-- What each row says of the objects that its entry names, in the words of the history before it.
use Rattle.std.proofs.Common.{◌≡◌, ℕ, unwrap_or, zero, suc, ◌<◌, ◌≤◌, ◌==◌, true, false, ◌⊎◌, List, [], ◌∷◌, ◌++◌, Option, Some, None, refl, ap, sym, ◌∙◌, subst, arith, inl, inr, slice_get, length}
use Rattle.std.proofs.lemmas.Bool.{cases_eq, cases_Bool, eqb-true, eq-eqb}
use Rattle.std.proofs.Math.Bool.{or-true}
use Rattle.rl_defs.specs.declared.values.Value.{Value}
use Rattle.machine_defs.specs.declared.values.Arg.{Arg}
use Rattle.machine_defs.specs.declared.values.Owner.{Owner}
use Rattle.machine_defs.specs.declared.values.Owner.TheVariants as owner
use Rattle.machine_defs.specs.declared.entry.Entry.{Entry}
use Rattle.machine_defs.specs.declared.entry.Entry.TheVariants as entry
use Rattle.rl_defs.specs.declared.load.LoadRows.{LoadRows}
use Rattle.machine_defs.specs.State.{Placement, Root, Hung}
use Rattle.machine_defs.specs.Loans.{count}
use Rattle.machine_defs.specs.Arguments.{has, moved_of, lent_of}
use Rattle.machine_defs.specs.Steps.{Turn}
use Rattle.machine_defs.specs.Arguments.{objects_in}
use Rattle.machine_defs.specs.History.{receiver_at, cell_at, dropped, owner_at, gone_at}
use Rattle.machine_defs.specs.OwnedOnce.{IsThere, Owns, IsLentTo, MayLend, Each, OwnedEntry, named}
use Rattle.machine_laws.specs.Ledger.{LedgerFrame, Ledger, alive, lent_in, loans}
use Rattle.machine_laws.specs.LedgerRows.{Runs, Exchanged, MayPass, Row}
use Rattle.machine_laws.specs.LedgerSound.{in_slots, own_in, Owned, Placed}
use Rattle.machine_laws.proofs.Sums.{sum_least, sum_some}
use Rattle.machine_laws.proofs.Counts.{has_counted, counted_has, loses_one}
use Rattle.machine_laws.proofs.Owners.{is_of_root, is_of_le, own_below, covered_below, top_root, unlent}
use Rattle.machine_laws.proofs.OneStack.{lent_loans}
use Rattle.machine_laws.proofs.OwnRows.{at_most_once}
use Rattle.machine_laws.proofs.Calls.{call_of, calls_of, CallsAgree, ground}
use Rattle.machine_laws.proofs.PlaceRows.{made_before}
use Rattle.machine_laws.proofs.HeapRows.{HeapAgrees, acts_for}
use Rattle.machine_laws.proofs.CellRows.{CellsAgree}
use Rattle.machine_laws.proofs.Swept.{loans_same}

pub each_none : (Holds : ℕ → Type 0) → Each Holds []
each_none Holds o is = absurd cc

pub each_more : (Holds : ℕ → Type 0) (q : ℕ) (os : List ℕ) → Holds q → Each Holds os → Each Holds (q ∷ os)
each_more Holds q os here there o is = elim (cases_Bool (q == o)) [
  | inl e ↦ subst Holds (eqb-true q o e) here
  | inr e ↦ there o (rw e at is)
]

pub each_one : (Holds : ℕ → Type 0) (q : ℕ) → Holds q → Each Holds (q ∷ [])
each_one Holds q here = each_more Holds q [] here (each_none Holds)

pub each_of_both : (Holds : ℕ → Type 0) (xs ys : List ℕ) → Each Holds xs → Each Holds ys → Each Holds (xs ++ ys)
each_of_both Holds [] ys first second = second
each_of_both Holds (x ∷ xs) ys first second = each_more Holds x (xs ++ ys) (first x (rw (eq-eqb x x refl) refl))
    (each_of_both Holds xs ys (λ o is. first o (rw is (or-true (x == o)))) second)

-- what a slot shows is in it
pub in_slot : (o : ℕ) (ks : List (Option ℕ)) (k : ℕ) → slice_get ks k ≡ Some (Some o) → 0 < in_slots o ks
in_slot o [] k is = absurd cc
in_slot o (None ∷ ks) zero is = absurd cc
in_slot o (Some q ∷ ks) zero is = let e : q ≡ o = cc in rw (eq-eqb q o e) (omega arith)
in_slot o (None ∷ ks) (suc k) is = in_slot o ks k is
in_slot o (Some q ∷ ks) (suc k) is = let r = in_slot o ks k is in omega arith

module _ (L : LoadRows) (us : List Turn) (s : Ledger) (own : Owned L s) (c : CallsAgree L us s) (p : Placed L s) (h : HeapAgrees us s) (cells : CellsAgree us s) where
  -- what is in the heap was made and isn't gone
  pub there : (o : ℕ) (x : Placement) → s.seat o ≡ Some x → IsThere us o
  there o x is =
      let made = made_before L s own p o x is in
      record { some = made.0; made = (let a = made.1 in let b = h.made in omega arith); stays = stays x is }
    where
      stays : (x : Placement) → s.seat o ≡ Some x → gone_at us o ≡ false
      stays (Root w) is = (h.root o w is).2
      stays (Hung q k) is = (h.hung o q k is).1

  -- a root has the owner that last received it
  owner_same : (o : ℕ) (w : Owner) → s.seat o ≡ Some (Root w) → owner_at us o ≡ w
  owner_same o w is = let r = h.root o w is in ap (λ x. receiver_at us (unwrap_or x o)) r.1 ∙ r.0

  owns_root : (t : ℕ) (f : LedgerFrame) (fs : List LedgerFrame) → Runs L s t f fs → (o : ℕ) → s.seat o ≡ Some (Root f.party) → loans L s o ≡ 0 → Owns L us t o
  owns_root t f fs runs o is none = record {
    mine = acts_for L us s own c p h t f fs runs ∙ sym (owner_same o f.party is);
    unlent = loans_same L us s o c p ∙ none;
    loose = (h.root o f.party is).1;
  }

  owns : (t : ℕ) (f : LedgerFrame) (fs : List LedgerFrame) → Runs L s t f fs → (o : ℕ) → 0 < count o f.own → Owns L us t o
  owns t f fs runs o some = owns_root t f fs runs o (top_root L s own t f fs runs o some) (unlent L s own t f fs runs o some)

  own_there : (t : ℕ) (f : LedgerFrame) (fs : List LedgerFrame) → Runs L s t f fs → (o : ℕ) → 0 < count o f.own → IsThere us o
  own_there t f fs runs o some = there o (Root f.party) (top_root L s own t f fs runs o some)

  -- what was lent to the top frame was lent to the newest open call
  lent_to : (t : ℕ) (f : LedgerFrame) (fs : List LedgerFrame) → Runs L s t f fs → (o : ℕ) → 0 < count o f.lent → IsLentTo us t o
  lent_to t f [] runs o some = absurd (let e = (ground L s p t f [] runs.some runs.within runs.stack).1 in let z : 0 < count o [] = rw e at some in omega arith)
  lent_to t f (g ∷ fs) runs o some =
      let e = (ground L s p t f (g ∷ fs) runs.some runs.within runs.stack).1 in
      (call_of f, calls_of (g ∷ fs), c.opens t runs.some runs.within ∙ ap calls_of runs.stack, counted_has (lent_of f.args) o (rw e at some))

  lent_root : (t : ℕ) (f : LedgerFrame) (fs : List LedgerFrame) → Runs L s t f fs → (o : ℕ) → 0 < count o f.lent → (w : Owner) × (s.seat o ≡ Some (Root w))
  lent_root t f fs runs o some = own.lent o (lent_loans (length L.clients) s.live s.stack s.seat s.slots s.next_object own t o (rw runs.stack (omega arith)))

  may_lend : (t : ℕ) (f : LedgerFrame) (fs : List LedgerFrame) → Runs L s t f fs → (o : ℕ) → (0 < count o f.own) ⊎ (0 < count o f.lent) → MayLend us t o
  may_lend t f fs runs o (inl some) = let r = owns t f fs runs o some in record { loose = r.loose; mine = inl r.mine }
  may_lend t f fs runs o (inr some) = let l = lent_root t f fs runs o some in record { loose = (h.root o l.0 l.1).1; mine = inr (lent_to t f fs runs o some) }

  either_there : (t : ℕ) (f : LedgerFrame) (fs : List LedgerFrame) → Runs L s t f fs → (o : ℕ) → (0 < count o f.own) ⊎ (0 < count o f.lent) → IsThere us o
  either_there t f fs runs o (inl some) = own_there t f fs runs o some
  either_there t f fs runs o (inr some) = let l = lent_root t f fs runs o some in there o (Root l.0) l.1

  -- what stands in a slot of an instance that acts
  slot_root : (t : ℕ) (f : LedgerFrame) (fs : List LedgerFrame) → Runs L s t f fs → (i k o : ℕ) → f.party ≡ owner.Instance i → slice_get (s.slots i) k ≡ Some (Some o) → (s.seat o ≡ Some (Root f.party)) × (loans L s o ≡ 0)
  slot_root t f fs runs i k o is full =
      let some = in_slot o (s.slots i) k full in
      let lives : alive s.live (owner.Instance i) ≡ true = rw is at runs.lives in
      let once = own.once (owner.Instance i) o lives in
      let root = is_of_root (owner.Instance i) (s.seat o) (omega arith) in (
        rw is root,
        (elim (cases_eq (loans L s o) 0) [
          | inl none ↦ none
          | inr more ↦ absurd (
              let u = sum_some (λ k. lent_in o (s.stack k)) (length L.clients) (omega arith) in
              let low = covered_below s.live s.seat o (owner.Instance i) (s.stack u.0) (own.covered u.0) u.3 root lives in
              let le = own_below (owner.Instance i) o (s.stack u.0) in
              let all = sum_least (λ k. own_in (owner.Instance i) o (s.stack k)) (length L.clients) u.0 u.1 u.2 in
              let small = is_of_le (owner.Instance i) (s.seat o) in
              omega arith)
        ]),
      )

  -- what a call moves and lends
  moves : (args : List Arg) (f : LedgerFrame) (left : List ℕ) → MayPass f args left → (o : ℕ) → has (moved_of args) o ≡ true → 0 < count o f.own
  moves args f left passes o is = let some = has_counted (moved_of args) o is in let a = passes.moved o in omega arith

  lends : (args : List Arg) (f : LedgerFrame) (left : List ℕ) → MayPass f args left → (o : ℕ) → has (lent_of args) o ≡ true → (0 < count o f.own) ⊎ (0 < count o f.lent)
  lends args f left passes o is = elim (passes.lent o (has_counted (lent_of args) o is)) [ inl mine ↦ inl (let a = passes.moved o in omega arith) | inr lent ↦ inr lent ]

  returns : (f : LedgerFrame) (results : List Value) → Exchanged f.own (objects_in results) [] [] → (o : ℕ) → has (objects_in results) o ≡ true → 0 < count o f.own
  returns f results all o is = let some = has_counted (objects_in results) o is in let a = all o in omega arith

  -- the cell of an object of one's own in which nothing hangs
  cell_empty : (o k : ℕ) (w : Owner) → s.seat o ≡ Some (Root w) → ((q : ℕ) → s.seat q ≡ Some (Hung o k) → ⊥) → cell_at us o k ≡ None
  cell_empty o k w root empty = go (cell_at us o k) refl
    where
      go : (x : Option ℕ) → cell_at us o k ≡ x → x ≡ None
      go None is = refl
      go (Some v) is = absurd (empty v (cells.stays v o k (Root w) root is))

  pub rights : (e : Entry) (z : Ledger) → Row L s e z → OwnedEntry L us e
  rights (entry.Call t n x i m args) z r = let row = r.3 in (
    λ o is. owns t r.0 r.1 row.runs o (moves args r.0 r.2 row.passes o is),
    λ o is. may_lend t r.0 r.1 row.runs o (lends args r.0 r.2 row.passes o is),
  )
  rights (entry.Refuse t n why x m args) z r = λ o is. owns t r.0 r.1 r.3 o (moves args r.0 r.2 r.6 o is)
  rights (entry.Ret t n results) z r = λ o is. owns t r.0 (r.1 ∷ r.2) r.4 o (returns r.0 results r.6 o is)
  rights (entry.New t w o ty values) z r = (r.5 ∙ sym h.made, r.4 ∙ sym (acts_for L us s own c p h t r.0 r.1 r.3))
  rights (entry.Drop t o) z r = owns t r.0 r.1 r.3 o (loses_one r.0.own o r.2 r.4)
  rights (entry.Set t o place values) z r = owns t r.0 r.1 r.3 o r.4
  rights (entry.Take t i slot o) z r = let q = slot_root t r.1 r.2 r.4 i r.0 o r.5 r.7 in owns_root t r.1 r.2 r.4 o q.0 q.1
  rights (entry.Put t i slot o) z r = owns t r.1 r.2 r.4 o (loses_one r.1.own o r.3 r.8)
  rights (entry.DevGet t o b) z r = owns t r.0 r.1 r.3 o r.4
  rights (entry.DevPut t b o) z r = may_lend t r.0 r.1 r.3 o r.4
  rights (entry.Hang t o k v) z r =
      let some : 0 < count o r.0.own = (let a = r.5 o in let b = r.4 in omega arith) in
      (owns t r.0 r.1 r.3 o some, owns t r.0 r.1 r.3 v (loses_one r.0.own v r.2 r.5), cell_empty o k r.0.party (top_root L s own t r.0 r.1 r.3 o some) r.6)
  rights (entry.Unhang t o k v) z r = (owns t r.0 r.1 r.3 o r.4, cells.full v o k r.5)
  rights (entry.Show t o values) z r = owns t r.0 [] r.1 o r.2
  rights (entry.Free o) z r = absurd r
  rights other z r = tt

  -- each object that an entry names is there
  pub names_there : (e : Entry) (z : Ledger) → Row L s e z → Each (IsThere us) (named e)
  names_there (entry.Call t n x i m args) z r = let row = r.3 in each_of_both (IsThere us) (moved_of args) (lent_of args)
      (λ o is. own_there t r.0 r.1 row.runs o (moves args r.0 r.2 row.passes o is))
      (λ o is. either_there t r.0 r.1 row.runs o (lends args r.0 r.2 row.passes o is))
  names_there (entry.Refuse t n why x m args) z r = each_of_both (IsThere us) (moved_of args) (lent_of args)
      (λ o is. own_there t r.0 r.1 r.3 o (moves args r.0 r.2 r.6 o is))
      (λ o is. either_there t r.0 r.1 r.3 o (lends args r.0 r.2 r.6 o is))
  names_there (entry.Ret t n results) z r = λ o is. own_there t r.0 (r.1 ∷ r.2) r.4 o (returns r.0 results r.6 o is)
  names_there (entry.Drop t o) z r = each_one (IsThere us) o (own_there t r.0 r.1 r.3 o (loses_one r.0.own o r.2 r.4))
  names_there (entry.Set t o place values) z r = each_one (IsThere us) o (own_there t r.0 r.1 r.3 o r.4)
  names_there (entry.Take t i slot o) z r = each_one (IsThere us) o (there o (Root r.1.party) (slot_root t r.1 r.2 r.4 i r.0 o r.5 r.7).0)
  names_there (entry.Put t i slot o) z r = each_one (IsThere us) o (own_there t r.1 r.2 r.4 o (loses_one r.1.own o r.3 r.8))
  names_there (entry.DevGet t o b) z r = each_one (IsThere us) o (own_there t r.0 r.1 r.3 o r.4)
  names_there (entry.DevPut t b o) z r = each_one (IsThere us) o (either_there t r.0 r.1 r.3 o r.4)
  names_there (entry.Hang t o k v) z r = each_more (IsThere us) o (v ∷ []) (own_there t r.0 r.1 r.3 o (let a = r.5 o in let b = r.4 in omega arith))
      (each_one (IsThere us) v (own_there t r.0 r.1 r.3 v (loses_one r.0.own v r.2 r.5)))
  names_there (entry.Unhang t o k v) z r = each_more (IsThere us) o (v ∷ []) (own_there t r.0 r.1 r.3 o r.4) (each_one (IsThere us) v (there v (Hung o k) r.5))
  names_there (entry.Show t o values) z r = each_more (IsThere us) o (objects_in values) (own_there t r.0 [] r.1 o r.2) (λ v is. let q = r.3 v is in there v (Hung o q.0) q.1)
  names_there (entry.Free o) z r = absurd r
  names_there other z r = each_none (IsThere us)

  -- an object is dropped at most once
  pub drops_once : (e : Entry) (z : Ledger) → Row L s e z → (o : ℕ) → count o (dropped e) ≤ 1
  drops_once (entry.Refuse t n why x m args) z r o = let a = r.6.moved o in let one = at_most_once L s own t r.0 r.1 r.3 o in omega arith
  drops_once (entry.Drop t q) z r o = let a = r.4 o in let one = at_most_once L s own t r.0 r.1 r.3 o in omega arith
  drops_once _ z r o = omega arith
