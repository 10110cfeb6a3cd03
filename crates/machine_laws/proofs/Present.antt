-- The objects of a live frame are in the heap.
use Rattle.std.proofs.Common.{◌≡◌, ℕ, ◌+◌, ◌<◌, ◌≤◌, ◌==◌, Bool, true, false, not, ◌||◌, List, [], ◌∷◌, ◌++◌, length, filter, Option, Some, None, refl, sym, subst, ◌∙◌, arith, inl, inr}
use Rattle.std.specs.List.{filter_map}
use Rattle.std.proofs.lemmas.Bool.{cases_Bool, eqb-true}
use Rattle.machine_defs.specs.declared.values.Owner.{Owner}
use Rattle.machine_defs.specs.declared.values.Owner.TheVariants as owner
use Rattle.machine_defs.specs.declared.frame.FrameBody.{FrameBody}
use Rattle.machine_defs.specs.declared.frame.FrameBody.TheVariants as body
use Rattle.machine_defs.specs.declared.frame.Action.{Action}
use Rattle.rl_defs.specs.declared.load.LoadRows.{LoadRows}
use Rattle.machine_defs.specs.State.{State, StackFrame, Object, Placement, Root, is_live, stack, frames_of}
use Rattle.rl_defs.specs.Rows.{row}
use Rattle.machine_defs.specs.Loans.{object_of, count}
use Rattle.machine_defs.specs.Arguments.{has}
use Rattle.machine_defs.specs.Sound.{object_held, own_of, own_of_body}
use Rattle.machine_laws.specs.Ledger.{LedgerFrame, lent_in}
use Rattle.machine_laws.specs.LedgerOf.{frame_entry, entries_of, seat_of, ledger_of}
use Rattle.machine_laws.specs.LedgerSound.{own_in, Owned}
use Rattle.machine_laws.specs.Shape.{Laid}
use Rattle.machine_laws.proofs.Rows.{row_within}
use Rattle.machine_laws.proofs.Tops.{bottom, entries}
use Rattle.machine_laws.proofs.Seats.{seats, IsIn}
use Rattle.machine_laws.proofs.Retyping.{body_objects, has_object}
use Rattle.machine_laws.proofs.Sums.{sum_least}
use Rattle.machine_laws.proofs.Owners.{same_self, is_of_root}
use Rattle.machine_laws.proofs.Counts.{has_counted}

-- a frame of a stack has its own objects and its loans counted in the stack's entries
pub own_over : (w : Owner) (o : ℕ) (fs : List StackFrame) (rest : List LedgerFrame) → own_in w o rest ≤ own_in w o (entries_of fs rest)
own_over w o [] rest = omega arith
own_over w o (f ∷ fs) rest = let r = own_over w o fs (frame_entry f ∷ rest) in omega (arith, r)

lent_over : (o : ℕ) (fs : List StackFrame) (rest : List LedgerFrame) → lent_in o rest ≤ lent_in o (entries_of fs rest)
lent_over o [] rest = omega arith
lent_over o (f ∷ fs) rest = let r = lent_over o fs (frame_entry f ∷ rest) in omega (arith, r)

pub own_counted : (o : ℕ) (below above : List StackFrame) (f : StackFrame) (rest : List LedgerFrame) → count o (own_of f) ≤ own_in (owner.Instance f.instance) o (entries_of (below ++ f ∷ above) rest)
own_counted o [] above f rest =
    let over = own_over (owner.Instance f.instance) o above (frame_entry f ∷ rest) in
    let here : own_in (owner.Instance f.instance) o (frame_entry f ∷ rest) ≡ count o (own_of f) + own_in (owner.Instance f.instance) o rest = rw (same_self (owner.Instance f.instance)) refl in
    omega (arith, over, here)
own_counted o (g ∷ below) above f rest = own_counted o below above f (frame_entry g ∷ rest)

pub lent_counted : (o : ℕ) (below above : List StackFrame) (f : StackFrame) (rest : List LedgerFrame) → count o f.lent ≤ lent_in o (entries_of (below ++ f ∷ above) rest)
lent_counted o [] above f rest = let over = lent_over o above (frame_entry f ∷ rest) in omega (arith, over)
lent_counted o (g ∷ below) above f rest = lent_counted o below above f (frame_entry g ∷ rest)

-- an object of a body that wasn't lent to the frame is its own
pub own_or_lent : (lent : List ℕ) (b : FrameBody Action) (o : ℕ) → has (body_objects b) o ≡ true → has lent o ≡ false → 0 < count o (own_of_body lent b)
own_or_lent lent (body.Code at regs) o here unlent = go (filter_map object_held regs) here
  where
    go : (os : List ℕ) → has os o ≡ true → 0 < count o (filter (λ p. not (has lent p)) os)
    go [] h = absurd cc
    go (p ∷ os) h = elim (cases_Bool (p == o)) [
      | inl e ↦
          let same = eqb-true p o e in
          let spared : has lent p ≡ false = subst (λ n. has lent n ≡ false) (sym same) unlent in
          rw spared (rw e (omega arith))
      | inr e ↦
          let h' : has os o ≡ true = rw e at h in
          let deeper = go os h' in
          elim (cases_Bool (has lent p)) [
            | inl a ↦ rw a deeper
            | inr a ↦ rw a (omega (arith, deeper))
          ]
    ]
own_or_lent lent (body.Native held act) o here unlent = has_counted held o here

pub seated : (s : State) (o : ℕ) (p : Placement) → seats s o ≡ Some p → IsIn s o
seated s o p is = go (object_of s o) refl
  where
    go : (x : Option Object) → object_of s o ≡ x → IsIn s o
    go None e = absurd (let h : seat_of None ≡ Some p = rw e at is in cc)
    go (Some x) e = (x, e)

module _ (L : LoadRows) (s : State) (laid : Laid L s) (own : Owned L (ledger_of L s)) where
  pub stack_within : (t : ℕ) (below above : List StackFrame) (f : StackFrame) → stack s t ≡ below ++ f ∷ above → (0 < t) × (t ≤ length L.clients)
  stack_within t below above f here = go (row s.stacks t) refl
    where
      empty : (below : List StackFrame) → [] ≡ below ++ f ∷ above → ⊥
      empty [] e = cc
      empty (g ∷ gs) e = cc

      go : (found : Option (List StackFrame)) → row s.stacks t ≡ found → (0 < t) × (t ≤ length L.clients)
      go None e = absurd (empty below (let h : frames_of None ≡ below ++ f ∷ above = rw e at here in h))
      go (Some fs) e = let w = row_within s.stacks t fs e in (w.0, (let l = laid.stacks in let b = w.1 in omega (arith, l, b)))

  -- what a live frame has of its own is a root of its instance
  pub own_root : (t o : ℕ) (below above : List StackFrame) (f : StackFrame) → stack s t ≡ below ++ f ∷ above → is_live s f.instance ≡ true → 0 < count o (own_of f) → seats s o ≡ Some (Root (owner.Instance f.instance))
  own_root t o below above f here lives some =
      let w = stack_within t below above f here in
      let party : Owner = owner.Instance f.instance in
      let in_stack : count o (own_of f) ≤ own_in party o (entries t (stack s t) (row s.threads t)) = rw here (own_counted o below above f (bottom t (row s.threads t) ∷ [])) in
      let in_all = sum_least (λ u. own_in party o ((ledger_of L s).stack u)) (length L.clients) t w.0 w.1 in
      let once = own.once party o lives in
      is_of_root party (seats s o) (omega (arith, in_stack, in_all, once, some))

  -- what is lent to a frame is a root
  pub lent_root : (t o : ℕ) (below above : List StackFrame) (f : StackFrame) → stack s t ≡ below ++ f ∷ above → has f.lent o ≡ true → (w : Owner) × (seats s o ≡ Some (Root w))
  lent_root t o below above f here lent =
      let w = stack_within t below above f here in
      let counted = has_counted f.lent o lent in
      let in_stack : count o f.lent ≤ lent_in o (entries t (stack s t) (row s.threads t)) = rw here (lent_counted o below above f (bottom t (row s.threads t) ∷ [])) in
      let in_all = sum_least (λ u. lent_in o ((ledger_of L s).stack u)) (length L.clients) t w.0 w.1 in
      own.lent o (omega (arith, in_stack, in_all, counted))

  pub present : (t o : ℕ) (below above : List StackFrame) (f : StackFrame) → stack s t ≡ below ++ f ∷ above → is_live s f.instance ≡ true → has_object f o ≡ true → IsIn s o
  present t o below above f here lives some = elim (cases_Bool (has f.lent o)) [
    | inl lent ↦ let r = lent_root t o below above f here lent in seated s o (Root r.0) r.1
    | inr unlent ↦
        let h : has (body_objects f.body) o ≡ true = first (has (body_objects f.body) o) unlent some in
        seated s o (Root (owner.Instance f.instance)) (own_root t o below above f here lives (own_or_lent f.lent f.body o h unlent))
  ]
    where
      first : (a : Bool) → has f.lent o ≡ false → (a || has f.lent o) ≡ true → a ≡ true
      first true e h = refl
      first false e h = let h' : false ≡ true = sym e ∙ h in absurd cc
