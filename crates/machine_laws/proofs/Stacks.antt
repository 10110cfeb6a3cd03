-- The stacks of a state and those of its ledger.
use Rattle.std.proofs.Common.{◌≡◌, ℕ, zero, suc, ◌+◌, ◌<◌, not, List, [], ◌∷◌, ◌++◌, length, Option, Some, None, refl, ap, ◌∙◌, arith}
use Rattle.machine_defs.specs.declared.values.Owner.{Owner}
use Rattle.machine_defs.specs.declared.values.Owner.TheVariants as owner
use Rattle.rl_defs.specs.declared.load.LoadRows.{LoadRows}
use Rattle.machine_defs.specs.State.{State, StackFrame, Object, Placement, Root, Hung, is_live, stack, frames_of}
use Rattle.rl_defs.specs.Rows.{row}
use Rattle.machine_defs.specs.Loans.{count, lent_in as lent_in_frames, lent_in_all, loans as loans_of, has_ended, object_of, is_lost as is_lost_in, is_lost_parent, is_doomed_at as is_doomed_in, is_doomed as is_doomed_object}
use Rattle.machine_defs.specs.State.{top}
use Rattle.machine_defs.specs.Frames.{below_top}
use Rattle.machine_laws.specs.Ledger.{sum_to}
use Rattle.machine_laws.specs.Ledger.{LedgerFrame, alive, lent_in, loans, is_lost, is_lost_above, is_doomed_at, is_doomed}
use Rattle.machine_laws.specs.LedgerOf.{frame_entry, client_entry, entries_of, seat_of, ledger_of}
use Rattle.machine_laws.specs.Shape.{Laid}
use Rattle.machine_laws.proofs.Objects.{found_number}
use Rattle.machine_laws.proofs.Sums.{sum_same}

-- the newest frame of a stack stands first in its entries
pub entries_push : (below : List StackFrame) (f : StackFrame) (bottom : List LedgerFrame) → entries_of (below ++ f ∷ []) bottom ≡ frame_entry f ∷ entries_of below bottom
entries_push [] f bottom = refl
entries_push (g ∷ gs) f bottom = entries_push gs f (frame_entry g ∷ bottom)

pub top_pushed : (below : List StackFrame) (f : StackFrame) → top (below ++ f ∷ []) ≡ Some f
top_pushed [] f = refl
top_pushed (g ∷ []) f = refl
top_pushed (g ∷ (h ∷ hs)) f = top_pushed (h ∷ hs) f

pub below_pushed : (below : List StackFrame) (f : StackFrame) → below_top (below ++ f ∷ []) ≡ below
below_pushed [] f = refl
below_pushed (g ∷ []) f = refl
below_pushed (g ∷ (h ∷ hs)) f = ap (λ fs. g ∷ fs) (below_pushed (h ∷ hs) f)

pub top_splits : (fs : List StackFrame) (f : StackFrame) → top fs ≡ Some f → fs ≡ below_top fs ++ f ∷ []
top_splits [] f e = absurd cc
top_splits (g ∷ []) f e = cc
top_splits (g ∷ (h ∷ hs)) f e = ap (λ fs. g ∷ fs) (top_splits (h ∷ hs) f e)

pub top_none : (fs : List StackFrame) → top fs ≡ None → fs ≡ []
top_none [] e = refl
top_none (g ∷ []) e = absurd cc
top_none (g ∷ (h ∷ hs)) e = absurd (let r = top_none (h ∷ hs) e in cc)

-- loans are the same in a state and in its ledger
pub lent_entries : (o : ℕ) (fs : List StackFrame) (bottom : List LedgerFrame) → lent_in o (entries_of fs bottom) ≡ lent_in_frames o fs + lent_in o bottom
lent_entries o [] bottom = omega arith
lent_entries o (f ∷ fs) bottom = let r = lent_entries o fs (frame_entry f ∷ bottom) in omega (arith, r)

pub sum_shift : (f : ℕ → ℕ) (n : ℕ) → sum_to f (suc n) ≡ f 1 + sum_to (λ t. f (suc t)) n
sum_shift f zero = refl
sum_shift f (suc n) = let r = sum_shift f n in omega (arith, r)

pub lent_sum : (o : ℕ) (stacks : List (List StackFrame)) → sum_to (λ t. lent_in_frames o (frames_of (row stacks t))) (length stacks) ≡ lent_in_all o stacks
lent_sum o [] = refl
lent_sum o (fs ∷ stacks) =
    let deeper = lent_sum o stacks in
    let shift = sum_shift (λ t. lent_in_frames o (frames_of (row (fs ∷ stacks) t))) (length stacks) in
    let same = sum_same (λ t. lent_in_frames o (frames_of (row (fs ∷ stacks) (suc t)))) (λ t. lent_in_frames o (frames_of (row stacks t))) (length stacks) (λ t pos le. one t pos) in
    shift ∙ (let r = same ∙ deeper in ap (λ n. lent_in_frames o fs + n) r)
  where
    one : (t : ℕ) → 0 < t → lent_in_frames o (frames_of (row (fs ∷ stacks) (suc t))) ≡ lent_in_frames o (frames_of (row stacks t))
    one zero pos = absurd (omega arith)
    one (suc t) pos = refl

pub loans_same : (L : LoadRows) (s : State) (o : ℕ) → Laid L s → loans L (ledger_of L s) o ≡ loans_of s o
loans_same L s o laid =
    let each = sum_same (λ t. lent_in o (entries_of (stack s t) (client_entry s t ∷ []))) (λ t. lent_in_frames o (stack s t)) (length L.clients) (λ t pos le. (let r = lent_entries o (stack s t) (client_entry s t ∷ []) in omega (arith, r))) in
    let all' = lent_sum o s.stacks in
    each ∙ rw (← laid.stacks) all'

-- who has ended, what is lost and what is doomed are the same too
pub ended_same : (s : State) (w : Owner) → has_ended s w ≡ not (alive (is_live s) w)
ended_same s (owner.Client t) = refl
ended_same s (owner.Instance i) = refl

pub lost_same : (L : LoadRows) (s : State) (o : ℕ) (w : Owner) → Laid L s → is_lost (is_live s) (loans L (ledger_of L s) o) w ≡ is_lost_in s o w
lost_same L s o w laid = rw (loans_same L s o laid, ended_same s w) refl

pub doomed_same : (L : LoadRows) (s : State) (x : Object) → Laid L s → object_of s x.number ≡ Some x → is_doomed L (ledger_of L s) x.number ≡ is_doomed_object s x
doomed_same L s x laid here = rw here (by_place x.placement)
  where
    above : (p : ℕ) (found' : Option Object) → object_of s p ≡ found' → is_lost_above (is_live s) (loans L (ledger_of L s)) p (seat_of found') ≡ is_lost_parent s found'
    above p None e = refl
    above p (Some y) e = at_place y (found_number p s.objects y e) y.placement
      where
        at_place : (y : Object) → y.number ≡ p → (placement : Placement) → is_lost_above (is_live s) (loans L (ledger_of L s)) p (Some placement) ≡ Rattle.machine_defs.specs.Loans.is_lost_at s y.number placement
        at_place y same (Root w) = rw same (lost_same L s p w laid)
        at_place y same (Hung q k) = refl

    by_place : (placement : Placement) → is_doomed_at (is_live s) (loans L (ledger_of L s)) (λ o. seat_of (object_of s o)) x.number (Some placement) ≡ is_doomed_in s x.number placement
    by_place (Root w) = lost_same L s x.number w laid
    by_place (Hung p k) = above p (object_of s p) refl
