-- States that are the same but for the action that a native body on top chose: the same is freed in both.
use Rattle.std.proofs.Common.{◌≡◌, ℕ, zero, suc, ◌+◌, ◌-◌, ◌<◌, ◌==◌, Bool, not, ◌&&◌, List, [], ◌∷◌, ◌++◌, map, filter, Option, Some, None, slice_get, slice_set, refl, ap, sym, ◌∙◌, arith}
use mathlib.Core.Path.{fun_ext}
use Rattle.machine_defs.specs.declared.values.Owner.{Owner}
use Rattle.machine_defs.specs.State.{State, StackFrame, Object, Placement, Root, Hung, frames_of, with_stack}
use Rattle.machine_defs.specs.Loans.{lent_in, lent_in_all, loans, has_ended, object_of, is_lost, is_lost_at, is_lost_parent, is_doomed_at, is_doomed, sweep, freed}
use Rattle.machine_defs.specs.Laws.{unchosen_body, unchosen_top, unchosen}

-- a frame, but for the action that its native body wants next
abbrev pub unchosen_frame : StackFrame → StackFrame
unchosen_frame f = record f { body = unchosen_body f.body }

-- the same but for the choice of client t
abbrev pub Alike : ℕ → State → State → Type 0
Alike t m n = unchosen t m ≡ unchosen t n

-- a stack that is changed where it was set
reset : (change : List StackFrame → List StackFrame) (xs : List (List StackFrame)) (n : ℕ) (a : List StackFrame) → slice_set (slice_set xs n a) n (change (frames_of (slice_get (slice_set xs n a) n))) ≡ slice_set xs n (change a)
reset change [] n a = refl
reset change (x ∷ xs) zero a = refl
reset change (x ∷ xs) (suc n) a = ap (λ zs. x ∷ zs) (reset change xs n a)

top_unchosen : (fs : List StackFrame) (f : StackFrame) → unchosen_top (fs ++ f ∷ []) ≡ fs ++ unchosen_frame f ∷ []
top_unchosen [] f = refl
top_unchosen (g ∷ []) f = refl
top_unchosen (g ∷ (h ∷ hs)) f = ap (λ zs. g ∷ zs) (top_unchosen (h ∷ hs) f)

-- a stack that is set, but for the choice on its top
pub unchosen_set : (t : ℕ) (w : State) (fs : List StackFrame) (f : StackFrame) → 0 < t → unchosen t (with_stack w t (fs ++ f ∷ [])) ≡ with_stack w t (fs ++ unchosen_frame f ∷ [])
unchosen_set zero w fs f some = absurd (omega arith)
unchosen_set (suc n) w fs f some =
    let e : suc n - 1 ≡ n = omega arith in
    ap (λ xs. record w { stacks = xs }) (rw e (reset unchosen_top w.stacks n (fs ++ f ∷ []) ∙ ap (slice_set w.stacks n) (top_unchosen fs f)))

-- the choice lends nothing
lent_unchosen : (o : ℕ) (fs : List StackFrame) → lent_in o (unchosen_top fs) ≡ lent_in o fs
lent_unchosen o [] = refl
lent_unchosen o (f ∷ []) = refl
lent_unchosen o (f ∷ (g ∷ fs)) = ap (λ k. Rattle.machine_defs.specs.Loans.count o f.lent + k) (lent_unchosen o (g ∷ fs))

lent_set : (o : ℕ) (xs : List (List StackFrame)) (n : ℕ) → lent_in_all o (slice_set xs n (unchosen_top (frames_of (slice_get xs n)))) ≡ lent_in_all o xs
lent_set o [] n = refl
lent_set o (x ∷ xs) zero = ap (λ k. k + lent_in_all o xs) (lent_unchosen o x)
lent_set o (x ∷ xs) (suc n) = ap (λ k. lent_in o x + k) (lent_set o xs n)

loans_unchosen : (t : ℕ) (w : State) (o : ℕ) → 0 < t → loans (unchosen t w) o ≡ loans w o
loans_unchosen zero w o some = absurd (omega arith)
loans_unchosen (suc n) w o some = let e : suc n - 1 ≡ n = omega arith in rw e (lent_set o w.stacks n)

lost_unchosen : (t : ℕ) (w : State) (o : ℕ) (by : Owner) → 0 < t → is_lost (unchosen t w) o by ≡ is_lost w o by
lost_unchosen t w o by some = ap (λ k. has_ended w by && (k == 0)) (loans_unchosen t w o some)

-- so the same is doomed
doomed_unchosen : (t : ℕ) (w : State) (x : Object) → 0 < t → is_doomed (unchosen t w) x ≡ is_doomed w x
doomed_unchosen t w x some = at_place x.placement
  where
    above_at : (p : ℕ) (placement : Placement) → is_lost_at (unchosen t w) p placement ≡ is_lost_at w p placement
    above_at p (Root by) = lost_unchosen t w p by some
    above_at p (Hung q k) = refl

    above : (found : Option Object) → is_lost_parent (unchosen t w) found ≡ is_lost_parent w found
    above None = refl
    above (Some y) = above_at y.number y.placement

    at_place : (placement : Placement) → is_doomed_at (unchosen t w) x.number placement ≡ is_doomed_at w x.number placement
    at_place (Root by) = lost_unchosen t w x.number by some
    at_place (Hung p k) = above (object_of w p)

freed_unchosen : (t : ℕ) (w : State) → 0 < t → freed (unchosen t w) ≡ freed w
freed_unchosen t w some = ap (λ (test : Object → Bool). map (λ x. x.number) (filter test w.objects)) (fun_ext (λ x. doomed_unchosen t w x some))

sweep_unchosen : (t : ℕ) (w : State) → 0 < t → sweep (unchosen t w) ≡ unchosen t (sweep w)
sweep_unchosen t w some = ap (λ (test : Object → Bool). record (unchosen t w) { objects = filter (λ x. not (test x)) w.objects }) (fun_ext (λ x. doomed_unchosen t w x some))

-- of states that are the same but for the choice, the same is freed, and what is left is the same but for it
pub freed_alike : (t : ℕ) (m n : State) → 0 < t → Alike t m n → freed m ≡ freed n
freed_alike t m n some same = sym (freed_unchosen t m some) ∙ ap freed same ∙ freed_unchosen t n some

pub sweep_alike : (t : ℕ) (m n : State) → 0 < t → Alike t m n → Alike t (sweep m) (sweep n)
sweep_alike t m n some same = sym (sweep_unchosen t m some) ∙ ap sweep same ∙ sweep_unchosen t n some

-- What does a change of a state that neither looks at stacks nor changes them: it leaves states that are the same but for the choice so.
abbrev pub IsBlind : (State → State) → Type 0
IsBlind change = (w : State) (stacks : List (List StackFrame)) → change (record w { stacks = stacks }) ≡ record (change w) { stacks = stacks }

-- a top frame that is put on, and is the same but for its choice, in a state that changes so then
pub top_alike : (t : ℕ) (w : State) (fs : List StackFrame) (g h : StackFrame) (change : State → State) → 0 < t → IsBlind change → unchosen_frame g ≡ unchosen_frame h
    → Alike t (change (with_stack w t (fs ++ g ∷ []))) (change (with_stack w t (fs ++ h ∷ [])))
top_alike t w fs g h change some blind same = one g ∙ ap (λ f. record (change w) { stacks = slice_set w.stacks (t - 1) (fs ++ f ∷ []) }) same ∙ sym (one h)
  where
    one : (f : StackFrame) → unchosen t (change (with_stack w t (fs ++ f ∷ []))) ≡ record (change w) { stacks = slice_set w.stacks (t - 1) (fs ++ unchosen_frame f ∷ []) }
    one f = ap (unchosen t) (blind w (slice_set w.stacks (t - 1) (fs ++ f ∷ []))) ∙ ap (λ (z : State). record (change w) { stacks = z.stacks }) (unchosen_set t w fs f some)
