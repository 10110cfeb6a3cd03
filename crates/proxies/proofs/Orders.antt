-- Frames of a stack that stand against the order of serial domains.
use Rattle.std.proofs.Common.{◌≡◌, refl, sym, ◌∙◌, ap, ℕ, zero, suc, ◌+◌, ◌<◌, ◌≤◌, ◌||◌, ◌&&◌, Bool, true, false, List, [], ◌∷◌, length, drop, Option, Some, None, slice_get, arith}
use Rattle.std.specs.List.{list_any}
use Rattle.std.proofs.Math.ListN.{drop_of_length-le}
use Rattle.rl_defs.specs.declared.load.LoadRows.{LoadRows}
use Rattle.rl_defs.specs.Domains.{row, is_serial, load_of_target}
use Rattle.machine_defs.specs.State.{Instance, Shadow, StackFrame, stack}
use Rattle.machine_defs.specs.State as state
use Rattle.machine_defs.specs.Calling.{outranks, breaks_order}
use Rattle.trampolines.specs.Words.{stack_of}
use Rattle.trampolines.specs.Words as words
use Rattle.proxies.specs.Crossing.{seen_by_proxy}

-- the words on stacks are those of the machine's state
pub same_frames : (o : Option (List StackFrame)) → words.frames_of o ≡ state.frames_of o
same_frames None = refl
same_frames (Some frames) = refl

pub same_top : (fs : List StackFrame) → words.top fs ≡ state.top fs
same_top [] = refl
same_top (f ∷ []) = refl
same_top (f ∷ (g ∷ fs)) = same_top (g ∷ fs)

pub top_is_there : (fs : List StackFrame) → 0 < length fs → words.top fs ≡ None → ⊥
top_is_there [] some is = omega arith
top_is_there (f ∷ []) some is = cc
top_is_there (f ∷ (g ∷ fs)) some is = top_is_there (g ∷ fs) (omega arith) is

pub frame_is_there : {A : Type 0} (xs : List A) (k : ℕ) → k < length xs → slice_get xs k ≡ None → ⊥
frame_is_there [] k lt is = omega arith
frame_is_there (x ∷ xs) zero lt is = cc
frame_is_there (x ∷ xs) (suc k) lt is = frame_is_there xs k (omega arith) is

-- the test goes on behind an item
pub any_next : {A : Type 0} (p : A → Bool) (xs : List A) (k : ℕ) (x : A) → slice_get xs k ≡ Some x → list_any p (drop k xs) ≡ (p x || list_any p (drop (k + 1) xs))
any_next p [] k x is = cc
any_next p (y ∷ xs) zero x is =
    let e : y ≡ x = cc in
    let next : 0 + 1 ≡ 1 = omega arith in
    ap (λ z. p z || list_any p xs) e ∙ ap (λ n. p x || list_any p (drop n (y ∷ xs))) (sym next)
any_next p (y ∷ xs) (suc k) x is =
    let next : suc (k + 1) ≡ suc k + 1 = omega arith in
    any_next p xs k x is ∙ ap (λ n. p x || list_any p (drop n (y ∷ xs))) next

pub any_found : {A : Type 0} (p : A → Bool) (xs : List A) (k : ℕ) (x : A) → slice_get xs k ≡ Some x → true ≡ p x → list_any p (drop k xs) ≡ list_any p xs → true ≡ list_any p xs
any_found p xs k x is one so_far = ap (λ b. b || list_any p (drop (k + 1) xs)) one ∙ (sym (any_next p xs k x is) ∙ so_far)

pub any_passed : {A : Type 0} (p : A → Bool) (xs : List A) (k : ℕ) (x : A) → slice_get xs k ≡ Some x → false ≡ p x → list_any p (drop k xs) ≡ list_any p xs → list_any p (drop (k + 1) xs) ≡ list_any p xs
any_passed p xs k x is none so_far = ap (λ b. b || list_any p (drop (k + 1) xs)) none ∙ (sym (any_next p xs k x is) ∙ so_far)

pub any_ended : {A : Type 0} (p : A → Bool) (xs : List A) (k : ℕ) → length xs ≤ k → list_any p (drop k xs) ≡ list_any p xs → false ≡ list_any p xs
any_ended p xs k past so_far = ap (list_any p) (sym (drop_of_length-le xs past)) ∙ so_far

pub order_is : (L : LoadRows) (instances : List Instance) (frames : List (List StackFrame)) (shadows : List Shadow) (t x rank : ℕ) (b : Bool) → rank ≡ load_of_target L x → is_serial L rank ≡ true → b ≡ list_any (outranks L (seen_by_proxy instances frames []) rank) (stack_of frames t) → b ≡ breaks_order L (seen_by_proxy instances frames shadows) t x
order_is L instances frames shadows t x rank b of serial is =
    is
    ∙ (ap (list_any (outranks L (seen_by_proxy instances frames []) rank)) (same_frames (row frames t))
    ∙ (ap (λ s. s && list_any (outranks L (seen_by_proxy instances frames shadows) rank) (stack (seen_by_proxy instances frames shadows) t)) (sym serial)
    ∙ ap (λ r. is_serial L r && list_any (outranks L (seen_by_proxy instances frames shadows) r) (stack (seen_by_proxy instances frames shadows) t)) of))

pub order_kept : (L : LoadRows) (instances : List Instance) (frames : List (List StackFrame)) (shadows : List Shadow) (t x rank : ℕ) → rank ≡ load_of_target L x → is_serial L rank ≡ false → false ≡ breaks_order L (seen_by_proxy instances frames shadows) t x
order_kept L instances frames shadows t x rank of serial =
    ap (λ s. s && list_any (outranks L (seen_by_proxy instances frames shadows) rank) (stack (seen_by_proxy instances frames shadows) t)) (sym serial)
    ∙ ap (λ r. is_serial L r && list_any (outranks L (seen_by_proxy instances frames shadows) r) (stack (seen_by_proxy instances frames shadows) t)) of
