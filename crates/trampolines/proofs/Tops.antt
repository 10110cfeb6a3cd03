-- The top of a stack.
use Rattle.std.proofs.Common.{◌≡◌, ◌∙◌, ℕ, zero, suc, ◌+◌, ◌-◌, ◌<◌, ◌≤◌, List, [], ◌∷◌, ◌++◌, Option, Some, None, true, false, length, get_or, slice_set, refl, ap, sym, arith, rules}
use Rattle.std.specs.List.{slice_get}
use Rattle.machine_defs.specs.declared.frame.FrameBody.TheVariants as body
use Rattle.machine_defs.specs.declared.frame.FrameBody.{FrameBody}
use Rattle.machine_defs.specs.declared.frame.Frame.{Frame}
use Rattle.rl_defs.specs.declared.values.Value.{Value}
use Rattle.trampolines.specs.Words.{top, below_top, stands_in_code, top_standing_at, is_code}

pub top_last : {N : Type 0} (fs : List (Frame N)) (f : Frame N) → top (fs ++ f ∷ []) ≡ Some f
top_last [] f = refl
top_last (g ∷ []) f = refl
top_last (g ∷ (h ∷ fs)) f = top_last (h ∷ fs) f

pub below_last : {N : Type 0} (fs : List (Frame N)) (f : Frame N) → below_top (fs ++ f ∷ []) ≡ fs
below_last [] f = refl
below_last (g ∷ []) f = refl
below_last {N = N} (g ∷ (h ∷ fs)) f = ap (λ (rest : List (Frame N)). g ∷ rest) (below_last (h ∷ fs) f)

-- a stack with a top frame is that frame on those below it
pub split_top : {N : Type 0} (fs : List (Frame N)) (f : Frame N) → top fs ≡ Some f → fs ≡ below_top fs ++ f ∷ []
split_top {N = N} [] f e = cc
split_top {N = N} (g ∷ []) f e = let same : g ≡ f = cc in ap (λ (x : Frame N). x ∷ []) same
split_top {N = N} (g ∷ (h ∷ fs)) f e = ap (λ (rest : List (Frame N)). g ∷ rest) (split_top (h ∷ fs) f e)

pub top_got : {N : Type 0} (fs : List (Frame N)) → slice_get fs (length fs - 1) ≡ top fs
top_got [] = refl
top_got (f ∷ []) = refl
top_got (f ∷ (g ∷ fs)) =
    let place : length (f ∷ (g ∷ fs)) - 1 ≡ suc (length (g ∷ fs) - 1) = omega arith in
    ap (λ (k : ℕ). slice_get (f ∷ (g ∷ fs)) k) place ∙ top_got (g ∷ fs)

pub top_is : {N : Type 0} (fs : List (Frame N)) (k : ℕ) (f : Frame N) → k + 1 ≡ length fs → f ≡ get_or fs k f → top fs ≡ Some f
top_is [] k f at is = absurd (omega (arith, at))
top_is (g ∷ []) zero f at is = ap Some (sym is)
top_is (g ∷ []) (suc k) f at is = absurd (omega (arith, at))
top_is (g ∷ (h ∷ fs)) zero f at is = absurd (omega (arith, at))
top_is (g ∷ (h ∷ fs)) (suc k) f at is = top_is (h ∷ fs) k f (omega (arith, at)) is

pub set_top : {N : Type 0} (fs : List (Frame N)) (k : ℕ) (g : Frame N) → k + 1 ≡ length fs → slice_set fs k g ≡ below_top fs ++ g ∷ []
set_top {N = N} [] k g at = absurd (omega (arith, at))
set_top {N = N} (f ∷ []) zero g at = refl
set_top {N = N} (f ∷ []) (suc k) g at = absurd (omega (arith, at))
set_top {N = N} (f ∷ (h ∷ fs)) zero g at = absurd (omega (arith, at))
set_top {N = N} (f ∷ (h ∷ fs)) (suc k) g at = ap (λ (rest : List (Frame N)). f ∷ rest) (set_top (h ∷ fs) k g (omega (arith, at)))

pub code_is_there : {N : Type 0} (fs : List (Frame N)) → stands_in_code (top fs) ≡ true → 0 < length fs
code_is_there [] e = cc
code_is_there (f ∷ fs) e = omega arith

-- the top frame is one of code
pub no_native : {N : Type 0} (fs items : List (Frame N)) (k : ℕ) (f : Frame N) (held : List ℕ) (next : N) → stands_in_code (top fs) ≡ true
    → items ≡ fs → k + 1 ≡ length fs → f ≡ get_or items k f → f.body ≡ body.Native held next → ⊥
no_native {N = N} fs items k f held next code same at is native =
    let is_there : f ≡ get_or fs k f = is ∙ ap (λ (xs : List (Frame N)). get_or xs k f) same in
    let on_top : top fs ≡ Some f = top_is fs k f at is_there in
    let yes : is_code f.body ≡ true = ap stands_in_code (sym on_top) ∙ code in
    let not_code : is_code f.body ≡ false = ap is_code native in
    cc

pub set_standing : {N : Type 0} (fs items : List (Frame N)) (k line : ℕ) (f : Frame N) (registers held : List (Option Value))
    → items ≡ fs → k + 1 ≡ length fs → f ≡ get_or items k f → held ≡ registers
    → slice_set items k (record f { body = body.Code line held }) ≡ top_standing_at line registers fs (top fs)
set_standing {N = N} fs items k line f registers held same at is holds =
    let is_there : f ≡ get_or fs k f = is ∙ ap (λ (xs : List (Frame N)). get_or xs k f) same in
    let on_top : top fs ≡ Some f = top_is fs k f at is_there in
    ap (λ (xs : List (Frame N)). slice_set xs k (record f { body = body.Code line held })) same
    ∙ (set_top fs k (record f { body = body.Code line held }) at
    ∙ (ap (λ (r : List (Option Value)). below_top fs ++ record f { body = body.Code line r } ∷ []) holds
    ∙ ap (top_standing_at line registers fs) (sym on_top)))

pub top_got_is : {N : Type 0} (fs items : List (Frame N)) (o : Option (Frame N)) → items ≡ fs → o ≡ slice_get items (length items - 1) → o ≡ top fs
top_got_is fs items o same is = is ∙ (top_got items ∙ ap top same)

-- a stack whose last frame was taken
pub taken_gives : {N : Type 0} (fs items rest : List (Frame N)) (f : Frame N) → items ≡ fs → items ≡ rest ++ f ∷ [] → top fs ≡ Some f
taken_gives fs items rest f same split = ap top (sym same ∙ split) ∙ top_last rest f

pub taken_leaves : {N : Type 0} (fs items rest : List (Frame N)) (f : Frame N) → items ≡ fs → items ≡ rest ++ f ∷ [] → rest ≡ below_top fs
taken_leaves fs items rest f same split = sym (ap below_top (sym same ∙ split) ∙ below_last rest f)

pub last_place : {N : Type 0} (fs items : List (Frame N)) (n : ℕ) → stands_in_code (top fs) ≡ true → items ≡ fs → n ≡ length items
    → n - 1 + 1 ≡ length fs
last_place {N = N} fs items n code same many =
    let there : 0 < length fs = code_is_there fs code in
    let as_many : length items ≡ length fs = ap (λ (xs : List (Frame N)). length xs) same in
    omega arith
