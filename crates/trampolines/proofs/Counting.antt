-- Counts of frames.
use Rattle.std.proofs.Common.{◌≡◌, ◌∙◌, ◌⊎◌, inl, inr, ℕ, zero, suc, ◌+◌, ◌-◌, ◌*◌, ◌<◌, ◌≤◌, ◌≢◌, ◌==◌, ◌^◌, List, [], ◌∷◌, ◌++◌, Option, Some, None, Bool, true, false, All, length, take, get_or, slice_set, replicate, if◌then◌else◌, refl, ap, sym, subst, arith, rules}
use Rattle.std.specs.List.{slice_get}
use Rattle.std.specs.Option.{unwrap_or}
use Rattle.std.proofs.lemmas.Bool.{cases_lt}
use Rattle.std.proofs.lemmas.Bool.Decides.{eqb_tells}
use Rattle.std.proofs.lemmas.List.{get_or-set_same, get_or-set_other, length-set, length-append, length-replicate, get_or_default}
use Rattle.std.proofs.lemmas.List.Elements.{All-set, All-replicate, All-get_or}
use Rattle.std.proofs.lemmas.Option.{slice_get-get_or, slice_get_past, unwrap_or-slice_get}
use Rattle.machine_defs.specs.declared.frame.Frame.{Frame}
use Rattle.rl_defs.specs.declared.values.Value.{Value}
use Rattle.rl_defs.specs.Domains.{row}
use Rattle.trampolines.specs.Words.{top, below_top, frames_of, stack_of, top_standing_at, standing_at}
use Rattle.trampolines.specs.Counted.{count_in, count_in_all, AreCounted, IsLaid}
use Rattle.trampolines.proofs.Tops.{split_top}

-- ---- places

pub stack_at : {N : Type 0} (ss : List (List (Frame N))) (t : ℕ) (d : List (Frame N)) → 0 < t → t ≤ length ss → stack_of ss t ≡ get_or ss (t - 1) d
stack_at {N = N} ss zero d low within = absurd (omega (arith, low))
stack_at {N = N} ss (suc k) d low within =
    let at : suc k - 1 ≡ k = omega arith in
    let there : slice_get ss k ≡ Some (get_or ss k d) = slice_get-get_or ss k d (omega (arith, within)) in
    ap frames_of there ∙ ap (λ (i : ℕ). get_or ss i d) (sym at)

-- the stack at a client's place is the client's
pub at_place : {N : Type 0} (ss now : List (List (Frame N))) (t : ℕ) (fs : List (Frame N)) → ss ≡ now → (0 < t) × (t ≤ length now)
    → fs ≡ get_or ss (t - 1) fs → fs ≡ stack_of now t
at_place {N = N} ss now t fs same client is =
    is ∙ (ap (λ (xs : List (List (Frame N))). get_or xs (t - 1) fs) same ∙ sym (stack_at now t fs client.0 client.1))

pub put_there : {A : Type 0} (xs ys : List A) (k : ℕ) (x y : A) → xs ≡ ys → x ≡ y → slice_set xs k x ≡ slice_set ys k y
put_there {A = A} xs ys k x y same is = ap (λ (zs : List A). slice_set zs k x) same ∙ ap (λ (z : A). slice_set ys k z) is

pub row_at : (cs : List ℕ) (j d : ℕ) → 0 < j → j ≤ length cs → unwrap_or (row cs j) 0 ≡ get_or cs (j - 1) d
row_at cs zero d low within = absurd (omega (arith, low))
row_at cs (suc k) d low within =
    let at : suc k - 1 ≡ k = omega arith in
    unwrap_or-slice_get cs k 0 ∙ (get_or_default cs k 0 d (omega (arith, within)) ∙ ap (λ (i : ℕ). get_or cs i d) (sym at))

pub row_counted : (cs : List ℕ) (j : ℕ) → 0 < unwrap_or (row cs j) 0 → (0 < j) × (j ≤ length cs)
row_counted cs zero some = absurd (omega (arith, some))
row_counted cs (suc k) some = elim (cases_lt k (length cs)) [
  | inl a ↦ (omega arith, omega (arith, a))
  | inr b ↦
      let none : unwrap_or (slice_get cs k) 0 ≡ 0 = ap (λ (o : Option ℕ). unwrap_or o 0) (slice_get_past cs k b) in
      absurd (omega (arith, some))
]

pub row_set : (cs : List ℕ) (j v i : ℕ) → 0 < j → j ≤ length cs
    → ((j ≡ i) × (unwrap_or (row (slice_set cs (j - 1) v) i) 0 ≡ v))
    ⊎ ((j ≢ i) × (unwrap_or (row (slice_set cs (j - 1) v) i) 0 ≡ unwrap_or (row cs i) 0))
row_set cs j v zero low within =
    let apart : j ≢ zero = omega arith in
    inr (apart, refl)
row_set cs j v (suc k) low within = elim (eqb_tells j (suc k)) [
  | inl a ↦
      let same : j ≡ suc k = a.1 in
      let at : j - 1 ≡ k = omega arith in
      let set : get_or (slice_set cs (j - 1) v) (j - 1) 0 ≡ v = get_or-set_same cs (j - 1) v 0 (omega arith) in
      inl (same, unwrap_or-slice_get (slice_set cs (j - 1) v) k 0 ∙ (ap (λ (x : ℕ). get_or (slice_set cs (j - 1) v) x 0) (sym at) ∙ set))
  | inr b ↦
      let apart : j ≢ suc k = b.1 in
      let other : k ≢ j - 1 = omega arith in
      inr (apart, unwrap_or-slice_get (slice_set cs (j - 1) v) k 0 ∙ (get_or-set_other cs (j - 1) k v 0 other ∙ sym (unwrap_or-slice_get cs k 0)))
]

-- ---- counts of frames

-- 1 for a frame of the instance
abbrev pub mark_if : Bool → ℕ
mark_if b = if b then 1 else 0

abbrev pub mark : ℕ → ℕ → ℕ
mark j i = mark_if (j == i)

pub count_last : {N : Type 0} (i : ℕ) (fs : List (Frame N)) (f : Frame N)
    → count_in i (fs ++ f ∷ []) ≡ count_in i fs + mark f.instance i
count_last i [] f = omega arith
count_last i (g ∷ fs) f =
    let rest : count_in i (fs ++ f ∷ []) ≡ count_in i fs + mark f.instance i = count_last i fs f in
    omega arith

pub count_set : {N : Type 0} (i : ℕ) (ss : List (List (Frame N))) (p : ℕ) (fs d new : List (Frame N)) → p < length ss → fs ≡ get_or ss p d
    → count_in_all i (slice_set ss p new) + count_in i fs ≡ count_in_all i ss + count_in i new
count_set i [] p fs d new within is = absurd (omega (arith, within))
count_set {N = N} i (s ∷ ss) zero fs d new within is =
    let same : count_in i fs ≡ count_in i s = ap (λ (xs : List (Frame N)). count_in i xs) is in
    omega arith
count_set i (s ∷ ss) (suc p) fs d new within is =
    let rest : count_in_all i (slice_set ss p new) + count_in i fs ≡ count_in_all i ss + count_in i new =
    count_set i ss p fs d new (omega (arith, within)) is in
    omega arith

pub count_within : {N : Type 0} (i : ℕ) (ss : List (List (Frame N))) (p : ℕ) (fs d : List (Frame N)) → p < length ss → fs ≡ get_or ss p d
    → count_in i fs ≤ count_in_all i ss
count_within i [] p fs d within is = absurd (omega (arith, within))
count_within {N = N} i (s ∷ ss) zero fs d within is =
    let same : count_in i fs ≡ count_in i s = ap (λ (xs : List (Frame N)). count_in i xs) is in
    omega arith
count_within i (s ∷ ss) (suc p) fs d within is =
    let rest : count_in i fs ≤ count_in_all i ss = count_within i ss p fs d (omega (arith, within)) is in
    omega arith

one_at_most : (b : Bool) → mark_if b ≤ 1
one_at_most true = omega arith
one_at_most false = omega arith

count_few : {N : Type 0} (i : ℕ) (fs : List (Frame N)) → count_in i fs ≤ length fs
count_few i [] = omega arith
count_few i (f ∷ fs) =
    let rest : count_in i fs ≤ length fs = count_few i fs in
    let one : mark f.instance i ≤ 1 = one_at_most (f.instance == i) in
    omega arith

pub count_all_few : {N : Type 0} (i : ℕ) (ss : List (List (Frame N))) → All (λ fs. length fs ≤ 31) ss → count_in_all i ss ≤ 31 * length ss
count_all_few i [] heights = omega arith
count_all_few i (s ∷ ss) heights =
    let first : length s ≤ 31 = heights 0 [] (omega arith) in
    let here : count_in i s ≤ length s = count_few i s in
    let rest : count_in_all i ss ≤ 31 * length ss = count_all_few i ss (λ k d (below : k < length ss). heights (suc k) d (omega (arith, below))) in
    omega arith

-- ---- the stacks beside their counts

counted_step : {N : Type 0} (cs : List ℕ) (ss new : List (List (Frame N))) (j v : ℕ) → AreCounted cs ss → 0 < j → j ≤ length cs
    → ((i : ℕ) → j ≡ i → count_in_all i new ≡ v) → ((i : ℕ) → j ≢ i → count_in_all i new ≡ count_in_all i ss)
    → AreCounted (slice_set cs (j - 1) v) new
counted_step cs ss new j v counted low within here others i = elim (row_set cs j v i low within) [
  | inl a ↦ here i a.0 ∙ sym a.1
  | inr b ↦ others i b.0 ∙ (counted i ∙ sym b.1)
]

-- one frame of instance j more or less on a stack
one_of : (j i : ℕ) → ((j ≡ i) × (mark j i ≡ 1)) ⊎ ((j ≢ i) × (mark j i ≡ 0))
one_of j i = elim (eqb_tells j i) [
  | inl a ↦ inl (a.1, ap mark_if a.0)
  | inr b ↦ inr (b.1, ap mark_if b.0)
]

one_here : (j i : ℕ) → j ≡ i → mark j i ≡ 1
one_here j i same = elim (one_of j i) [ inl a ↦ a.1 | inr b ↦ absurd (b.0 same) ]

none_here : (j i : ℕ) → j ≢ i → mark j i ≡ 0
none_here j i apart = elim (one_of j i) [ inl a ↦ absurd (apart a.0) | inr b ↦ b.1 ]

pub few_counted : {N : Type 0} (cs : List ℕ) (ss : List (List (Frame N))) (j n : ℕ) → IsLaid cs ss → 0 < j → j ≤ length cs
    → n ≡ get_or cs (j - 1) n → n < 2 ^ 37
few_counted cs ss j n laid low within is =
    let all : count_in_all j ss ≡ unwrap_or (row cs j) 0 = laid.counted j in
    let there : unwrap_or (row cs j) 0 ≡ get_or cs (j - 1) n = row_at cs j n low within in
    let few : count_in_all j ss ≤ 31 * length ss = count_all_few j ss laid.heights in
    let clients : length ss < 2 ^ 32 = laid.clients in
    omega arith

pub laid_push : {N : Type 0} (cs : List ℕ) (ss : List (List (Frame N))) (p n : ℕ) (fs new : List (Frame N)) (f : Frame N) → IsLaid cs ss
    → p < length ss → fs ≡ get_or ss p fs → length fs < 31 → 0 < f.instance → f.instance ≤ length cs → n ≡ get_or cs (f.instance - 1) n
    → new ≡ fs ++ f ∷ [] → IsLaid (slice_set cs (f.instance - 1) (n + 1)) (slice_set ss p new)
laid_push {N = N} cs ss p n fs new f laid within is room low high counts ends =
    let more : (i : ℕ) → count_in i new ≡ count_in i fs + mark f.instance i =
    λ i. ap (λ (xs : List (Frame N)). count_in i xs) ends ∙ count_last i fs f in
    record {
      counted = counted_step cs ss (slice_set ss p new) f.instance (n + 1) laid.counted low high
          (λ (i : ℕ) (same : f.instance ≡ i).
          let set : count_in_all i (slice_set ss p new) + count_in i fs ≡ count_in_all i ss + count_in i new = count_set i ss p fs fs new within is in
          let here : count_in i new ≡ count_in i fs + mark f.instance i = more i in
          let one : mark f.instance i ≡ 1 = one_here f.instance i same in
          let before : count_in_all i ss ≡ unwrap_or (row cs i) 0 = laid.counted i in
          let at : unwrap_or (row cs f.instance) 0 ≡ get_or cs (f.instance - 1) n = row_at cs f.instance n low high in
          let moved : unwrap_or (row cs i) 0 ≡ unwrap_or (row cs f.instance) 0 = ap (λ (k : ℕ). unwrap_or (row cs k) 0) (sym same) in
          omega arith)
          (λ (i : ℕ) (apart : f.instance ≢ i).
          let set : count_in_all i (slice_set ss p new) + count_in i fs ≡ count_in_all i ss + count_in i new = count_set i ss p fs fs new within is in
          let here : count_in i new ≡ count_in i fs + mark f.instance i = more i in
          let none : mark f.instance i ≡ 0 = none_here f.instance i apart in
          omega arith);
      heights =
          let long : length new ≡ length fs + 1 = ap (λ (xs : List (Frame N)). length xs) ends ∙ length-append fs (f ∷ []) in
          All-set (λ (xs : List (Frame N)). length xs ≤ 31) ss p new (omega arith) laid.heights;
      clients = let same : length (slice_set ss p new) ≡ length ss = length-set ss p new in let few : length ss < 2 ^ 32 = laid.clients in omega arith;
    }

-- a frame that stands on a stack is counted
pub top_counted : {N : Type 0} (cs : List ℕ) (ss : List (List (Frame N))) (p : ℕ) (fs : List (Frame N)) (f : Frame N) → IsLaid cs ss
    → p < length ss → fs ≡ get_or ss p fs → top fs ≡ Some f
    → (0 < f.instance) × (f.instance ≤ length cs) × (0 < unwrap_or (row cs f.instance) 0)
top_counted {N = N} cs ss p fs f laid within is on_top =
    let split : fs ≡ below_top fs ++ f ∷ [] = split_top fs f on_top in
    let more : count_in f.instance fs ≡ count_in f.instance (below_top fs) + mark f.instance f.instance =
    ap (λ (xs : List (Frame N)). count_in f.instance xs) split ∙ count_last f.instance (below_top fs) f in
    let one : mark f.instance f.instance ≡ 1 = one_here f.instance f.instance refl in
    let here : count_in f.instance fs ≤ count_in_all f.instance ss = count_within f.instance ss p fs fs within is in
    let all : count_in_all f.instance ss ≡ unwrap_or (row cs f.instance) 0 = laid.counted f.instance in
    let some : 0 < unwrap_or (row cs f.instance) 0 = omega arith in
    let places : (0 < f.instance) × (f.instance ≤ length cs) = row_counted cs f.instance some in
    (places.0, places.1, some)

pub laid_pop : {N : Type 0} (cs : List ℕ) (ss : List (List (Frame N))) (p n : ℕ) (fs new : List (Frame N)) (f : Frame N) → IsLaid cs ss
    → p < length ss → fs ≡ get_or ss p fs → top fs ≡ Some f → new ≡ below_top fs → n ≡ get_or cs (f.instance - 1) n
    → IsLaid (slice_set cs (f.instance - 1) (n - 1)) (slice_set ss p new)
laid_pop {N = N} cs ss p n fs new f laid within is on_top leaves counts =
    let known : (0 < f.instance) × (f.instance ≤ length cs) × (0 < unwrap_or (row cs f.instance) 0) = top_counted cs ss p fs f laid within is on_top in
    let split : fs ≡ new ++ f ∷ [] = split_top fs f on_top ∙ ap (λ (xs : List (Frame N)). xs ++ f ∷ []) (sym leaves) in
    let less : (i : ℕ) → count_in i fs ≡ count_in i new + mark f.instance i =
    λ i. ap (λ (xs : List (Frame N)). count_in i xs) split ∙ count_last i new f in
    record {
      counted = counted_step cs ss (slice_set ss p new) f.instance (n - 1) laid.counted known.0 known.1
          (λ (i : ℕ) (same : f.instance ≡ i).
          let set : count_in_all i (slice_set ss p new) + count_in i fs ≡ count_in_all i ss + count_in i new = count_set i ss p fs fs new within is in
          let here : count_in i fs ≡ count_in i new + mark f.instance i = less i in
          let one : mark f.instance i ≡ 1 = one_here f.instance i same in
          let before : count_in_all i ss ≡ unwrap_or (row cs i) 0 = laid.counted i in
          let at : unwrap_or (row cs f.instance) 0 ≡ get_or cs (f.instance - 1) n = row_at cs f.instance n known.0 known.1 in
          let moved : unwrap_or (row cs i) 0 ≡ unwrap_or (row cs f.instance) 0 = ap (λ (k : ℕ). unwrap_or (row cs k) 0) (sym same) in
          omega arith)
          (λ (i : ℕ) (apart : f.instance ≢ i).
          let set : count_in_all i (slice_set ss p new) + count_in i fs ≡ count_in_all i ss + count_in i new = count_set i ss p fs fs new within is in
          let here : count_in i fs ≡ count_in i new + mark f.instance i = less i in
          let none : mark f.instance i ≡ 0 = none_here f.instance i apart in
          omega arith);
      heights =
          let long : length fs ≡ length new + 1 = ap (λ (xs : List (Frame N)). length xs) split ∙ length-append new (f ∷ []) in
          let high : length (get_or ss p fs) ≤ 31 = laid.heights p fs within in
          let same : length fs ≡ length (get_or ss p fs) = ap (λ (xs : List (Frame N)). length xs) is in
          All-set (λ (xs : List (Frame N)). length xs ≤ 31) ss p new (omega arith) laid.heights;
      clients = let same : length (slice_set ss p new) ≡ length ss = length-set ss p new in let few : length ss < 2 ^ 32 = laid.clients in omega arith;
    }

-- a stack with as many frames of each instance, and as high
pub laid_same : {N : Type 0} (cs : List ℕ) (ss : List (List (Frame N))) (p : ℕ) (fs new : List (Frame N)) → IsLaid cs ss
    → p < length ss → fs ≡ get_or ss p fs → ((i : ℕ) → count_in i new ≡ count_in i fs) → length new ≡ length fs → IsLaid cs (slice_set ss p new)
laid_same {N = N} cs ss p fs new laid within is alike long = record {
  counted = λ i.
      let set : count_in_all i (slice_set ss p new) + count_in i fs ≡ count_in_all i ss + count_in i new = count_set i ss p fs fs new within is in
      let here : count_in i new ≡ count_in i fs = alike i in
      let before : count_in_all i ss ≡ unwrap_or (row cs i) 0 = laid.counted i in
      omega arith;
  heights =
      let high : length (get_or ss p fs) ≤ 31 = laid.heights p fs within in
      let same : length fs ≡ length (get_or ss p fs) = ap (λ (xs : List (Frame N)). length xs) is in
      All-set (λ (xs : List (Frame N)). length xs ≤ 31) ss p new (omega arith) laid.heights;
  clients = let same : length (slice_set ss p new) ≡ length ss = length-set ss p new in let few : length ss < 2 ^ 32 = laid.clients in omega arith;
}

-- another line and other registers of the top frame
stand_alike : {N : Type 0} (i line : ℕ) (registers : List (Option Value)) (fs : List (Frame N)) (o : Option (Frame N)) → top fs ≡ o
    → (count_in i (top_standing_at line registers fs o) ≡ count_in i fs) × (length (top_standing_at line registers fs o) ≡ length fs)
stand_alike i line registers fs None on_top = (refl, refl)
stand_alike {N = N} i line registers fs (Some f) on_top =
    let split : fs ≡ below_top fs ++ f ∷ [] = split_top fs f on_top in
    let before : count_in i fs ≡ count_in i (below_top fs) + mark f.instance i =
    ap (λ (xs : List (Frame N)). count_in i xs) split ∙ count_last i (below_top fs) f in
    let after : count_in i (below_top fs ++ standing_at line registers f ∷ []) ≡ count_in i (below_top fs) + mark f.instance i =
    count_last i (below_top fs) (standing_at line registers f) in
    let high : length fs ≡ length (below_top fs) + 1 =
    ap (λ (xs : List (Frame N)). length xs) split ∙ length-append (below_top fs) (f ∷ []) in
    let high_too : length (below_top fs ++ standing_at line registers f ∷ []) ≡ length (below_top fs) + 1 =
    length-append (below_top fs) (standing_at line registers f ∷ []) in
    (after ∙ sym before, high_too ∙ sym high)

pub laid_stand : {N : Type 0} (cs : List ℕ) (ss : List (List (Frame N))) (p line : ℕ) (registers : List (Option Value)) (fs new : List (Frame N))
    → IsLaid cs ss → p < length ss → fs ≡ get_or ss p fs → new ≡ top_standing_at line registers fs (top fs) → IsLaid cs (slice_set ss p new)
laid_stand {N = N} cs ss p line registers fs new laid within is stands =
    laid_same cs ss p fs new laid within is
    (λ (i : ℕ). ap (λ (xs : List (Frame N)). count_in i xs) stands ∙ (stand_alike i line registers fs (top fs) refl).0)
    (ap (λ (xs : List (Frame N)). length xs) stands ∙ (stand_alike 0 line registers fs (top fs) refl).1)

zeros : (n k : ℕ) → ◌≡◌ {A = ℕ} (get_or (replicate n 0) k 0) 0
zeros zero k = refl
zeros (suc n) zero = refl
zeros (suc n) (suc k) = zeros n k

no_row : (n i : ℕ) → ◌≡◌ {A = ℕ} (unwrap_or (row (replicate n 0) i) 0) 0
no_row n zero = refl
no_row n (suc k) = unwrap_or-slice_get (replicate n 0) k 0 ∙ zeros n k

count_none : {N : Type 0} (i : ℕ) (ss : List (List (Frame N))) → All (λ fs. fs ≡ []) ss → count_in_all i ss ≡ 0
count_none i [] empty = refl
count_none {N = N} i (s ∷ ss) empty =
    let none : count_in i s ≡ 0 = ap (λ (xs : List (Frame N)). count_in i xs) (empty 0 [] (omega arith)) in
    let rest : count_in_all i ss ≡ 0 = count_none i ss (λ k d (below : k < length ss). empty (suc k) d (omega (arith, below))) in
    omega arith

-- empty stacks
pub laid_none : {N : Type 0} (n clients : ℕ) (cs : List ℕ) (ss : List (List (Frame N))) → clients < 2 ^ 32 → cs ≡ replicate n 0 → ss ≡ replicate clients []
    → IsLaid cs ss
laid_none {N = N} n clients cs ss few counts stacks = record {
  counted = λ i.
      let none : count_in_all i ss ≡ 0 = ap (λ (xs : List (List (Frame N))). count_in_all i xs) stacks
      ∙ count_none i (replicate clients []) (All-replicate (λ (fs : List (Frame N)). fs ≡ []) clients [] refl) in
      none ∙ sym (ap (λ (xs : List ℕ). unwrap_or (row xs i) 0) counts ∙ no_row n i);
  heights = subst (λ (xs : List (List (Frame N))). All (λ (fs : List (Frame N)). length fs ≤ 31) xs) (sym stacks)
      (All-replicate (λ (fs : List (Frame N)). length fs ≤ 31) clients [] (omega arith));
  clients = let many : length ss ≡ clients = ap (λ (xs : List (List (Frame N))). length xs) stacks ∙ length-replicate clients [] in omega arith;
}

-- ---- what a call gives them

pub within_laid : {N : Type 0} (ss now : List (List (Frame N))) (t : ℕ) → ss ≡ now → (0 < t) × (t ≤ length now) → t - 1 < length ss
within_laid {N = N} ss now t same client =
    let many : length ss ≡ length now = ap (λ (xs : List (List (Frame N))). length xs) same in
    let low : 0 < t = client.0 in
    let high : t ≤ length now = client.1 in
    omega arith

pub counted_laid : (cs : List ℕ) (n j : ℕ) → length cs ≡ n → j ≤ n → j ≤ length cs
counted_laid cs n j many within = omega arith

pub high_laid : {N : Type 0} (ss now : List (List (Frame N))) (t : ℕ) (fs : List (Frame N)) → ss ≡ now → (0 < t) × (t ≤ length now)
    → fs ≡ get_or ss (t - 1) fs → length (stack_of now t) < 31 → length fs < 31
high_laid {N = N} ss now t fs same client is room =
    let as_high : length fs ≡ length (stack_of now t) = ap (λ (xs : List (Frame N)). length xs) (at_place ss now t fs same client is) in
    omega arith

pub number_laid : {N : Type 0} (cs : List ℕ) (ss : List (List (Frame N))) (p n : ℕ) (fs : List (Frame N)) (f : Frame N) → IsLaid cs ss
    → p < length ss → fs ≡ get_or ss p fs → top fs ≡ Some f → n ≡ get_or cs (f.instance - 1) n → 1 ≤ n
number_laid {N = N} cs ss p n fs f laid within is on_top counts =
    let known : (0 < f.instance) × (f.instance ≤ length cs) × (0 < unwrap_or (row cs f.instance) 0) = top_counted cs ss p fs f laid within is on_top in
    let at : unwrap_or (row cs f.instance) 0 ≡ get_or cs (f.instance - 1) n = row_at cs f.instance n known.0 known.1 in
    let some : 0 < unwrap_or (row cs f.instance) 0 = known.2 in
    omega arith

take_of_none : (n : ℕ) (old : List ℕ) → old ≡ [] → take n old ≡ []
take_of_none zero [] e = refl
take_of_none (suc n) [] e = refl
take_of_none n (x ∷ xs) e = cc

pub made_none : (n len : ℕ) (old new : List ℕ) → old ≡ [] → len ≡ 0 → new ≡ take n old ++ replicate (n - len) 0 → new ≡ replicate n 0
made_none n len old new e l h =
    let none : take n old ≡ [] = take_of_none n old e in
    let many : n - len ≡ n = omega arith in
    h ∙ rw (none, many) refl
