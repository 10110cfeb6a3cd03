-- Who has a frame in an instance.
use Rattle.std.proofs.Common.{◌≡◌, ◌∙◌, ◌⊎◌, inl, inr, ℕ, zero, suc, ◌+◌, ◌-◌, ◌<◌, ◌≤◌, ◌≢◌, ◌==◌, ◌||◌, ◌&&◌, not, List, [], ◌∷◌, Option, Some, None, Bool, true, false, nat_lt, length, get_or, drop, refl, ap, sym, subst, arith, rules, add-one, drop-cons}
use Rattle.std.specs.List.{slice_get, list_any}
use Rattle.std.specs.Option.{unwrap_or}
use Rattle.std.proofs.lemmas.Bool.{cases_lt}
use Rattle.std.proofs.lemmas.Bool.Decides.{eqb_tells}
use Rattle.std.proofs.lemmas.Bool.{eq-eqb}
use Rattle.std.proofs.lemmas.Option.{slice_get_past}
use Rattle.machine_defs.specs.declared.frame.Frame.{Frame}
use Rattle.rl_defs.specs.Domains.{row}
use Rattle.trampolines.specs.Words.{is_in, others_in, stack_of, Holds}
use Rattle.trampolines.specs.Counted.{count_in, count_in_all, AreCounted}
use Rattle.trampolines.proofs.Counting.{stack_at, row_at, mark, mark_if}

or_none : (a b : Bool) → (a || b) ≡ false → (a ≡ false) × (b ≡ false)
or_none true b e = absurd cc
or_none false b e = (refl, e)

or_last : (a : Bool) → (a || true) ≡ true
or_last true = refl
or_last false = refl

and_last : (a : Bool) → (a && false) ≡ false
and_last true = refl
and_last false = refl

none_in : {N : Type 0} (i : ℕ) (fs : List (Frame N)) → count_in i fs ≡ 0 → is_in i fs ≡ false
none_in i [] none = refl
none_in i (f ∷ fs) none = elim (eqb_tells f.instance i) [
  | inl a ↦
      let one : mark f.instance i ≡ 1 = ap mark_if a.0 in
      absurd (omega (arith, none))
  | inr b ↦
      let rest : count_in i fs ≡ 0 = omega (arith, none) in
      ap (λ (c : Bool). c || is_in i fs) b.0 ∙ none_in i fs rest
]

some_in : {N : Type 0} (i : ℕ) (fs : List (Frame N)) → 0 < count_in i fs → is_in i fs ≡ true
some_in i [] some = absurd (omega (arith, some))
some_in i (f ∷ fs) some = elim (eqb_tells f.instance i) [
  | inl a ↦ ap (λ (c : Bool). c || is_in i fs) a.0
  | inr b ↦
      let nothing : mark f.instance i ≡ 0 = ap mark_if b.0 in
      ap (λ (c : Bool). c || is_in i fs) b.0 ∙ some_in i fs (omega (arith, some))
]

nobody_in : {N : Type 0} (i : ℕ) (ss : List (List (Frame N))) → count_in_all i ss ≡ 0 → list_any (is_in i) ss ≡ false
nobody_in i [] none = refl
nobody_in i (s ∷ ss) none =
    let here : count_in i s ≡ 0 = omega (arith, none) in
    let rest : count_in_all i ss ≡ 0 = omega (arith, none) in
    ap (λ (c : Bool). c || list_any (is_in i) ss) (none_in i s here) ∙ nobody_in i ss rest

somebody_in : {N : Type 0} (i : ℕ) (ss : List (List (Frame N))) → 0 < count_in_all i ss → list_any (is_in i) ss ≡ true
somebody_in i [] some = absurd (omega (arith, some))
somebody_in i (s ∷ ss) some = elim (cases_lt 0 (count_in i s)) [
  | inl a ↦ ap (λ (c : Bool). c || list_any (is_in i) ss) (some_in i s a)
  | inr b ↦
      let rest : 0 < count_in_all i ss = omega (arith, b, some) in
      ap (λ (c : Bool). is_in i s || c) (somebody_in i ss rest) ∙ or_last (is_in i s)
]

-- whether an instance is entered, by its count
pub entered_none : {N : Type 0} (cs : List ℕ) (ss now : List (List (Frame N))) (i : ℕ) → AreCounted cs ss → ss ≡ now
    → unwrap_or (row cs i) 0 ≡ 0 → false ≡ list_any (is_in i) now
entered_none {N = N} cs ss now i counted same none =
    sym (ap (λ (xs : List (List (Frame N))). list_any (is_in i) xs) (sym same) ∙ nobody_in i ss (counted i ∙ none))

pub entered_by : {N : Type 0} (cs : List ℕ) (ss now : List (List (Frame N))) (i n : ℕ) → AreCounted cs ss → ss ≡ now
    → unwrap_or (row cs i) 0 ≡ n → nat_lt 0 n ≡ list_any (is_in i) now
entered_by cs ss now i zero counted same is = entered_none cs ss now i counted same is
entered_by {N = N} cs ss now i (suc n) counted same is =
    let all : count_in_all i ss ≡ unwrap_or (row cs i) 0 = counted i in
    let positive : nat_lt 0 (suc n) ≡ true = search rules in
    positive ∙ sym (ap (λ (xs : List (List (Frame N))). list_any (is_in i) xs) (sym same) ∙ somebody_in i ss (omega arith))

-- nobody else is in an instance that nobody is in
pub no_others : {N : Type 0} (i but k : ℕ) (ss : List (List (Frame N))) → list_any (is_in i) ss ≡ false → others_in i but k ss ≡ false
no_others i but k [] none = refl
no_others i but k (s ∷ ss) none =
    let both : (is_in i s ≡ false) × (list_any (is_in i) ss ≡ false) = or_none (is_in i s) (list_any (is_in i) ss) none in
    ap (λ (c : Bool). (not (k == but) && c) || others_in i but (k + 1) ss) both.0
    ∙ (ap (λ (c : Bool). c || others_in i but (k + 1) ss) (and_last (not (k == but))) ∙ no_others i but (k + 1) ss both.1)

-- ---- the least client

-- client t is the first from k on who isn't `but` and has a frame in the instance
pub others_next : {N : Type 0} (i but k j n : ℕ) (ss : List (List (Frame N))) (d : List (Frame N)) → j < length ss → n ≡ k + 1
    → others_in i but k (drop j ss) ≡ ((not (k == but) && is_in i (get_or ss j d)) || others_in i but n (drop (j + 1) ss))
others_next {N = N} i but k j n ss d within next =
    let split : drop j ss ≡ get_or ss j d ∷ drop (j + 1) ss = rw add-one (drop-cons ss j d within) in
    ap (λ (xs : List (List (Frame N))). others_in i but k xs) split
    ∙ ap (λ (m : ℕ). (not (k == but) && is_in i (get_or ss j d)) || others_in i but m (drop (j + 1) ss)) (sym next)

-- nobody of the clients before one holds the instance
abbrev pub NobodyBefore : {N : Type 0} → ℕ → ℕ → List (List (Frame N)) → ℕ → Type 0
NobodyBefore i but ss t = (u : ℕ) → u < t → Holds i but ss u → ⊥

pub nobody_first : {N : Type 0} (i but : ℕ) (ss : List (List (Frame N))) → NobodyBefore i but ss 1
nobody_first i but ss zero below holds = cc (holds.1)
nobody_first i but ss (suc u) below holds = absurd (omega (arith, below))

pub nobody_more : {N : Type 0} (i but t : ℕ) (ss : List (List (Frame N))) (d : List (Frame N)) → 0 < t → t ≤ length ss → NobodyBefore i but ss t
    → (t ≡ but) ⊎ (is_in i (get_or ss (t - 1) d) ≡ false) → NobodyBefore i but ss (t + 1)
nobody_more {N = N} i but t ss d low within before here u below holds = elim (cases_lt u t) [
  | inl a ↦ before u a holds
  | inr b ↦
      let same : u ≡ t = omega (arith, b, below) in
      elim here [
        | inl e ↦ holds.0 (same ∙ e)
        | inr e ↦
            let there : is_in i (stack_of ss u) ≡ false =
            ap (λ (x : ℕ). is_in i (stack_of ss x)) same ∙ (ap (is_in i) (stack_at ss t d low within) ∙ e) in
            cc (there, holds.1)
      ]
]

-- a client holds the instance, and nobody before it
pub holds_first : {N : Type 0} (i but t : ℕ) (ss : List (List (Frame N))) (d : List (Frame N)) → 0 < t → t ≤ length ss → NobodyBefore i but ss t
    → t ≢ but → is_in i (get_or ss (t - 1) d) ≡ true → Holds i but ss t × ((u : ℕ) → Holds i but ss u → t ≤ u)
holds_first {N = N} i but t ss d low within before apart inside = (
  (apart, ap (is_in i) (stack_at ss t d low within) ∙ inside),
  λ (u : ℕ) (holds : Holds i but ss u). elim (cases_lt u t) [ inl a ↦ absurd (before u a holds) | inr b ↦ b ],
)

pub at_zero : (cs : List ℕ) (i : ℕ) → i ≡ 0 → unwrap_or (row cs i) 0 ≡ 0
at_zero cs zero e = refl
at_zero cs (suc k) e = absurd (omega (arith, e))

pub past_counts : (cs items : List ℕ) (i : ℕ) → items ≡ cs → length items < i → unwrap_or (row cs i) 0 ≡ 0
past_counts cs items zero same past = refl
past_counts cs items (suc k) same past =
    let as_many : length items ≡ length cs = ap (λ (xs : List ℕ). length xs) same in
    ap (λ (o : Option ℕ). unwrap_or o 0) (slice_get_past cs k (omega (arith, past)))

pub counted_at : (cs items : List ℕ) (i : ℕ) → items ≡ cs → i ≢ 0 → i ≤ length items → unwrap_or (row cs i) 0 ≡ get_or items (i - 1) 0
counted_at cs items i same apart within =
    let as_many : length items ≡ length cs = ap (λ (xs : List ℕ). length xs) same in
    row_at cs i 0 (omega (arith, apart)) (omega arith) ∙ sym (ap (λ (xs : List ℕ). get_or xs (i - 1) 0) same)

pub holds_least : {N : Type 0} (items now : List (List (Frame N))) (i but k j : ℕ) (d : List (Frame N)) → items ≡ now → k ≡ j → j < length items
    → NobodyBefore i but items (k + 1) → k + 1 ≢ but → is_in i d ≡ true → d ≡ get_or items j d → (t : ℕ) → Some (k + 1) ≡ Some t
    → Holds i but now t × ((u : ℕ) → Holds i but now u → t ≤ u)
holds_least {N = N} items now i but k j d same number within before apart inside is t e =
    let at : k + 1 - 1 ≡ j = omega arith in
    let first : Holds i but items (k + 1) × ((u : ℕ) → Holds i but items u → k + 1 ≤ u) =
    holds_first i but (k + 1) items d (omega arith) (omega (arith, within)) before apart
    (ap (λ (x : ℕ). is_in i (get_or items x d)) at ∙ (ap (λ (fs : List (Frame N)). is_in i fs) (sym is) ∙ inside)) in
    let there : Holds i but now (k + 1) × ((u : ℕ) → Holds i but now u → k + 1 ≤ u) =
    subst (λ (xs : List (List (Frame N))). Holds i but xs (k + 1) × ((u : ℕ) → Holds i but xs u → k + 1 ≤ u)) same first in
    let is_t : k + 1 ≡ t = cc in
    subst (λ (x : ℕ). Holds i but now x × ((u : ℕ) → Holds i but now u → x ≤ u)) is_t there

pub passed_on : {N : Type 0} (items : List (List (Frame N))) (i but k j : ℕ) (d : List (Frame N)) → j < length items → d ≡ get_or items j d
    → (k ≡ but) ⊎ (is_in i d ≡ false) → others_in i but k (drop j items) ≡ others_in i but 1 items
    → others_in i but (k + 1) (drop (j + 1) items) ≡ others_in i but 1 items
passed_on {N = N} items i but k j d within is here so_far =
    let next : others_in i but k (drop j items) ≡ ((not (k == but) && is_in i (get_or items j d)) || others_in i but (k + 1) (drop (j + 1) items)) =
    others_next i but k j (k + 1) items d within refl in
    let nobody : (not (k == but) && is_in i (get_or items j d)) ≡ false = elim here [
      | inl a ↦ ap (λ (b : Bool). not b && is_in i (get_or items j d)) (eq-eqb k but a)
      | inr b ↦ ap (λ (c : Bool). not (k == but) && c) (ap (λ (fs : List (Frame N)). is_in i fs) (sym is) ∙ b) ∙ and_last (not (k == but))
    ] in
    sym (next ∙ ap (λ (c : Bool). c || others_in i but (k + 1) (drop (j + 1) items)) nobody) ∙ so_far

pub nobody_on : {N : Type 0} (items : List (List (Frame N))) (i but k j : ℕ) (d : List (Frame N)) → k ≡ j + 1 → j < length items → d ≡ get_or items j d
    → (k ≡ but) ⊎ (is_in i d ≡ false) → NobodyBefore i but items k → NobodyBefore i but items (k + 1)
nobody_on {N = N} items i but k j d number within is here before =
    let at : k - 1 ≡ j = omega arith in
    let same : get_or items (k - 1) d ≡ d = ap (λ (x : ℕ). get_or items x d) at ∙ sym is in
    nobody_more i but k items d (omega arith) (omega (arith, within)) before (elim here [
      | inl a ↦ inl a
      | inr b ↦ inr (ap (λ (fs : List (Frame N)). is_in i fs) same ∙ b)
    ])
