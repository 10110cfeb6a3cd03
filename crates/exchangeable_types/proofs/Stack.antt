-- What a walk knows, step by step.
use Rattle.std.proofs.Common.{◌≡◌, ◌≢◌, ℕ, true, false, zero, suc, ◌+◌, ◌*◌, ◌<◌, ◌≤◌, List, [], ◌∷◌, ◌++◌, length, Some, ◌⊎◌, inl, inr, refl, sym, ap, subst, ◌∙◌, arith, length-append}
use Rattle.std.specs.Prelude.{slice_get, slice_set, Result, Ok, Err, OnOk}
use Rattle.std.proofs.lemmas.List.{length-set}
use Rattle.std.proofs.lemmas.Bool.{cases_lt}
use Rattle.rl_defs.proofs.Places.{get_front, get_seam, get_within, get_last, get_set_same, get_set_other, get_set}
use Rattle.rl_defs.proofs.HoldingLaws.{reaches_more, reaches_field, endless_by_field}
use Rattle.rl_defs.specs.Interfaces.{Lines, types_at, struct_names}
use Rattle.rl_defs.specs.Holding.{HasField, Reaches, IsEndless}
use Rattle.exchangeable_types.specs.declared.cells.Cells.{Cells}
use Rattle.exchangeable_types.specs.declared.walk.State.{State}
use Rattle.exchangeable_types.specs.declared.walk.State.TheVariants.{New, Open, Endless, Ended}
use Rattle.exchangeable_types.specs.declared.walk.Visit.{Visit}
use Rattle.exchangeable_types.specs.Capped.{CellsOf}
use Rattle.exchangeable_types.specs.declared.cells.Cells.TheVariants.{Few}
use Rattle.rl_defs.specs.declared.tables.Kind.{Kind}
use Rattle.exchangeable_types.specs.Walk.{IsVisit, Walking, Entered, StartsAt, StaysVisited, WaitsFor, unseen, fresh, is_new, Stepped, Visited, Walked, WalkedTo}
use Rattle.exchangeable_types.proofs.Starts.{types_at_start}
use Rattle.exchangeable_types.proofs.Capping.{no_cells}

-- the top of the stack
pub top_state : (lines : Lines) (states : List State) (stack : List Visit) (v : Visit) → Walking lines states (stack ++ v ∷ []) → slice_get states v.number ≡ Some (Open (length stack))
top_state lines states stack v w = (w.visits (length stack) v (get_seam stack v [])).1

-- below the top no visit has its number
below_top : (lines : Lines) (states : List State) (stack : List Visit) (v : Visit) → Walking lines states (stack ++ v ∷ []) → (i : ℕ) (u : Visit) → slice_get stack i ≡ Some u → u.number ≢ v.number
below_top lines states stack v w i u e same =
    let lt = get_within stack i u e in
    let at = (w.visits i u (get_front stack (v ∷ []) i u e)).1 in
    let top = top_state lines states stack v w in
    let both : slice_get states u.number ≡ Some (Open (length stack)) = subst (λ (n : ℕ). slice_get states n ≡ Some (Open (length stack))) (sym same) top in
    let opens : Some (Open i) ≡ Some (Open (length stack)) = sym at ∙ both in
    let is : i ≡ length stack = cc in
    omega arith

-- the struct on top of the stack is decided
pub decided : (lines : Lines) (states : List State) (stack : List Visit) (v : Visit) (y : State) → Walking lines states (stack ++ v ∷ []) → ((cells : Cells) → y ≡ Ended cells → CellsOf lines 512 (types_at lines v.number) cells) → (y ≡ Endless → IsEndless lines v.number) → ((i : ℕ) → y ≡ Open i → ⊥) → Walking lines (slice_set states v.number y) stack
decided lines states stack v y w known endless closed = record {
  count = length-set states v.number y ∙ w.count;
  knows = λ s cells e. elim (get_set states v.number s y (Ended cells) e) [
    | inl a ↦ subst (λ (n : ℕ). CellsOf lines 512 (types_at lines n) cells) (sym a.0) (known cells (sym a.1))
    | inr b ↦ w.knows s cells b.1
  ];
  endless = λ s e. elim (get_set states v.number s y Endless e) [
    | inl a ↦ subst (λ (n : ℕ). IsEndless lines n) (sym a.0) (endless (sym a.1))
    | inr b ↦ w.endless s b.1
  ];
  opened = λ s i e. elim (get_set states v.number s y (Open i) e) [
    | inl a ↦ absurd (closed i (sym a.1))
    | inr b ↦ opened_below s i b.0 (w.opened s i b.1)
  ];
  visits = λ i u e. ((w.visits i u (get_front stack (v ∷ []) i u e)).0, get_set_other states v.number u.number y (below_top lines states stack v w i u e) ∙ (w.visits i u (get_front stack (v ∷ []) i u e)).1);
  trail = λ i j u t lt a b. w.trail i j u t lt (get_front stack (v ∷ []) i u a) (get_front stack (v ∷ []) j t b);
} where
  opened_below : (s i : ℕ) → s ≢ v.number → (u : Visit) × (slice_get (stack ++ v ∷ []) i ≡ Some u) × (u.number ≡ s) → (u : Visit) × (slice_get stack i ≡ Some u) × (u.number ≡ s)
  opened_below s i ne o = elim (get_last stack v i o.0 o.1) [
    | inl a ↦ (o.0, a, o.2)
    | inr b ↦ absurd (ne (sym o.2 ∙ ap (λ (x : Visit). x.number) b.1))
  ]

-- a new struct is entered
pub entered : (lines : Lines) (states : List State) (stack : List Visit) (g : Visit) → Walking lines states stack → slice_get states g.number ≡ Some New → IsVisit lines g → ((i : ℕ) (u : Visit) → slice_get stack i ≡ Some u → Reaches lines u.number g.number) → Walking lines (slice_set states g.number (Open (length stack))) (stack ++ g ∷ [])
entered lines states stack g w new visit below = record {
  count = length-set states g.number (Open (length stack)) ∙ w.count;
  knows = λ s cells e. elim (get_set states g.number s (Open (length stack)) (Ended cells) e) [ inl a ↦ absurd (let h = a.1 in cc) | inr b ↦ w.knows s cells b.1 ];
  endless = λ s e. elim (get_set states g.number s (Open (length stack)) Endless e) [ inl a ↦ absurd (let h = a.1 in cc) | inr b ↦ w.endless s b.1 ];
  opened = λ s i e. elim (get_set states g.number s (Open (length stack)) (Open i) e) [
    | inl a ↦ (g, subst (λ (n : ℕ). slice_get (stack ++ g ∷ []) n ≡ Some g) (let h = a.1 in cc) (get_seam stack g []), sym a.0)
    | inr b ↦ let o = w.opened s i b.1 in (o.0, get_front stack (g ∷ []) i o.0 o.1, o.2)
  ];
  visits = λ i u e. elim (get_last stack g i u e) [
    | inl a ↦ ((w.visits i u a).0, get_set_other states g.number u.number (Open (length stack)) (fresh i u a) ∙ (w.visits i u a).1)
    | inr b ↦ (subst (λ (x : Visit). IsVisit lines x) (sym b.1) visit, top_set i u b.0 b.1)
  ];
  trail = λ i j u t lt a b. elim (get_last stack g j t b) [
    | inl d ↦ w.trail i j u t lt (lower i u (omega (arith, lt, get_within stack j t d)) a) d
    | inr d ↦ subst (λ (x : Visit). Reaches lines u.number x.number) (sym d.1) (below i u (lower i u (omega (arith, lt, d.0)) a))
  ];
} where
  fresh : (i : ℕ) (u : Visit) → slice_get stack i ≡ Some u → u.number ≢ g.number
  fresh i u e same =
      let at = (w.visits i u e).1 in
      let there : slice_get states u.number ≡ Some New = subst (λ (n : ℕ). slice_get states n ≡ Some New) (sym same) new in
      cc

  top_set : (i : ℕ) (u : Visit) → i ≡ length stack → u ≡ g → slice_get (slice_set states g.number (Open (length stack))) u.number ≡ Some (Open i)
  top_set i u at same =
      let set = get_set_same states g.number (Open (length stack)) (get_within states g.number New new) in
      subst (λ (n : ℕ). slice_get (slice_set states g.number (Open (length stack))) u.number ≡ Some (Open n)) (sym at)
      (subst (λ (x : Visit). slice_get (slice_set states g.number (Open (length stack))) x.number ≡ Some (Open (length stack))) (sym same) set)

  lower : (i : ℕ) (u : Visit) → i < length stack → slice_get (stack ++ g ∷ []) i ≡ Some u → slice_get stack i ≡ Some u
  lower i u lt e = elim (get_last stack g i u e) [ inl a ↦ a | inr b ↦ absurd (omega (arith, b.0, lt)) ]

-- the visit on top has gone on
pub went_on : (lines : Lines) (states : List State) (stack : List Visit) (v v' : Visit) → Walking lines states (stack ++ v ∷ []) → v'.number ≡ v.number → IsVisit lines v' → Walking lines states (stack ++ v' ∷ [])
went_on lines states stack v v' w same visit = record {
  count = w.count;
  knows = w.knows;
  endless = w.endless;
  opened = λ s i e. let o = w.opened s i e in elim (get_last stack v i o.0 o.1) [
    | inl a ↦ (o.0, get_front stack (v' ∷ []) i o.0 a, o.2)
    | inr b ↦ (v', subst (λ (n : ℕ). slice_get (stack ++ v' ∷ []) n ≡ Some v') (sym b.0) (get_seam stack v' []), same ∙ sym (ap (λ (x : Visit). x.number) b.1) ∙ o.2)
  ];
  visits = λ i u e. elim (get_last stack v' i u e) [
    | inl a ↦ w.visits i u (get_front stack (v ∷ []) i u a)
    | inr b ↦ (subst (λ (x : Visit). IsVisit lines x) (sym b.1) visit, top i u b.0 b.1)
  ];
  trail = λ i j u t lt a b. elim (get_last stack v' j t b) [
    | inl d ↦ w.trail i j u t lt (get_front stack (v ∷ []) i u (lower i u (omega (arith, lt, get_within stack j t d)) a)) (get_front stack (v ∷ []) j t d)
    | inr d ↦ subst (λ (n : ℕ). Reaches lines u.number n) (sym same ∙ sym (ap (λ (x : Visit). x.number) d.1)) (w.trail i (length stack) u v (omega (arith, lt, d.0)) (get_front stack (v ∷ []) i u (lower i u (omega (arith, lt, d.0)) a)) (get_seam stack v []))
  ];
} where
  top : (i : ℕ) (u : Visit) → i ≡ length stack → u ≡ v' → slice_get states u.number ≡ Some (Open i)
  top i u at is =
      subst (λ (n : ℕ). slice_get states u.number ≡ Some (Open n)) (sym at)
      (subst (λ (n : ℕ). slice_get states n ≡ Some (Open (length stack))) (sym same ∙ sym (ap (λ (x : Visit). x.number) is)) (top_state lines states stack v w))

  lower : (i : ℕ) (u : Visit) → i < length stack → slice_get (stack ++ v' ∷ []) i ≡ Some u → slice_get stack i ≡ Some u
  lower i u lt e = elim (get_last stack v' i u e) [ inl a ↦ a | inr b ↦ absurd (omega (arith, b.0, lt)) ]

-- all visits lead to what the top waits for
pub leads_on : (lines : Lines) (states : List State) (stack : List Visit) (v : Visit) (t : ℕ) → Walking lines states (stack ++ v ∷ []) → HasField lines v.number t → (i : ℕ) (u : Visit) → slice_get (stack ++ v ∷ []) i ≡ Some u → Reaches lines u.number t
leads_on lines states stack v t w field i u e = elim (get_last stack v i u e) [
  | inl a ↦ reaches_more lines u.number v.number t (w.trail i (length stack) u v (get_within stack i u a) e (get_seam stack v [])) field
  | inr b ↦ subst (λ (x : Visit). Reaches lines x.number t) (sym b.1) (reaches_field lines v.number t field)
]

endless_step : (lines : Lines) (states : List State) (stack : List Visit) (v : Visit) (t : ℕ) (x : State) → Walking lines states (stack ++ v ∷ []) → HasField lines v.number t → slice_get states t ≡ Some x → (x ≡ New → ⊥) → ((cells : Cells) → x ≡ Ended cells → ⊥) → IsEndless lines v.number
endless_step lines states stack v t New w field e old unended = absurd (old refl)
endless_step lines states stack v t (Ended cells) w field e old unended = absurd (unended cells refl)
endless_step lines states stack v t Endless w field e old unended = endless_by_field lines v.number t field (w.endless t e)
endless_step lines states stack v t (Open i) w field e old unended =
    let o = w.opened t i e in
    let round = subst (λ (n : ℕ). Reaches lines n t) o.2 (leads_on lines states stack v t w field i o.0 o.1) in
    (t, reaches_field lines v.number t field, round)

-- the top waits for a struct that is open or endless
pub found_endless : (lines : Lines) (states : List State) (stack : List Visit) (v : Visit) (t : ℕ) (x : State) → Walking lines states (stack ++ v ∷ []) → HasField lines v.number t → slice_get states t ≡ Some x → (x ≡ New → ⊥) → ((cells : Cells) → x ≡ Ended cells → ⊥) → IsEndless lines v.number
found_endless lines states stack v t x w field e old unended = endless_step lines states stack v t x w field e old unended

pub fresh_set : (states : List State) (s : ℕ) (x y : State) → slice_get states s ≡ Some x → fresh (slice_set states s y) + unseen x ≡ fresh states + unseen y
fresh_set [] s x y e = absurd cc
fresh_set (z ∷ zs) zero x y e = let same : z ≡ x = cc in omega (arith, ap unseen same)
fresh_set (z ∷ zs) (suc s) x y e = omega (arith, fresh_set zs s x y e)

-- the visit of a struct begins behind its first line
pub first_visit : (lines : Lines) (number place : ℕ) (list : List Kind) → StartsAt lines number place → list ≡ [] → IsVisit lines (record { number = number; at = place + 1; cells = Few list })
first_visit lines number place list h e = record {
  passed = [];
  split = types_at_start lines number place h;
  cells = no_cells lines 512 list e;
}

pub entered_more : (lines : Lines) (states new : List State) (stack higher : List Visit) (g : Visit) → Walking lines states stack → slice_get states g.number ≡ Some New → IsVisit lines g → ((i : ℕ) (u : Visit) → slice_get stack i ≡ Some u → Reaches lines u.number g.number) → new ≡ slice_set states g.number (Open (length stack)) → higher ≡ stack ++ g ∷ [] → Entered lines states new stack higher g.number
entered_more lines states new stack higher g w fresh visit below is more = record {
  walking = subst (λ (xs : List State). Walking lines xs higher) (sym is) (subst (λ (vs : List Visit). Walking lines (slice_set states g.number (Open (length stack))) vs) (sym more) (entered lines states stack g w fresh visit below));
  states = is;
  more = omega (arith, ap length more, length-append stack (g ∷ []));
}

pub ok_then : {T E : Type 0} (r : Result T E) (P Q : Type 0) → OnOk r P → (P → Q) → OnOk r Q
ok_then (Ok x) P Q h f = f h
ok_then (Err e) P Q h f = h

visited_set : (states : List State) (s : ℕ) (y : State) → (y ≡ New → ⊥) → StaysVisited states (slice_set states s y)
visited_set states s y old n e = elim (get_set states s n y New e) [ inl a ↦ absurd (old (sym a.1)) | inr b ↦ b.1 ]

-- a step that decides the struct on top
pub stepped : (lines : Lines) (states new : List State) (stack : List Visit) (v : Visit) (y : State) → Walking lines states (stack ++ v ∷ []) → ((cells : Cells) → y ≡ Ended cells → CellsOf lines 512 (types_at lines v.number) cells) → (y ≡ Endless → IsEndless lines v.number) → ((i : ℕ) → y ≡ Open i → ⊥) → (y ≡ New → ⊥) → unseen y ≡ 0 → new ≡ slice_set states v.number y → Stepped lines states new stack stack
stepped lines states new stack v y w known endless closed old none is =
    let set = decided lines states stack v y w known endless closed in
    let falls : 2 * fresh (slice_set states v.number y) + length stack < 2 * fresh states + (length stack + 1) = omega (arith, fresh_set states v.number (Open (length stack)) y (top_state lines states stack v w), none) in
    subst (λ (xs : List State). Stepped lines states xs stack stack) (sym is) (record { walking = set; visited = visited_set states v.number y old; falls = falls })

-- a step that enters a new struct
pub stepped_in : (lines : Lines) (states new : List State) (stack middle higher : List Visit) (v : Visit) (t : ℕ) → slice_get states t ≡ Some New → middle ≡ stack ++ v ∷ [] → Entered lines states new middle higher t → Stepped lines states new stack higher
stepped_in lines states new stack middle higher v t fresh_t is e = record {
  walking = e.walking;
  visited = λ s h. visited_set states t (Open (length middle)) (λ same. cc) s (subst (λ (xs : List State). slice_get xs s ≡ Some New) e.states h);
  falls = omega (arith, e.more, ap length is, length-append stack (v ∷ []), ap fresh e.states, fresh_set states t New (Open (length middle)) fresh_t);
}

-- the first step of a visit of a struct that was new
pub first_step : (lines : Lines) (old opened new : List State) (stack higher below after : List Visit) (number : ℕ) → slice_get old number ≡ Some New → Entered lines old opened stack higher number → Stepped lines opened new below after → StaysVisited old new × (slice_get new number ≡ Some New → ⊥)
first_step lines old opened new stack higher below after number fresh_number e step = (λ s h. visited_set old number (Open (length stack)) (λ same. cc) s (before s h), λ h. apart (sym (before number h) ∙ get_set_same old number (Open (length stack)) (get_within old number New fresh_number))) where
  before : (s : ℕ) → slice_get new s ≡ Some New → slice_get (slice_set old number (Open (length stack))) s ≡ Some New
  before s h = subst (λ (xs : List State). slice_get xs s ≡ Some New) e.states (step.visited s h)

  apart : Some New ≡ Some (Open (length stack)) → ⊥
  apart h = cc

pub nothing_open : (lines : Lines) (states : List State) → Walking lines states [] → (s i : ℕ) → slice_get states s ≡ Some (Open i) → ⊥
nothing_open lines states w s i e = let o = w.opened s i e in let h = o.1 in cc

pub all_new : (lines : Lines) (states : List State) → length states ≡ length (struct_names lines) → ((s : ℕ) (x : State) → slice_get states s ≡ Some x → x ≡ New) → Walking lines states []
all_new lines states count new = record {
  count = count;
  knows = λ s cells e. let h = new s (Ended cells) e in absurd cc;
  endless = λ s e. let h = new s Endless e in absurd cc;
  opened = λ s i e. let h = new s (Open i) e in absurd cc;
  visits = λ i v e. absurd cc;
  trail = λ i j v u lt a b. absurd cc;
}

pub is_new_true : (x : State) → is_new x ≡ true → x ≡ New
is_new_true New e = refl
is_new_true (Open i) e = absurd cc
is_new_true Endless e = absurd cc
is_new_true (Ended cells) e = absurd cc

pub is_new_false : (x : State) → is_new x ≡ false → x ≡ New → ⊥
is_new_false New e h = absurd cc
is_new_false (Open i) e h = cc
is_new_false Endless e h = cc
is_new_false (Ended cells) e h = cc

-- the struct that the top waits for is open or endless
pub stepped_endless : (lines : Lines) (states new : List State) (stack : List Visit) (v : Visit) (t : ℕ) (x : State) → Walking lines states (stack ++ v ∷ []) → WaitsFor lines states v.number t → slice_get states t ≡ Some x → is_new x ≡ false → new ≡ slice_set states v.number Endless → Stepped lines states new stack stack
stepped_endless lines states new stack v t x w waits read old is =
    stepped lines states new stack v Endless w (λ cells e. absurd cc) (λ e. found_endless lines states stack v t x w waits.field read (is_new_false x old) (λ cells h. waits.unended cells (read ∙ ap (λ (y : State). Some y) h))) (λ i e. cc) (λ e. cc) refl is

-- the struct on top has ended
pub stepped_whole : (lines : Lines) (states new : List State) (stack : List Visit) (v : Visit) (number : ℕ) (cells : Cells) → Walking lines states (stack ++ v ∷ []) → number ≡ v.number → CellsOf lines 512 (types_at lines v.number) cells → new ≡ slice_set states number (Ended cells) → Stepped lines states new stack stack
stepped_whole lines states new stack v number cells w same known is =
    stepped lines states new stack v (Ended cells) w (λ other e. let h : cells ≡ other = cc in subst (λ (x : Cells). CellsOf lines 512 (types_at lines v.number) x) h known) (λ e. absurd cc) (λ i e. cc) (λ e. cc) refl (is ∙ ap (λ (n : ℕ). slice_set states n (Ended cells)) same)

pub top_within : (lines : Lines) (states : List State) (stack : List Visit) (v : Visit) → Walking lines states (stack ++ v ∷ []) → v.number < length states
top_within lines states stack v w = get_within states v.number (Open (length stack)) (top_state lines states stack v w)

pub walked_none : (lines : Lines) (states : List State) → length states ≡ length (struct_names lines) → ((s : ℕ) (x : State) → slice_get states s ≡ Some x → x ≡ New) → WalkedTo lines states 0
walked_none lines states count new = record { walking = all_new lines states count new; visited = λ s lt e. omega arith }

below_cases : (s n : ℕ) → s < n + 1 → (s < n) ⊎ (s ≡ n)
below_cases s n lt = elim (cases_lt s n) [ inl a ↦ inl a | inr b ↦ inr (omega arith) ]

-- a struct that was new is visited
pub walked_more : (lines : Lines) (old new : List State) (number : ℕ) → WalkedTo lines old number → Visited lines old new number → WalkedTo lines new (number + 1)
walked_more lines old new number w v = record {
  walking = v.walking;
  visited = λ s lt e. elim (below_cases s number lt) [
    | inl a ↦ w.visited s a (v.visited s e)
    | inr b ↦ v.here (subst (λ (n : ℕ). slice_get new n ≡ Some New) b e)
  ];
}

-- a struct that was visited before
pub walked_old : (lines : Lines) (states : List State) (number : ℕ) (x : State) → WalkedTo lines states number → slice_get states number ≡ Some x → is_new x ≡ false → WalkedTo lines states (number + 1)
walked_old lines states number x w read old = record {
  walking = w.walking;
  visited = λ s lt e. elim (below_cases s number lt) [
    | inl a ↦ w.visited s a e
    | inr b ↦ is_new_false x old (same_state x (sym read ∙ subst (λ (n : ℕ). slice_get states n ≡ Some New) b e))
  ];
} where
  same_state : (x : State) → Some x ≡ Some New → x ≡ New
  same_state x e = cc

pub walked_all : (lines : Lines) (states : List State) (number : ℕ) → length (struct_names lines) ≤ number → WalkedTo lines states number → Walked lines states
walked_all lines states number le w = record {
  walking = w.walking;
  visited = λ s e. w.visited s (omega (arith, w.walking.count, get_within states s New e)) e;
}
