-- Each kind of step on a head is one event of the machine's heap at most.
use Rattle.std.proofs.Common.{◌≡◌, ℕ, zero, suc, ◌+◌, ◌-◌, ◌≤◌, ◌==◌, Bool, true, false, cond, not, inl, inr, List, [], ◌∷◌, ◌++◌, map, filter, find, length, set, slice_get, Option, Some, None, refl, ap, sym, ◌∙◌, subst, arith}
use Rattle.std.proofs.lemmas.Bool.{cases_Bool, eqb-true, eq-eqb, ne_eqb}
use Rattle.machine_defs.specs.declared.values.Owner.TheVariants as owner
use Rattle.machine_defs.specs.declared.values.Owner.{Owner}
use Rattle.machine_defs.specs.declared.heads.HeadWord.{HeadWord}
use Rattle.machine_defs.specs.declared.heads.HeadWord.TheVariants.{Vacant, Busy, Gone, Live}
use Rattle.machine_defs.specs.State.{State, StackFrame, Object, Placement, Root, Hung, Instance, stack, frames_of, with_stack, top, is_live, lives}
use Rattle.machine_defs.specs.Loans.{count, lent_in, lent_in_all, loans, has_ended, object_of, is_lost, is_doomed, sweep}
use Rattle.machine_defs.specs.Arguments.{has}
use Rattle.rl_defs.specs.declared.load.LoadRows.{LoadRows}
use Rattle.machine_defs.specs.Objects.{with_new, fresh_object, owned_by}
use Rattle.machine_defs.specs.CallRows.{passed_to}
use Rattle.machine_defs.specs.HeadSteps.{Claim, Publish, Lend, GiveBack, Release, PassOn, TakeUp, End, published}
use Rattle.machine_defs.specs.Frames.{popped, below_top}
use Rattle.machine_defs.specs.Seen.{ended}
use Rattle.rl_defs.specs.Rows.{row}
use Rattle.machine_defs.specs.Heads.{due, right, rights_of}
use Rattle.machine_defs.specs.HeadEvents.{Whereabouts, Absent, Owned, placed_at, place_of, whereabouts, told_place, told_loans, Shows, Follows, EachStepIsOneEvent}

-- the object of a number in a list, and the numbers of a list
abbrev found : ℕ → List Object → Option Object
found o xs = find (λ x. x.number == o) xs

abbrev numbers : List Object → List ℕ
numbers xs = map (λ x. x.number) xs

found_number : (o : ℕ) (xs : List Object) (x : Object) → found o xs ≡ Some x → x.number ≡ o
found_number o [] x e = absurd cc
found_number o (y ∷ xs) x e = elim (cases_Bool (y.number == o)) [
  | inl is ↦ let e' : Some y ≡ Some x = rw is at e in let same : y ≡ x = cc in rw (← same) (eqb-true y.number o is)
  | inr is ↦ found_number o xs x (rw is at e)
]

-- what isn't found isn't counted, and the other way round
none_counted : (o : ℕ) (xs : List Object) → found o xs ≡ None → count o (numbers xs) ≡ 0
none_counted o [] e = refl
none_counted o (y ∷ xs) e = elim (cases_Bool (y.number == o)) [
  | inl is ↦ absurd (let e' : Some y ≡ None = rw is at e in cc)
  | inr is ↦ let r = none_counted o xs (rw is at e) in let z : 0 + count o (numbers xs) ≡ 0 = omega (arith, r) in rw is z
]

none_found : (o : ℕ) (xs : List Object) → count o (numbers xs) ≡ 0 → found o xs ≡ None
none_found o [] e = refl
none_found o (y ∷ xs) e = elim (cases_Bool (y.number == o)) [
  | inl is ↦ absurd (let e' : 1 + count o (numbers xs) ≡ 0 = rw is at e in omega arith)
  | inr is ↦ let z : 0 + count o (numbers xs) ≡ 0 = rw is at e in rw is (none_found o xs (omega (arith, z)))
]

-- what passes a test is counted no more often
filter_counts : (test : Object → Bool) (o : ℕ) (xs : List Object) → count o (numbers (filter test xs)) ≤ count o (numbers xs)
filter_counts test o [] = omega arith
filter_counts test o (y ∷ xs) = let r = filter_counts test o xs in elim (cases_Bool (test y)) [
  | inl yes' ↦ rw yes' (omega (arith, r))
  | inr no' ↦ rw no' (omega (arith, r))
]

found_passes : (test : Object → Bool) (o : ℕ) (xs : List Object) (x : Object) → found o xs ≡ Some x → test x ≡ true → found o (filter test xs) ≡ Some x
found_passes test o [] x e p = absurd cc
found_passes test o (y ∷ xs) x e p = elim (cases_Bool (y.number == o)) [
  | inl is ↦ let e' : Some y ≡ Some x = rw is at e in let same : y ≡ x = cc in let yes' : test y ≡ true = ap test same ∙ p in rw (yes', is) e'
  | inr is ↦ let r = found_passes test o xs x (rw is at e) p in elim (cases_Bool (test y)) [
    | inl yes' ↦ rw (yes', is) r
    | inr no' ↦ rw no' r
  ]
]

none_passes : (test : Object → Bool) (o : ℕ) (xs : List Object) → found o xs ≡ None → found o (filter test xs) ≡ None
none_passes test o xs e = let c = none_counted o xs e in let f = filter_counts test o xs in none_found o (filter test xs) (omega arith)

found_stopped : (test : Object → Bool) (o : ℕ) (xs : List Object) (x : Object) → found o xs ≡ Some x → count o (numbers xs) ≤ 1 → test x ≡ false → found o (filter test xs) ≡ None
found_stopped test o [] x e once p = absurd cc
found_stopped test o (y ∷ xs) x e once p = elim (cases_Bool (y.number == o)) [
  | inl is ↦ let e' : Some y ≡ Some x = rw is at e in let same : y ≡ x = cc in let no' : test y ≡ false = ap test same ∙ p in
      let once' : 1 + count o (numbers xs) ≤ 1 = rw is at once in rw no' (none_passes test o xs (none_found o xs (omega arith)))
  | inr is ↦ let once' : 0 + count o (numbers xs) ≤ 1 = rw is at once in let r = found_stopped test o xs x (rw is at e) (omega arith) p in elim (cases_Bool (test y)) [
    | inl yes' ↦ rw (yes', is) r
    | inr no' ↦ rw no' r
  ]
]

-- a number is among those of a list exactly where it is found
has_found : (o : ℕ) (xs : List Object) (x : Object) → found o xs ≡ Some x → has (numbers xs) o ≡ true
has_found o [] x e = absurd cc
has_found o (y ∷ xs) x e = elim (cases_Bool (y.number == o)) [
  | inl is ↦ rw is refl
  | inr is ↦ rw is (has_found o xs x (rw is at e))
]

has_none : (o : ℕ) (xs : List Object) → found o xs ≡ None → has (numbers xs) o ≡ false
has_none o [] e = refl
has_none o (y ∷ xs) e = elim (cases_Bool (y.number == o)) [
  | inl is ↦ absurd (let e' : Some y ≡ None = rw is at e in cc)
  | inr is ↦ rw is (has_none o xs (rw is at e))
]

-- where a word says that its object is before the sweep that its step ends with
abbrev before_sweep : HeadWord → Whereabouts
before_sweep Vacant = Absent
before_sweep Busy = Absent
before_sweep Gone = Absent
before_sweep (Live l e to) = Owned e

-- an object that a word tells of before the sweep: it isn't there, or it is a root
absent : (s : State) (x : Option Object) → place_of s x ≡ Absent → x ≡ None
absent s None e = refl
absent s (Some x) e = absurd (at x.placement e)
  where
    at : (p : Placement) → placed_at s p ≡ Absent → ⊥
    at (Root w) e = cc
    at (Hung p k) e = cc

pub record IsRoot (s : State) (x : Option Object) (e : Bool) : Type 0 where
  pub object : Object
  pub owner : Owner
  pub is : x ≡ Some object
  pub root : object.placement ≡ Root owner
  pub ends : has_ended s owner ≡ e

owned : (s : State) (x : Option Object) (b : Bool) → place_of s x ≡ Owned b → IsRoot s x b
owned s None b e = absurd cc
owned s (Some x) b e = at x.placement refl e
  where
    at : (p : Placement) → x.placement ≡ p → placed_at s p ≡ Owned b → IsRoot s (Some x) b
    at (Root w) same e = record { object = x; owner = w; is = refl; root = same; ends = cc }
    at (Hung p k) same e = absurd cc

rooted : (s : State) (x : Object) (w : Owner) → x.placement ≡ Root w → is_doomed s x ≡ is_lost s x.number w
rooted s x w e = rw e refl

module _ (z : State) (o : ℕ) (once : count o (numbers z.objects) ≤ 1) where
  staying : Object → Bool
  staying x = not (is_doomed z x)

  swept_once : count o (numbers (sweep z).objects) ≤ 1
  swept_once = let f = filter_counts (λ x. not (is_doomed z x)) o z.objects in omega (arith, f, once)

  -- an object that isn't there stays away, and isn't freed
  settle_absent : (b : HeadWord) → before_sweep b ≡ Absent → told_place b ≡ Absent → due b right ≡ 0 → whereabouts z o ≡ Absent → loans z o ≡ told_loans b → Follows z o b
  settle_absent b before told none away lent = let gone = absent z (object_of z o) away in record {
    shows = record {
      once = swept_once;
      place = ap (place_of (sweep z)) (none_passes (λ x. not (is_doomed z x)) o z.objects gone) ∙ sym told;
      lent = lent;
    };
    frees = has_none o (filter (is_doomed z) z.objects) (none_passes (is_doomed z) o z.objects gone) ∙ rw none refl;
  }

  -- a root stays unless its owner has ended and it isn't lent
  settle_owned : (l : ℕ) (e : Bool) (to : Option ℕ) → whereabouts z o ≡ Owned e → loans z o ≡ l → Follows z o (Live l e to)
  settle_owned l e to there lent = let r = owned z (object_of z o) e there in let number = found_number o z.objects r.object r.is in
      let doom : is_doomed z r.object ≡ is_lost z o r.owner = rooted z r.object r.owner r.root ∙ ap (λ (n : ℕ). is_lost z n r.owner) number in go l e lent r number doom
    where
      stays : (l : ℕ) (e : Bool) → rights_of e l ≡ 0 → loans z o ≡ l → (r : IsRoot z (object_of z o) e) → is_doomed z r.object ≡ false → Follows z o (Live l e to)
      stays l e none lent r safe = record {
        shows = record {
          once = swept_once;
          place = ap (place_of (sweep z)) (found_passes (λ x. not (is_doomed z x)) o z.objects r.object r.is (rw safe refl)) ∙ rw (r.root, none) (ap Owned r.ends);
          lent = lent;
        };
        frees = has_none o (filter (is_doomed z) z.objects) (found_stopped (is_doomed z) o z.objects r.object r.is once safe) ∙ rw none refl;
      }

      goes : loans z o ≡ 0 → (r : IsRoot z (object_of z o) true) → is_doomed z r.object ≡ true → Follows z o (Live 0 true to)
      goes lent r lost = record {
        shows = record {
          once = swept_once;
          place = ap (place_of (sweep z)) (found_stopped (λ x. not (is_doomed z x)) o z.objects r.object r.is once (rw lost refl));
          lent = lent;
        };
        frees = has_found o (filter (is_doomed z) z.objects) r.object (found_passes (is_doomed z) o z.objects r.object r.is lost);
      }

      go : (l : ℕ) (e : Bool) → loans z o ≡ l → (r : IsRoot z (object_of z o) e) → r.object.number ≡ o → is_doomed z r.object ≡ is_lost z o r.owner → Follows z o (Live l e to)
      go zero true lent r number doom = goes lent r (doom ∙ rw (r.ends, lent) refl)
      go (suc l) true lent r number doom = stays (suc l) true refl lent r (doom ∙ rw (r.ends, lent, ne_eqb (suc l) 0 (λ q. omega arith)) refl)
      go l false lent r number doom = stays l false refl lent r (doom ∙ rw r.ends refl)

-- what a change of one stack does to the loans
lent_set : (o n : ℕ) (stacks : List (List StackFrame)) (old new : List StackFrame) → slice_get stacks n ≡ Some old → lent_in_all o (set stacks n new) + lent_in o old ≡ lent_in_all o stacks + lent_in o new
lent_set o n [] old new e = absurd cc
lent_set o zero (fs ∷ stacks) old new e = let same : fs ≡ old = cc in let m : lent_in o fs ≡ lent_in o old = ap (lent_in o) same in omega arith
lent_set o (suc n) (fs ∷ stacks) old new e = let r = lent_set o n stacks old new e in omega (arith, r)

lent_pushed : (o : ℕ) (fs : List StackFrame) (f : StackFrame) → lent_in o (fs ++ f ∷ []) ≡ lent_in o fs + count o f.lent
lent_pushed o [] f = omega arith
lent_pushed o (g ∷ gs) f = let r = lent_pushed o gs f in omega (arith, r)

pub record IsStack (stacks : List (List StackFrame)) (n : ℕ) : Type 0 where
  pub frames : List StackFrame
  pub is : slice_get stacks n ≡ Some frames

stack_there : (stacks : List (List StackFrame)) (n : ℕ) → suc n ≤ length stacks → IsStack stacks n
stack_there [] n le = absurd (omega arith)
stack_there (fs ∷ stacks) zero le = record { frames = fs; is = refl }
stack_there (fs ∷ stacks) (suc n) le = let r = stack_there stacks n (omega arith) in record { frames = r.frames; is = r.is }

top_splits : (fs : List StackFrame) (f : StackFrame) → top fs ≡ Some f → fs ≡ below_top fs ++ f ∷ []
top_splits [] f e = absurd cc
top_splits (g ∷ []) f e = cc
top_splits (g ∷ (h ∷ hs)) f e = ap (λ fs. g ∷ fs) (top_splits (h ∷ hs) f e)

back : (n : ℕ) → suc n - 1 ≡ n
back n = omega arith

loans_set : (s : State) (o t : ℕ) (frames : List StackFrame) → 1 ≤ t → t ≤ length s.stacks → loans (with_stack s t frames) o + lent_in o (stack s t) ≡ loans s o + lent_in o frames
loans_set s o zero frames pos le = absurd (omega arith)
loans_set s o (suc n) frames pos le = let r = stack_there s.stacks n le in let m = lent_set o n s.stacks r.frames frames r.is in
    let q : lent_in o (stack s (suc n)) ≡ lent_in o r.frames = ap (λ fs. lent_in o (frames_of fs)) r.is in
    let p : lent_in_all o (set s.stacks (suc n - 1) frames) ≡ lent_in_all o (set s.stacks n frames) = ap (λ (k : ℕ). lent_in_all o (set s.stacks k frames)) (back n) in
    omega (arith, m, q, p)

loan_begins : (s : State) (o t : ℕ) (f : StackFrame) → 1 ≤ t → t ≤ length s.stacks → count o f.lent ≡ 1 → loans (with_stack s t (stack s t ++ f ∷ [])) o ≡ suc (loans s o)
loan_begins s o t f pos le one = let a = loans_set s o t (stack s t ++ f ∷ []) pos le in let b = lent_pushed o (stack s t) f in omega (arith, a, b, one)

loan_ends : (s : State) (o t : ℕ) (f : StackFrame) → 1 ≤ t → t ≤ length s.stacks → top (stack s t) ≡ Some f → count o f.lent ≡ 1 → suc (loans (popped t s) o) ≡ loans s o
loan_ends s o t f pos le on_top one = let a = loans_set s o t (below_top (stack s t)) pos le in let b = lent_pushed o (below_top (stack s t)) f in
    let c : lent_in o (stack s t) ≡ lent_in o (below_top (stack s t) ++ f ∷ []) = ap (lent_in o) (top_splits (stack s t) f on_top) in omega (arith, a, b, c, one)

-- states with the same instances have the same owners ended
ended_same : (s z : State) → z.instances ≡ s.instances → (w : Owner) → has_ended z w ≡ has_ended s w
ended_same s z e (owner.Client c) = refl
ended_same s z e (owner.Instance i) = ap (λ (is : List Instance). not (lives (row is i))) e

place_same : (s z : State) → z.instances ≡ s.instances → (x : Option Object) → place_of z x ≡ place_of s x
place_same s z e None = refl
place_same s z e (Some x) = at x.placement
  where
    at : (p : Placement) → placed_at z p ≡ placed_at s p
    at (Root w) = ap Owned (ended_same s z e w)
    at (Hung p k) = refl

-- a new object is found, and counted once
found_new : (o : ℕ) (xs : List Object) (y : Object) → found o xs ≡ None → y.number ≡ o → found o (xs ++ y ∷ []) ≡ Some y
found_new o [] y e same = rw (eq-eqb y.number o same) refl
found_new o (x ∷ xs) y e same = elim (cases_Bool (x.number == o)) [
  | inl is ↦ absurd (let e' : Some x ≡ None = rw is at e in cc)
  | inr is ↦ rw is (found_new o xs y (rw is at e) same)
]

counted_new : (o : ℕ) (xs : List Object) (y : Object) → count o (numbers (xs ++ y ∷ [])) ≤ count o (numbers xs) + 1
counted_new o [] y = elim (cases_Bool (y.number == o)) [
  | inl is ↦ rw is (omega arith)
  | inr is ↦ rw is (omega arith)
]
counted_new o (x ∷ xs) y = let r = counted_new o xs y in omega (arith, r)

-- an object that is moved is found with its new owner
abbrev moved : Owner → ℕ → Object → Object
moved w o x = cond (has (o ∷ []) x.number) (owned_by w x) x

moved_number : (w : Owner) (o : ℕ) (x : Object) → (moved w o x).number ≡ x.number
moved_number w o x = elim (cases_Bool (has (o ∷ []) x.number)) [
  | inl is ↦ rw is refl
  | inr is ↦ rw is refl
]

moved_numbers : (w : Owner) (o : ℕ) (xs : List Object) → numbers (map (moved w o) xs) ≡ numbers xs
moved_numbers w o [] = refl
moved_numbers w o (x ∷ xs) = rw (moved_number w o x, moved_numbers w o xs) refl

found_moved : (w : Owner) (o : ℕ) (xs : List Object) (x : Object) → found o xs ≡ Some x → found o (map (moved w o) xs) ≡ Some (owned_by w x)
found_moved w o [] x e = absurd cc
found_moved w o (y ∷ xs) x e = elim (cases_Bool (y.number == o)) [
  | inl is ↦ let e' : Some y ≡ Some x = rw is at e in let same : y ≡ x = cc in let number = eqb-true y.number o is in
      let has' : has (o ∷ []) y.number ≡ true = rw (eq-eqb o y.number (sym number)) refl in
      let changed : moved w o y ≡ owned_by w y = rw has' refl in
      rw (moved_number w o y, is) (ap Some changed ∙ ap (λ (q : Object). Some (owned_by w q)) same)
  | inr is ↦ rw (moved_number w o y, is) (found_moved w o xs x (rw is at e))
]

-- an instance that was ended doesn't live
get_set : {A : Type 0} (xs : List A) (n : ℕ) (x y : A) → slice_get xs n ≡ Some x → slice_get (set xs n y) n ≡ Some y
get_set [] n x y e = absurd cc
get_set (z ∷ xs) zero x y e = refl
get_set (z ∷ xs) (suc n) x y e = get_set xs n x y e

pub ended_dead : (s : State) (i : ℕ) → is_live (ended i s) i ≡ false
ended_dead s zero = refl
ended_dead s (suc n) = go (slice_get s.instances n) refl
  where
    go : (x : Option Instance) → slice_get s.instances n ≡ x → is_live (ended (suc n) s) (suc n) ≡ false
    go None e = rw (e, e) refl
    go (Some x) e = let g = get_set s.instances n x (record x { live = false }) e in
        let k : slice_get (set s.instances (suc n - 1) (record x { live = false })) n ≡ Some (record x { live = false }) = ap (λ (j : ℕ). slice_get (set s.instances j (record x { live = false })) n) (back n) ∙ g in
        rw (e, k) refl

-- what each kind of step is for the object, from the word that it finds to the word that it leaves
module _ (o : ℕ) (s : State) where
  Told : State → HeadWord → Type 0
  Told z b = (whereabouts z o ≡ before_sweep b) × (loans z o ≡ told_loans b) × (count o (numbers z.objects) ≤ 1)

  -- an object that a word tells of as present
  present : (l : ℕ) (e : Bool) (to : Option ℕ) → rights_of e l ≡ 0 → Shows s o (Live l e to) → whereabouts s o ≡ Owned e
  present l e to none shows = shows.place ∙ rw none refl

  no_right : (e : Bool) (l : ℕ) → rights_of e (suc l) ≡ 0
  no_right true l = refl
  no_right false l = refl

  made : (L : LoadRows) (ty : ℕ) (w : Owner) (values : List ℕ) → o ≡ s.next_object → has_ended s w ≡ false → Shows s o Busy → Follows (with_new L ty w values s) o published
  made L ty w values number lives shows = let z : State = with_new L ty w values s in let y : Object = fresh_object L s.next_object ty w values in
      let gone = absent s (object_of s o) shows.place in let none = none_counted o s.objects gone in let more = counted_new o s.objects y in
      settle_owned z o (omega arith) 0 false None (ap (place_of z) (found_new o s.objects y gone (sym number)) ∙ ap Owned (ended_same s z refl w ∙ lives)) shows.lent

  lent : (t : ℕ) (f : StackFrame) (l : ℕ) (e : Bool) → 1 ≤ t → t ≤ length s.stacks → count o f.lent ≡ 1 → rights_of e l ≡ 0 → Shows s o (Live l e None)
      → Follows (with_stack s t (stack s t ++ f ∷ [])) o (Live (suc l) e None)
  lent t f l e pos le one none shows = let z : State = with_stack s t (stack s t ++ f ∷ []) in
      settle_owned z o shows.once (suc l) e None (place_same s z refl (object_of s o) ∙ present l e None none shows) (loan_begins s o t f pos le one ∙ ap suc shows.lent)

  given_back : (t : ℕ) (f : StackFrame) (l : ℕ) (e : Bool) (to : Option ℕ) → 1 ≤ t → t ≤ length s.stacks → top (stack s t) ≡ Some f → count o f.lent ≡ 1 → Shows s o (Live (suc l) e to)
      → Follows (popped t s) o (Live l e to)
  given_back t f l e to pos le on_top one shows = let z : State = popped t s in let m = loan_ends s o t f pos le on_top one in let n = shows.lent in
      settle_owned z o shows.once l e to (place_same s z refl (object_of s o) ∙ present (suc l) e to (no_right e l) shows) (omega arith)

  taken_up : (w : Owner) (to : ℕ) → has_ended s w ≡ false → Shows s o (Live 0 false (Some to)) → Follows (passed_to w (o ∷ []) s) o published
  taken_up w to lives shows = let z : State = passed_to w (o ∷ []) s in let r = owned s (object_of s o) false (present 0 false (Some to) refl shows) in
      settle_owned z o (subst (λ (ns : List ℕ). count o ns ≤ 1) (sym (moved_numbers w o s.objects)) shows.once) 0 false None
      (ap (place_of z) (found_moved w o s.objects r.object r.is) ∙ ap Owned (ended_same s z refl w ∙ lives)) shows.lent

  owner_ends : (i : ℕ) (x : Object) (l : ℕ) → object_of s o ≡ Some x → x.placement ≡ Root (owner.Instance i) → Shows s o (Live l false None) → Follows (ended i s) o (Live l true None)
  owner_ends i x l is root shows = let z : State = ended i s in
      settle_owned z o shows.once l true None (ap (place_of z) is ∙ rw root (ap (λ (b : Bool). Owned (not b)) (ended_dead s i))) shows.lent

  stays_absent : (a b : HeadWord) → told_place a ≡ Absent → told_loans a ≡ 0 → before_sweep b ≡ Absent → told_place b ≡ Absent → told_loans b ≡ 0 → due b right ≡ 0 → Shows s o a → Follows s o b
  stays_absent a b ta la bb tb lb none shows = settle_absent s o shows.once b bb tb none (shows.place ∙ ta) (shows.lent ∙ la ∙ sym lb)

  passed_on : (l to : ℕ) → Shows s o (Live l false None) → Follows s o (Live l false (Some to))
  passed_on l to shows = settle_owned s o shows.once l false (Some to) (present l false None refl shows) shows.lent

-- the words are those of the step
by_words : (o : ℕ) (s z : State) (a a' b b' : HeadWord) → a ≡ a' → b ≡ b' → (Shows s o a' → Follows z o b') → Shows s o a → Follows z o b
by_words o s z a a' b b' ea eb f shows = subst (Follows z o) (sym eb) (f (subst (Shows s o) ea shows))

-- the state is that of the event
by_state : (o : ℕ) (z z' : State) (b : HeadWord) → z ≡ z' → Follows z' o b → Follows z o b
by_state o z z' b e f = subst (λ (y : State). Follows y o b) (sym e) f

pub each_step : EachStepIsOneEvent
each_step Claim a b o s z c shows e = by_state o z s b e (by_words o s s a Vacant b Busy c.0 c.1 (stays_absent o s Vacant Busy refl refl refl refl refl refl) shows)
each_step Publish a b o s z c shows e = by_state o z _ b e.6 (by_words o s _ a Busy b published c.0 c.1 (made o s e.0 e.1 e.2 e.3 e.4 e.5) shows)
each_step Lend a b o s z c shows e = by_state o z _ b e.5 (by_words o s _ a _ b _ c.3 c.4 (lent o s e.0 e.1 c.0 c.1 e.2 e.3 e.4 c.2) shows)
each_step GiveBack a b o s z c shows e = by_state o z _ b e.6 (by_words o s _ a _ b _ c.3 c.4 (given_back o s e.0 e.1 c.0 c.1 c.2 e.2 e.3 e.4 e.5) shows)
each_step Release a b o s z c shows e = by_state o z s b e (by_words o s s a _ b Gone c.1 c.2 (stays_absent o s (Live 0 true c.0) Gone refl refl refl refl refl refl) shows)
each_step PassOn a b o s z c shows e = by_state o z s b e (by_words o s s a _ b _ c.2 c.3 (passed_on o s c.0 c.1) shows)
each_step TakeUp a b o s z c shows e = by_state o z _ b e.2 (by_words o s _ a _ b published c.1 c.2 (taken_up o s e.0 c.0 e.1) shows)
each_step End a b o s z c shows e = by_state o z _ b e.4 (by_words o s _ a _ b _ c.1 c.2 (owner_ends o s e.0 e.1 c.0 e.2 e.3) shows)
