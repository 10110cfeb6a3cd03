-- A native frame holds few objects, with those that its call may yet bring: after each row, in all stacks.
use Rattle.std.proofs.Common.{◌≡◌, ℕ, zero, suc, ◌+◌, ◌-◌, ◌≤◌, Bool, true, false, not, List, [], ◌∷◌, ◌++◌, length, filter, map, Option, Some, None, refl, ap, sym, subst, ◌∙◌, arith, inl, inr}
use Rattle.std.proofs.lemmas.Bool.{and_parts}
use Rattle.std.proofs.lemmas.List.{length-append}
use Rattle.std.specs.List.{filter_map}
use Rattle.rl_defs.specs.declared.values.Value.{Value}
use Rattle.rl_defs.specs.declared.values.Value.TheVariants as value
use Rattle.rl_defs.specs.declared.tables.Kind.{Kind}
use Rattle.rl_defs.specs.declared.tables.Kind.TheVariants as kind
use Rattle.rl_defs.specs.declared.tables.MethodRow.{MethodRow}
use Rattle.rl_defs.specs.declared.load.LoadRows.{LoadRows}
use Rattle.rl_defs.specs.declared.load.Command.TheVariants as command
use Rattle.machine_defs.specs.declared.values.Arg.{Arg}
use Rattle.machine_defs.specs.declared.values.Arg.TheVariants as arg
use Rattle.machine_defs.specs.declared.values.RpcCode.TheVariants as code
use Rattle.machine_defs.specs.declared.entry.Entry.{Entry}
use Rattle.machine_defs.specs.declared.entry.Entry.TheVariants as entry
use Rattle.machine_defs.specs.declared.frame.Action.{Action}
use Rattle.machine_defs.specs.declared.frame.Action.TheVariants as action
use Rattle.machine_defs.specs.declared.frame.Answer.{Answer}
use Rattle.machine_defs.specs.declared.frame.Answer.TheVariants as answer
use Rattle.machine_defs.specs.declared.frame.FrameBody.{FrameBody}
use Rattle.machine_defs.specs.declared.frame.FrameBody.TheVariants as body
use Rattle.rl_defs.specs.Registers.{Typing}
use Rattle.rl_defs.specs.Rows.{row}
use Rattle.rl_defs.specs.Domains.{method_of}
use Rattle.rl_defs.specs.CodeNames.{results_of}
use Rattle.machine_defs.specs.State.{State, StackFrame, stack, with_stack, with_thread, frames_of, top, start, is_live, no_frames}
use Rattle.machine_defs.specs.Arguments.{has, moved_of, object_of_value}
use Rattle.machine_defs.specs.Instructions.{Settled, Nowhere, Before, settle}
use Rattle.machine_defs.specs.Seen.{domain_of_instance, seen}
use Rattle.machine_defs.specs.Wants.{Acts, Commands, settled, by_body}
use Rattle.machine_defs.specs.NativeFits.{CanChoose, is_object, value_suits, values_suit}
use Rattle.machine_defs.specs.Seen.{types_of}
use Rattle.machine_defs.specs.Frames.{below_top, popped, with_top, with_body, held_after, waiting, waiting_body, BeginsBody, Begins, AnswersBody, Replies, AnswersTop, AnswersFrame}
use Rattle.machine_defs.specs.Calling.{wish, Wish, is_undone, with_fuel, is_enabled}
use Rattle.machine_defs.specs.Entries.{thread_of}
use Rattle.machine_defs.specs.CallRows.{Calls, Returns, IssuesAgain, numbered, after_return}
use Rattle.machine_defs.specs.Objects.{without}
use Rattle.machine_defs.specs.ObjectRows.{Does}
use Rattle.machine_defs.specs.Sound.{args_stand, brought_by}
use Rattle.machine_defs.specs.Steps.{Row as RowOf}
use Rattle.rl_defs.proofs.ValidFacts.{method_small}
use Rattle.machine_laws.specs.LedgerOf.{ledger_of}
use Rattle.machine_laws.specs.LedgerSound.{Owned}
use Rattle.machine_laws.specs.Shape.{Laid}
use Rattle.rl_defs.proofs.ValidFacts.{method_small}
use Rattle.machine_laws.specs.Fitting.{BodyFits, CallFits, CallsFit, Fitting}
use Rattle.machine_laws.proofs.Rows.{row_set_same}
use Rattle.machine_laws.proofs.Stacks.{top_pushed, top_splits}
use Rattle.machine_laws.proofs.Acting.{ActsAs, acts_as, commands_as}
use Rattle.machine_laws.proofs.Wishes.{FrameWish, wish_as}
use Rattle.machine_laws.proofs.StackFits.{calls_back}
use Rattle.machine_laws.proofs.CodeDoing.{body_fits}
use Rattle.machine_laws.proofs.Callers.{caller_frame, waits, calling, native_calls}
use Rattle.machine_laws.proofs.Charged.{stack_charged}
use Rattle.machine_laws.proofs.FrameRows.{answered_same, body_twice}
use Rattle.machine_laws.proofs.CallsKnown.{args_suiting, set_each}
use Rattle.machine_laws.proofs.CallSteps.{Called, called, not_waiting}
use Rattle.machine_laws.proofs.ReturnSteps.{returns_well}
use Rattle.machine_laws.proofs.EndSteps.{ready_within}
use Rattle.machine_laws.proofs.StepRows.{ClientFacts}
use Rattle.rl_defs.specs.Valid.{Valid, AreValidTables}

-- a body holds few objects, besides n that are to come
abbrev pub HoldsFew : FrameBody Action → ℕ → Type 0
HoldsFew (body.Code at regs) n = Unit {0}
HoldsFew (body.Native held act) n = length held + n ≤ 8

abbrev pub AllFew : LoadRows → List StackFrame → Type 0
AllFew L [] = Unit {0}
AllFew L (f ∷ fs) = HoldsFew f.body (brought_by L fs) × AllFew L fs

abbrev pub FewIn : LoadRows → State → Type 0
FewIn L m = (u : ℕ) → AllFew L (stack m u)

fewer : (b : FrameBody Action) (n k : ℕ) → k ≤ n → HoldsFew b n → HoldsFew b k
fewer (body.Code at regs) n k le few = tt
fewer (body.Native held act) n k le few = omega (arith, le, few)

-- what stands in lists
filter_shorter : {A : Type 0} (test : A → Bool) (xs : List A) → length (filter test xs) ≤ length xs
filter_shorter test [] = omega arith
filter_shorter test (x ∷ xs) = let r = filter_shorter test xs in elim (Rattle.std.proofs.lemmas.Bool.cases_Bool (test x)) [
  | inl yes' ↦ rw yes' (omega (arith, r))
  | inr no' ↦ rw no' (omega (arith, r))
]

moved_shorter : (args : List Arg) → length (moved_of args) ≤ length args
moved_shorter [] = omega arith
moved_shorter (arg.Moved o ∷ args) = let r = moved_shorter args in omega (arith, r)
moved_shorter (arg.Num n ∷ args) = let r = moved_shorter args in omega (arith, r)
moved_shorter (arg.Lent o ∷ args) = let r = moved_shorter args in omega (arith, r)
moved_shorter (arg.Cap x ∷ args) = let r = moved_shorter args in omega (arith, r)

args_as_many : (types : Typing) (kinds : List Kind) (args : List Arg) → args_stand types kinds args ≡ true → length args ≡ length kinds
args_as_many types [] [] is = refl
args_as_many types (k ∷ kinds) (a ∷ args) is = let parts = and_parts _ (args_stand types kinds args) is in ap suc (args_as_many types kinds args parts.1)
args_as_many types [] (a ∷ args) is = absurd cc
args_as_many types (k ∷ kinds) [] is = absurd cc

-- values of these kinds have as many objects as the kinds say
objects_suit : (types : Typing) (kinds : List Kind) (values : List Value) → values_suit types kinds values ≡ true → length (filter_map object_of_value values) ≡ length (filter is_object kinds)
objects_suit types [] [] is = refl
objects_suit types (kind.Num w ∷ kinds) (value.Num n ∷ values) is = let parts = and_parts _ (values_suit types kinds values) is in objects_suit types kinds values parts.1
objects_suit types (kind.Own ty ∷ kinds) (value.Obj o ∷ values) is = let parts = and_parts _ (values_suit types kinds values) is in ap suc (objects_suit types kinds values parts.1)
objects_suit types (kind.Cap t ∷ kinds) (value.Cap x ∷ values) is = let parts = and_parts _ (values_suit types kinds values) is in objects_suit types kinds values parts.1
objects_suit types (kind.Num w ∷ kinds) (v ∷ values) is = absurd cc
objects_suit types (kind.Own ty ∷ kinds) (v ∷ values) is = absurd cc
objects_suit types (kind.Cap t ∷ kinds) (v ∷ values) is = absurd cc
objects_suit types (kind.Lent ty ∷ kinds) (v ∷ values) is = absurd (let parts = and_parts (value_suits types (kind.Lent ty) v) (values_suit types kinds values) is in cc)
objects_suit types [] (v ∷ values) is = absurd cc
objects_suit types (k ∷ kinds) [] is = absurd cc

-- stacks of which one changes
module _ (L : LoadRows) where
  few_stacks : (m z : State) → z.stacks ≡ m.stacks → FewIn L m → FewIn L z
  few_stacks m z same few u = subst (λ st. AllFew L (frames_of (row st u))) (sym same) (few u)

  few_set : (m : State) (t : ℕ) (fs : List StackFrame) → FewIn L m → AllFew L fs → FewIn L (with_stack m t fs)
  few_set m t fs few new zero = few zero
  few_set m t fs few new (suc u) = set_each (λ found. AllFew L (frames_of found)) m.stacks (t - 1) fs (λ k. few (suc k)) new u

  few_top : (fs : List StackFrame) (f : StackFrame) → AllFew L fs → top fs ≡ Some f → HoldsFew f.body 0
  few_top [] f few e = absurd cc
  few_top (g ∷ []) f few e = let same : g ≡ f = cc in subst (λ (h : StackFrame). HoldsFew h.body 0) same few.0
  few_top (g ∷ (h ∷ hs)) f few e = few_top (h ∷ hs) f few.1 e

  few_below : (fs : List StackFrame) → AllFew L fs → AllFew L (below_top fs)
  few_below [] few = tt
  few_below (f ∷ []) few = tt
  few_below (f ∷ (g ∷ [])) few = (fewer f.body (brought_by L (g ∷ [])) 0 (omega arith) few.0, tt)
  few_below (f ∷ (g ∷ (h ∷ hs))) few = (few.0, few_below (g ∷ (h ∷ hs)) few.1)

  -- the frame under the top one has room for what the top one may bring
  few_caller : (fs : List StackFrame) (f g : StackFrame) → AllFew L fs → top fs ≡ Some f → top (below_top fs) ≡ Some g → HoldsFew g.body (brought_by L (f ∷ []))
  few_caller [] f g few e e' = absurd cc
  few_caller (h ∷ []) f g few e e' = absurd cc
  few_caller (h ∷ (k ∷ [])) f g few e e' =
      let a : k ≡ f = cc in
      let b : h ≡ g = cc in
      subst (λ (x : StackFrame). HoldsFew x.body (brought_by L (f ∷ []))) b (subst (λ (x : StackFrame). HoldsFew h.body (brought_by L (x ∷ []))) a few.0)
  few_caller (h ∷ (k ∷ (l ∷ ls))) f g few e e' = few_caller (k ∷ (l ∷ ls)) f g few.1 e e'

  few_push : (fs : List StackFrame) (g : StackFrame) → AllFew L fs → ((f : StackFrame) → top fs ≡ Some f → HoldsFew f.body (brought_by L (g ∷ []))) → HoldsFew g.body 0 → AllFew L (fs ++ g ∷ [])
  few_push [] g few room new = (new, tt)
  few_push (f ∷ []) g few room new = (room f refl, (new, tt))
  few_push (f ∷ (h ∷ hs)) g few room new = (few.0, few_push (h ∷ hs) g few.1 room new)

  -- another top frame of the same method
  few_retop : (fs : List StackFrame) (f g : StackFrame) → AllFew L fs → top fs ≡ Some f → g.target ≡ f.target → g.method ≡ f.method → HoldsFew g.body 0 → AllFew L (below_top fs ++ g ∷ [])
  few_retop fs f g few on_top target method new = few_push (below_top fs) g (few_below fs few)
      (λ h is. subst (λ (os : ℕ). HoldsFew h.body os) (sym (ap (λ x. length (filter is_object (results_of (method_of L x g.method)))) target ∙ ap (λ k. length (filter is_object (results_of (method_of L f.target k)))) method)) (few_caller fs f h few on_top is))
      new

  few_topped : (m : State) (t : ℕ) (f g : StackFrame) → FewIn L m → top (stack m t) ≡ Some f → g.target ≡ f.target → g.method ≡ f.method → HoldsFew g.body 0 → FewIn L (with_top t g m)
  few_topped m t f g few on_top target method new = few_set m t (below_top (stack m t) ++ g ∷ []) few (few_retop (stack m t) f g (few t) on_top target method new)

-- what a native body holds after an answer
abbrev brings : Answer → ℕ
brings (answer.Made o) = 1
brings (answer.Back results) = length (filter_map object_of_value results)
brings _ = 0

after_few : (act : Action) (a : Answer) (held : List ℕ) → length (held_after act a held) ≤ length held + brings a
after_few (action.New ty) (answer.Made o) held = let e = length-append held (o ∷ []) in omega (arith, e)
after_few (action.Drop o) answer.Went held = let e = filter_shorter (λ p. not (has (o ∷ []) p)) held in omega (arith, e)
after_few (action.Call x m args) (answer.Back results) held = let e = length-append held (filter_map object_of_value results) in omega (arith, e)
after_few act a held = omega arith

answered_few : (L : LoadRows) (z : State) (f : StackFrame) (a : Answer) (b : FrameBody Action) (g : StackFrame) → AnswersBody L z f a b g → HoldsFew b (brings a) → HoldsFew g.body 0
answered_few L z f a (body.Code at regs) g answers few = subst (λ (h : StackFrame). HoldsFew h.body 0) (sym answers) tt
answered_few L z f a (body.Native held act) g answers few = subst (λ (h : StackFrame). HoldsFew h.body 0) (sym answers.1) (let e = after_few act a held in omega (arith, e, few))

waiting_few : (L : LoadRows) (s : State) (os : List ℕ) (f : StackFrame) (b : FrameBody Action) (n : ℕ) → HoldsFew b n → HoldsFew (waiting_body (domain_of_instance L s f.instance) os b) n
waiting_few L s os f (body.Code at regs) n few = tt
waiting_few L s os f (body.Native held act) n few = let e = filter_shorter (λ o. not (has os o)) held in omega (arith, e, few)

-- a frame that stands before an action is of the body that it was of, and a native one is as it was
stands_few : (L : LoadRows) (s : State) (f : StackFrame) (fuel rest : ℕ) (b : FrameBody Action) (act : Action) (frame : StackFrame) (n : ℕ) → f.body ≡ b → by_body L s fuel f b ≡ Acts act rest frame → HoldsFew b n → HoldsFew frame.body n
stands_few L s f fuel rest (body.Code at regs) act frame n is e few = go (settle (domain_of_instance L s f.instance) (seen L s f.instance) (length s.objects) fuel (record { at = at; regs = regs })) e
  where
    go : (found : Settled) → settled f found ≡ Acts act rest frame → HoldsFew frame.body n
    go Nowhere e' = absurd cc
    go (Before act' fuel' stand) e' = let same : frame ≡ with_body f (body.Code stand.at stand.regs) = cc in rw same tt
stands_few L s f zero rest (body.Native held kept) act frame n is e few = let same : frame ≡ f = cc in rw (same, is) few
stands_few L s f (suc fuel) rest (body.Native held kept) act frame n is e few = let same : frame ≡ f = cc in rw (same, is) few

native_same : (L : LoadRows) (s : State) (f : StackFrame) (fuel rest : ℕ) (held : List ℕ) (kept act : Action) (frame : StackFrame) → by_body L s fuel f (body.Native held kept) ≡ Acts act rest frame → frame ≡ f
native_same L s f zero rest held kept act frame e = cc
native_same L s f (suc fuel) rest held kept act frame e = cc

-- the answers that an action gets at once
abbrev IsAtOnce : Answer → Type 0
IsAtOnce (answer.Made o) = Unit {0}
IsAtOnce answer.Went = Unit {0}
IsAtOnce _ = ⊥

done_few : (L : LoadRows) (s : State) (f : StackFrame) (held : List ℕ) (kept : Action) (a : Answer) → CanChoose L s f held kept → IsAtOnce a → length held ≤ 8 → length (held_after kept a held) ≤ 8
done_few L s f held (action.New ty) (answer.Made o) can once few = let e = length-append held (o ∷ []) in let room = can.room in omega (arith, e, room)
done_few L s f held (action.Drop o) answer.Went can once few = let e = filter_shorter (λ p. not (has (o ∷ []) p)) held in omega (arith, e, few)
done_few L s f held (action.Call x m args) (answer.Back results) can once few = absurd once
done_few L s f held act a can once few = few

-- the same frame with another body
same_call : (f g : StackFrame) → g ≡ with_body f g.body → (g.target ≡ f.target) × (g.method ≡ f.method)
same_call f g is = (ap (λ (h : StackFrame). h.target) is, ap (λ (h : StackFrame). h.method) is)

module _ (L : LoadRows) (s : State) (plans : Valid L) (tables : AreValidTables L.tables) (laid : Laid L s) (fits : Fitting L s) (few : FewIn L s) where
  -- a frame that does something
  does_body : (t i : ℕ) (act : Action) (a : Answer) (change : State → State) (made : State) → IsAtOnce a → (d : Does L s t i act a change made) → HoldsFew d.after.body 0
  does_body t i act a change made once d = go doing.f.body refl
    where
      doing : ActsAs L s t act d.fuel d.frame
      doing = acts_as L s t act d.fuel d.frame d.wants

      go : (b : FrameBody Action) → doing.f.body ≡ b → HoldsFew d.after.body 0
      go (body.Code at regs) is =
          answered_few L made d.frame a d.frame.body d.after d.answers
          (stands_few L s doing.f doing.thread.fuel d.fuel (body.Code at regs) act d.frame (brings a) is (subst (λ b. by_body L s doing.thread.fuel doing.f b ≡ Acts act d.fuel d.frame) is doing.by) tt)
      go (body.Native held kept) is =
          let same : d.frame ≡ doing.f = native_same L s doing.f doing.thread.fuel d.fuel held kept act d.frame (subst (λ b. by_body L s doing.thread.fuel doing.f b ≡ Acts act d.fuel d.frame) is doing.by) in
          let here : d.frame.body ≡ body.Native held kept = ap (λ (f : StackFrame). f.body) same ∙ is in
          let answers : AnswersBody L made d.frame a (body.Native held kept) d.after = subst (λ b. AnswersBody L made d.frame a b d.after) here d.answers in
          let can = (subst (BodyFits L s doing.f []) is (body_fits L s plans tables laid fits t act d.fuel d.frame doing)).1 in
          let now : length held + 0 ≤ 8 = subst (λ b. HoldsFew b 0) is (few_top L (stack s t) doing.f (few t) doing.on_top) in
          let then' = done_few L s doing.f held kept a can once (omega (arith, now)) in
          subst (λ (h : StackFrame). HoldsFew h.body 0) (sym answers.1) (omega (arith, then'))

  does_few : (t i : ℕ) (act : Action) (a : Answer) (change : State → State) (made : State) → IsAtOnce a → ((m : State) → (change m).stacks ≡ m.stacks) → Does L s t i act a change made → FewIn L made
  does_few t i act a change made once stacks d =
      let doing = acts_as L s t act d.fuel d.frame d.wants in
      let same = same_call doing.f d.after (body_twice doing.f d.frame d.after doing.same (answered_same L made d.frame a d.frame.body d.after d.answers)) in
      let mid : State = with_thread s t (with_fuel (d.fuel - 1) d.thread) in
      few_stacks L (with_top t d.after mid) made (ap (λ (y : State). y.stacks) d.becomes ∙ stacks (with_top t d.after mid))
      (few_topped L mid t doing.f d.after (few_stacks L s mid refl few) doing.on_top same.0 same.1 (does_body t i act a change made once d))

  -- a caller that is answered has room for what it gets
  replied_few : (m z : State) (t : ℕ) (a : Answer) → FewIn L m → ((g : StackFrame) → top (stack m t) ≡ Some g → HoldsFew g.body (brings a)) → Replies L m t a z → FewIn L z
  replied_few m z t a few' room replies = by_top (top (stack m t)) refl replies
    where
      by_live : (f : StackFrame) → top (stack m t) ≡ Some f → (b : Bool) → AnswersFrame L m t f a b z → FewIn L z
      by_live f is false answers = few_stacks L m z (ap (λ (y : State). y.stacks) answers) few'
      by_live f is true answers =
          let same = same_call f answers.frame (answered_same L z f a f.body answers.frame answers.answers) in
          subst (FewIn L) (sym answers.becomes)
          (few_topped L m t f answers.frame few' is same.0 same.1 (answered_few L z f a f.body answers.frame answers.answers (room f is)))

      by_top : (found : Option StackFrame) → top (stack m t) ≡ found → AnswersTop L m t a found z → FewIn L z
      by_top None is answers = few_stacks L m z (ap (λ (y : State). y.stacks) answers.becomes) few'
      by_top (Some f) is answers = by_live f is (is_live m f.instance) answers

  -- a caller that has paid waits
  paid_few : (t : ℕ) (w : Wish) → wish L s t ≡ Some w → FewIn L w.charged
  paid_few t w wants = elim (wish_as L s t w wants) [
    | inl c ↦ few_stacks L s w.charged (ap (λ (v : Wish). v.charged.stacks) c.is) few
    | inr f ↦
        let acts = acts_as L s t _ f.fuel f.frame f.wants in
        let mid : State = with_thread s t (with_fuel (f.fuel - 1) f.thread) in
        let waits' : StackFrame = waiting L s (moved_of w.args) f.frame in
        let same = same_call acts.f waits' (body_twice acts.f f.frame waits' acts.same refl) in
        let before = stands_few L s acts.f acts.thread.fuel f.fuel acts.f.body _ f.frame 0 refl acts.by (few_top L (stack s t) acts.f (few t) acts.on_top) in
        subst (FewIn L) (sym (ap (λ (v : Wish). v.charged) f.is))
        (few_topped L mid t acts.f waits' (few_stacks L s mid refl few) acts.on_top same.0 same.1 (waiting_few L s (moved_of w.args) f.frame f.frame.body 0 before))
  ]

  -- a body that begins holds what was moved to it
  begun_few : (z : State) (c x i m : ℕ) (args : List Arg) (f : StackFrame) (method : MethodRow) → method_of L x m ≡ Some method → length args ≡ length method.params → Begins L z c x i m args f → HoldsFew f.body 0
  begun_few z c x i m args f method row' many begins = go f.body begins.body
    where
      go : (b : FrameBody Action) → BeginsBody L z f b → HoldsFew b 0
      go (body.Code at regs) starts = tt
      go (body.Native held next) starts =
          let is : held ≡ moved_of args = starts.1 ∙ ap (λ (g : StackFrame). moved_of g.args) begins.is in
          let e : length held ≡ length (moved_of args) = ap (λ os. length os) is in
          let le = moved_shorter args in
          let few' = (method_small L plans x m method row').params in
          omega (arith, e, le, many, few')

module _ (L : LoadRows) (s : State) (plans : Valid L) (tables : AreValidTables L.tables) (laid : Laid L s) (owned : Owned L (ledger_of L s)) (fits : Fitting L s) (clients : ClientFacts L s) (few : FewIn L s) where
  -- the caller that waits has room for what the call may bring
  caller_few : (t : ℕ) (ready : is_undone (row s.threads t) ≡ true) (w : Wish) (wished : FrameWish L s t w) (g : StackFrame) → g.target ≡ w.target → g.method ≡ w.method → HoldsFew (waits L s t plans tables laid owned fits ready w wished).body (brought_by L (g ∷ []))
  caller_few t ready w wished g target method = go f.body refl
    where
      f : StackFrame
      f = caller_frame L s t plans tables laid owned fits ready w wished

      acts : ActsAs L s t (action.Call w.target w.method w.args) wished.fuel wished.frame
      acts = calling L s t plans tables laid owned fits ready w wished

      go : (b : FrameBody Action) → f.body ≡ b → HoldsFew (waits L s t plans tables laid owned fits ready w wished).body (brought_by L (g ∷ []))
      go (body.Code at regs) is =
          waiting_few L s (moved_of w.args) wished.frame wished.frame.body (brought_by L (g ∷ []))
          (stands_few L s f acts.thread.fuel wished.fuel (body.Code at regs) _ wished.frame (brought_by L (g ∷ [])) is (subst (λ b. by_body L s acts.thread.fuel f b ≡ Acts (action.Call w.target w.method w.args) wished.fuel wished.frame) is acts.by) tt)
      go (body.Native held kept) is =
          let calls = native_calls L s t plans tables laid owned fits ready w wished held kept is in
          let here : wished.frame.body ≡ body.Native held kept = ap (λ (h : StackFrame). h.body) calls.0 ∙ is in
          let room = calls.1.room in
          let row' : method_of L g.target g.method ≡ Some calls.1.method = rw (target, method) calls.1.row in
          let brings' : brought_by L (g ∷ []) ≡ length (filter is_object calls.1.method.results) = ap (λ r. length (filter is_object (results_of r))) row' in
          subst (λ b. HoldsFew (waiting_body (domain_of_instance L s wished.frame.instance) (moved_of w.args) b) (brought_by L (g ∷ []))) (sym here) (omega (arith, room, brings'))

  calls_few : (t c x i m : ℕ) (args : List Arg) (made : State) → is_enabled L s t ≡ true → Calls L s t c x i m args made → FewIn L made
  calls_few t c x i m args made enabled r =
      few_stacks L (with_stack r.charged t (stack r.charged t ++ r.frame ∷ [])) made (ap (λ (y : State). y.stacks) r.becomes)
      (few_set L r.charged t (stack r.charged t ++ r.frame ∷ []) paid (few_push L (stack r.charged t) r.frame (paid t) room new))
    where
      ready : is_undone (row s.threads t) ≡ true
      ready = (not_waiting L s t enabled).0

      w : Wish
      w = record { target = x; method = m; args = args; charged = r.charged }

      k : Called L s t w
      k = called L s t plans tables laid owned fits clients.calls ready w r.wants

      paid : FewIn L r.charged
      paid = paid_few L s plans tables laid fits few t w r.wants

      new : HoldsFew r.frame.body 0
      new = begun_few L s plans tables laid fits few made c x i m args r.frame k.method k.row (args_as_many (types_of L s) k.method.params args (args_suiting (types_of L s) k.method.params args k.suits)) r.begins

      room : (f : StackFrame) → top (stack r.charged t) ≡ Some f → HoldsFew f.body (brought_by L (r.frame ∷ []))
      room f on_top = elim (wish_as L s t w r.wants) [
        | inl wished ↦
            let alone : stack s t ≡ [] = (commands_as L s t (Commands (command.Call x m wished.given wished.names)) tt wished.wants).alone in
            let none : top (stack r.charged t) ≡ None = ap (λ (v : Wish). top (frames_of (row v.charged.stacks t))) wished.is ∙ ap top alone in
            absurd cc
        | inr wished ↦
            let here : stack r.charged t ≡ below_top (stack s t) ++ waits L s t plans tables laid owned fits ready w wished ∷ [] = stack_charged L s plans tables laid owned fits t ready w wished in
            let on_top' : top (stack r.charged t) ≡ Some (waits L s t plans tables laid owned fits ready w wished) = ap top here ∙ top_pushed (below_top (stack s t)) (waits L s t plans tables laid owned fits ready w wished) in
            let same : waits L s t plans tables laid owned fits ready w wished ≡ f = cc in
            subst (λ (h : StackFrame). HoldsFew h.body (brought_by L (r.frame ∷ []))) same
            (caller_few t ready w wished r.frame (ap (λ (g : StackFrame). g.target) r.begins.is) (ap (λ (g : StackFrame). g.method) r.begins.is))
      ]

  popped_few : (t : ℕ) → FewIn L (popped t s)
  popped_few t = few_set L s t (below_top (stack s t)) few (few_below L (stack s t) (few t))

  popped_stack : (t : ℕ) → is_undone (row s.threads t) ≡ true → stack (popped t s) t ≡ below_top (stack s t)
  popped_stack t ready = let within = ready_within L s t laid ready in ap frames_of (row_set_same s.stacks t (below_top (stack s t)) within.0 within.1)

  returns_few : (t c : ℕ) (results : List Value) (made : State) → is_undone (row s.threads t) ≡ true → Returns L s t c results made → FewIn L made
  returns_few t c results made ready r =
      replied_few L s plans tables laid fits few (after_return t r.fuel r.thread results s) made t (answer.Back results) (few_stacks L (popped t s) (after_return t r.fuel r.thread results s) refl (popped_few t)) room r.replies
    where
      doing : ActsAs L s t (action.Ret results) r.fuel r.frame
      doing = acts_as L s t (action.Ret results) r.fuel r.frame r.wants

      room : (g : StackFrame) → top (stack (popped t s) t) ≡ Some g → HoldsFew g.body (length (filter_map object_of_value results))
      room g on_top =
          let well = returns_well L s plans tables laid owned fits t r.fuel results r.frame doing in
          let under = few_caller L (stack s t) doing.f g (few t) doing.on_top (sym (ap top (popped_stack t ready)) ∙ on_top) in
          let as_many : brought_by L (doing.f ∷ []) ≡ length (filter_map object_of_value results) = ap (λ m. length (filter is_object (results_of m))) well.row ∙ sym (objects_suit (types_of L s) well.method.results results well.suits) in
          subst (HoldsFew g.body) as_many under

  again_few : (t c x i : ℕ) (made : State) → IssuesAgain L s t c x i made → FewIn L made
  again_few t c x i made r =
      let call : CallFits L s r.dead = (calls_back L s (below_top (stack s t)) (r.dead ∷ []) (subst (CallsFit L s) (top_splits (stack s t) r.dead r.of.on_top) (fits.calls t))).0 in
      let row' : method_of L x r.dead.method ≡ Some call.method = subst (λ y. method_of L y r.dead.method ≡ Some call.method) (sym r.through) call.row in
      let new = begun_few L s plans tables laid fits few made c x i r.dead.method r.dead.args r.frame call.method row' (args_as_many (types_of L s) call.method.params r.dead.args call.args) r.begins in
      subst (FewIn L) (sym r.becomes)
      (few_topped L s t r.dead r.frame few r.of.on_top (ap (λ (g : StackFrame). g.target) r.begins.is ∙ r.through) (ap (λ (g : StackFrame). g.method) r.begins.is) new)

  -- the stacks after a row
  pub held_row : (e : Entry) (made : State) → is_enabled L s (thread_of e) ≡ true → RowOf L s e made → FewIn L made
  held_row (entry.Call t c x i m args) made enabled r = calls_few t c x i m args made enabled r
  held_row (entry.Refuse t c why x m args) made enabled r =
      let paid = paid_few L s plans tables laid fits few t (record { target = x; method = m; args = args; charged = r.charged }) r.wants in
      let mid : State = numbered c (without (moved_of args) r.charged) in
      replied_few L s plans tables laid fits few mid made t (answer.Failed why) (few_stacks L r.charged mid refl paid) (λ g on_top. few_top L (stack r.charged t) g (paid t) on_top) r.replies
  held_row (entry.Ret t c results) made enabled r = returns_few t c results made (not_waiting L s t enabled).0 r
  held_row (entry.Unwound t c) made enabled r = replied_few L s plans tables laid fits few (popped t s) made t (answer.Failed code.Unwound) (popped_few t) (λ g on_top. few_top L (stack (popped t s) t) g (popped_few t t) on_top) r.replies
  held_row (entry.Again t c x i) made enabled r = again_few t c x i made r
  held_row (entry.New t w o ty values) made enabled r = elim r.makes [
    | inl c ↦ few_stacks L s made (ap (λ (y : State). y.stacks) c.does.becomes) few
    | inr f ↦ does_few L s plans tables laid fits few t _ _ (answer.Made o) _ made tt (λ y. refl) f.does
  ]
  held_row (entry.Drop t o) made enabled (inl d) = few_stacks L s made (ap (λ (y : State). y.stacks) d.becomes) few
  held_row (entry.Drop t o) made enabled (inr d) = does_few L s plans tables laid fits few t _ _ answer.Went _ made tt (λ y. refl) d.1
  held_row (entry.Set t o k values) made enabled r = does_few L s plans tables laid fits few t _ _ answer.Went _ made tt (λ y. refl) r.1
  held_row (entry.Wput t i k v) made enabled r = does_few L s plans tables laid fits few t _ _ answer.Went _ made tt (λ y. refl) r
  held_row (entry.Take t i slot o) made enabled r = does_few L s plans tables laid fits few t _ _ (answer.Made o) _ made tt (λ y. refl) r.does
  held_row (entry.Put t i slot o) made enabled r = does_few L s plans tables laid fits few t _ _ answer.Went _ made tt (λ y. refl) r.does
  held_row (entry.DevGet t o b) made enabled r = does_few L s plans tables laid fits few t _ _ answer.Went _ made tt (λ y. refl) r.1
  held_row (entry.DevPut t b o) made enabled r = does_few L s plans tables laid fits few t _ _ answer.Went _ made tt (λ y. refl) r.1
  held_row (entry.Hang t o k v) made enabled r = does_few L s plans tables laid fits few t _ _ answer.Went _ made tt (λ y. refl) r.does
  held_row (entry.Unhang t o k v) made enabled r = does_few L s plans tables laid fits few t _ _ (answer.Made v) _ made tt (λ y. refl) r.does
  held_row (entry.Show t o values) made enabled r = few_stacks L s made (ap (λ (y : State). y.stacks) r.does.becomes) few
  held_row (entry.Free o) made enabled r = absurd r
  held_row other made enabled r = few_stacks L s made (ap (λ (y : State). y.stacks) r.becomes) few

-- no frames at the start
pub held_start : (L : LoadRows) → FewIn L (start L)
held_start L u = none L.clients u
  where
    none : {A : Type 0} (xs : List A) (t : ℕ) → AllFew L (frames_of (row (map (λ x. no_frames) xs) t))
    none xs zero = tt
    none [] (suc t) = tt
    none (x ∷ xs) (suc zero) = tt
    none (x ∷ xs) (suc (suc t)) = none xs (suc t)
