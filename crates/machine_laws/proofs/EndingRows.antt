-- Returns, refusals, unwound calls and calls issued again are their rows of the ledger.
use Rattle.std.proofs.Common.{◌≡◌, ℕ, suc, ◌-◌, ◌==◌, Bool, true, false, not, ◌||◌, List, [], ◌∷◌, ◌++◌, Option, Some, refl, ap, ap₂, sym, subst, ◌∙◌, arith, inl, inr, add-one}
use Rattle.std.proofs.lemmas.Bool.{eqb-true, and_parts, not-true}
use Rattle.machine_defs.specs.declared.values.Arg.{Arg}
use Rattle.rl_defs.specs.declared.values.Value.{Value}
use Rattle.machine_defs.specs.declared.values.Owner.{Owner}
use Rattle.machine_defs.specs.declared.values.Owner.TheVariants as owner
use Rattle.machine_defs.specs.declared.values.RpcCode.{RpcCode}
use Rattle.machine_defs.specs.declared.values.RpcCode.TheVariants as code
use Rattle.machine_defs.specs.declared.entry.Entry.TheVariants as entry
use Rattle.machine_defs.specs.declared.frame.Action.TheVariants as action
use Rattle.machine_defs.specs.declared.frame.Answer.TheVariants as answer
use Rattle.rl_defs.specs.declared.load.LoadRows.{LoadRows}
use Rattle.machine_defs.specs.State.{State, StackFrame, Thread, Placement, is_live, current, stack, with_thread}
use Rattle.rl_defs.specs.Rows.{row}
use Rattle.machine_defs.specs.Loans.{count}
use Rattle.machine_defs.specs.Arguments.{has, moved_of}
use Rattle.machine_defs.specs.Calling.{is_undone}
use Rattle.machine_defs.specs.Objects.{without}
use Rattle.rl_defs.specs.Rows.{is_target}
use Rattle.machine_defs.specs.Frames.{below_top, popped, with_top, acting}
use Rattle.machine_defs.specs.Calling.{with_fuel, restarts_left, is_gone, is_shadow, is_idempotent, is_reissuable, refusal}
use Rattle.machine_defs.specs.CallRows.{numbered, after_return, Returns, is_over, IsDeadCall}
use Rattle.machine_defs.specs.Arguments.{objects_in}
use Rattle.machine_defs.specs.Sound.{own_of}
use Rattle.machine_laws.specs.Ledger.{LedgerFrame, Ledger, at, alive}
use Rattle.machine_laws.specs.LedgerOf.{frame_entry, ledger_of}
use Rattle.machine_laws.specs.LedgerRows.{Runs, IsDead, Exchanged, MayPass, MayReissue, IsFree, with_own, give, remove, Row}
use Rattle.machine_laws.specs.Shape.{Laid}
use Rattle.machine_laws.proofs.Rows.{at_same}
use Rattle.machine_laws.proofs.Tops.{bottom, entries, under, client_within, stacks_at, done_same, runs_frame, dead_frame}
use Rattle.machine_laws.proofs.Acting.{acts_as}
use Rattle.machine_laws.proofs.Seats.{seats, IsIn, seats_given, seats_without}
use Rattle.machine_laws.proofs.Pushing.{at_twice, popped_ledger}
use Rattle.machine_laws.proofs.CallingRows.{Caller, refused_for, refused_in, current_same}
use Rattle.machine_laws.proofs.Replying.{Replied}

-- a frame popped, and its thread charged
pub popped_charged : (L : LoadRows) (s : State) (t fuel : ℕ) (thread : Thread) → Laid L s → row s.threads t ≡ Some thread
    → ledger_of L (with_thread (popped t s) t (with_fuel fuel thread)) ≡ record (ledger_of L s) { stack = at t (under s t) ((ledger_of L s).stack) }
popped_charged L s t fuel thread laid of =
    let w = client_within L s t thread laid of in
    let all' = stacks_at L s t (below_top (stack s t)) (with_fuel fuel thread) laid w.0 w.1 in
    let same : entries t (below_top (stack s t)) (Some (with_fuel fuel thread)) ≡ under s t = rw of refl in
    ap₂ (λ (st : ℕ → List LedgerFrame) (done : ℕ → Bool). record (ledger_of L s) { stack = st; done = done }) (all' ∙ ap (λ fs. at t fs ((ledger_of L s).stack)) same) (done_same L s t thread (with_fuel fuel thread) of refl)

module _ (L : LoadRows) (s z : State) (t : ℕ) (laid : Laid L s) (ready : is_undone (row s.threads t) ≡ true) where
  pub return_row : (c : ℕ) (results : List Value) (r : Returns L s t c results z) → (replied : Replied L (after_return t r.fuel r.thread results s) t (answer.Back results) z)
      → ((o : ℕ) → has (objects_in results) o ≡ true → IsIn s o)
      → Exchanged (own_of (acts_as L s t (action.Ret results) r.fuel r.frame r.wants).f) (objects_in results) [] []
      → (alive (is_live s) replied.g.party ≡ true → Exchanged replied.g.own [] (objects_in results) replied.own)
      → Row L (ledger_of L s) (entry.Ret t c results) (ledger_of L z)
  return_row c results r replied there all' gains =
      let doing = acts_as L s t (action.Ret results) r.fuel r.frame r.wants in
      let before : State = with_thread (popped t s) t (with_fuel (r.fuel - 1) r.thread) in
      let w : Owner = acting (popped t s) t in
      let popped' = popped_charged L s t (r.fuel - 1) r.thread laid r.of in
      let seat = seats_given before w (objects_in results) there in
      let stack_here : under s t ≡ replied.g ∷ replied.fs = sym (at_same t (under s t) ((ledger_of L s).stack)) ∙ sym (ap (λ (k : Ledger). k.stack t) popped') ∙ replied.here in
      let runs = runs_frame L s t doing.thread doing.f laid doing.of ready doing.on_top doing.lives in
      let number : c ≡ doing.f.call = r.call ∙ ap (λ (g : StackFrame). g.call) doing.same in (
        frame_entry doing.f,
        replied.g,
        replied.fs,
        replied.own,
        subst (λ fs. Runs L (ledger_of L s) t (frame_entry doing.f) fs) stack_here runs,
        number,
        all',
        gains,
        replied.ledger
            ∙ ap₂ (λ (seat : ℕ → Option Placement) (st : ℕ → List LedgerFrame). record (ledger_of L before) { stack = with_own t replied.g replied.own replied.fs st; seat = seat }) seat (ap (λ (k : Ledger). k.stack) popped')
            ∙ ap (λ (k : Ledger). record k { stack = with_own t replied.g replied.own replied.fs (at t (under s t) ((ledger_of L s).stack)); seat = give (objects_in results) w (seats s) }) popped'
            ∙ ap₂ (λ (st : ℕ → List LedgerFrame) (v : Owner). record (ledger_of L s) { stack = st; seat = give (objects_in results) v (seats s) }) (at_twice t (record replied.g { own = replied.own } ∷ replied.fs) (under s t) ((ledger_of L s).stack)) (sym replied.party),
      )

  pub refuse_row : (c x m : ℕ) (why : RpcCode) (args : List Arg) (charged : State) (caller : Caller L s t charged) → is_target L x ≡ true → refusal L s t x ≡ Some why → c ≡ s.next_call
      → (replied : Replied L (numbered c (without (moved_of args) charged)) t (answer.Failed why) z)
      → MayPass caller.f args caller.own → ((o : ℕ) → count o replied.own ≡ count o caller.own)
      → Row L (ledger_of L s) (entry.Refuse t c why x m args) (ledger_of L z)
  refuse_row c x m why args charged caller target refused number replied passes same =
      let mid : State = numbered c (without (moved_of args) charged) in
      let seat : seats mid ≡ remove (moved_of args) (seats charged) = seats_without L charged (moved_of args) caller.laid in
      let same_seat : seats charged ≡ seats s = ap (λ (k : Ledger). k.seat) caller.ledger in
      let stack_here : (ledger_of L charged).stack ≡ with_own t caller.f caller.own caller.fs ((ledger_of L s).stack) = ap (λ (k : Ledger). k.stack) caller.ledger in
      let top_here : record caller.f { own = caller.own } ∷ caller.fs ≡ replied.g ∷ replied.fs
      = sym (at_same t (record caller.f { own = caller.own } ∷ caller.fs) ((ledger_of L s).stack)) ∙ sym (ap (λ (st : ℕ → List LedgerFrame). st t) stack_here) ∙ replied.here in
      let g_is : record caller.f { own = caller.own } ≡ replied.g = (let h = top_here in cc) in
      let fs_is : caller.fs ≡ replied.fs = (let h = top_here in cc) in
      let stack_after : with_own t replied.g replied.own replied.fs ((ledger_of L charged).stack) ≡ with_own t caller.f replied.own caller.fs ((ledger_of L s).stack)
      = ap₂ (λ (g : LedgerFrame) (fs : List LedgerFrame). with_own t g replied.own fs ((ledger_of L charged).stack)) (sym g_is) (sym fs_is)
      ∙ ap (λ st. with_own t caller.f replied.own caller.fs st) stack_here
      ∙ at_twice t (record caller.f { own = replied.own } ∷ caller.fs) (record caller.f { own = caller.own } ∷ caller.fs) ((ledger_of L s).stack) in (
        caller.f,
        caller.fs,
        replied.own,
        caller.runs,
        number,
        refused_in L s charged t laid caller x why target (refused_for L s t x why refused),
        record {
          moved = λ o. (let a = passes.moved o in let b = same o in omega arith);
          lent = λ o some. elim (passes.lent o some) [ inl mine ↦ inl (let b = same o in omega arith) | inr lent ↦ inr lent ];
        },
        replied.ledger
            ∙ ap₂ (λ (seat : ℕ → Option Placement) (n : ℕ). record (ledger_of L charged) { stack = with_own t replied.g replied.own replied.fs ((ledger_of L charged).stack); seat = seat; next_call = n }) (seat ∙ ap (remove (moved_of args)) same_seat) (add-one c)
            ∙ ap₂ (λ (st : ℕ → List LedgerFrame) (k : Ledger). record k { stack = st; seat = remove (moved_of args) (seats s); next_call = suc c }) stack_after caller.ledger,
      )

  pub unwound_row : (c : ℕ) (f : StackFrame) (thread : Thread) → row s.threads t ≡ Some thread → IsDeadCall s t c f → is_over L s f ≡ true → is_target L f.target ≡ true
      → (replied : Replied L (popped t s) t (answer.Failed code.Unwound) z) → (alive (is_live s) replied.g.party ≡ true → Exchanged replied.g.own [] [] replied.own)
      → Row L (ledger_of L s) (entry.Unwound t c) (ledger_of L z)
  unwound_row c f thread of call over target replied gains =
      let w = client_within L s t thread laid of in
      let popped' = popped_ledger L s t laid w.0 w.1 in
      let stack_here : under s t ≡ replied.g ∷ replied.fs = sym (at_same t (under s t) ((ledger_of L s).stack)) ∙ sym (ap (λ (k : Ledger). k.stack t) popped') ∙ replied.here in
      let dead = dead_frame L s t thread f laid of ready call.on_top (not-true (is_live s f.instance) call.dead) in (
        frame_entry f,
        replied.g,
        replied.fs,
        replied.own,
        subst (λ fs. IsDead L (ledger_of L s) t (frame_entry f) fs) stack_here dead,
        call.call,
        gone,
        gains,
        replied.ledger
            ∙ ap (λ (k : Ledger). record k { stack = with_own t replied.g replied.own replied.fs k.stack }) popped'
            ∙ ap (λ (st : ℕ → List LedgerFrame). record (ledger_of L s) { stack = st }) (at_twice t (record replied.g { own = replied.own } ∷ replied.fs) (under s t) ((ledger_of L s).stack)),
      )
    where
      gone : (x : ℕ) → MayReissue L (frame_entry f) x → (is_live s ((ledger_of L s).current x) ≡ false) × (restarts_left L s x ≡ 0)
      gone x may =
          let same : f.target ≡ x = may.through in
          let shadow : is_shadow L f.target ≡ true = subst (λ n. is_shadow L n ≡ true) (sym same) may.shadow in
          let idem : is_idempotent L f.target f.method ≡ true = subst (λ n. is_idempotent L n f.method ≡ true) (sym same) may.idempotent in
          let re : is_reissuable L f ≡ true = rw (shadow, idem) refl in
          let gone' : is_gone L s f.target ≡ true = (let e : (not true || is_gone L s f.target) ≡ true = rw re at over in e) in
          let parts = and_parts (not (is_live s (current L s f.target))) (restarts_left L s f.target == 0) gone' in
          subst (λ n. (is_live s ((ledger_of L s).current n) ≡ false) × (restarts_left L s n ≡ 0)) same
          (rw (current_same L s f.target target) (not-true (is_live s (current L s f.target)) parts.0), eqb-true (restarts_left L s f.target) 0 parts.1)

  pub again_row : (c x i : ℕ) (f g : StackFrame) (thread : Thread) → row s.threads t ≡ Some thread → IsDeadCall s t c f → x ≡ f.target → is_target L x ≡ true → is_reissuable L f ≡ true
      → i ≡ current L s x → is_live s i ≡ true → IsFree L (ledger_of L s) t i → frame_entry g ≡ record (frame_entry f) { party = owner.Instance i; own = [] } → z ≡ with_top t g s
      → Row L (ledger_of L s) (entry.Again t c x i) (ledger_of L z)
  again_row c x i f g thread of call through target re into lives free begins becomes =
      let w = client_within L s t thread laid of in
      let dead = dead_frame L s t thread f laid of ready call.on_top (not-true (is_live s f.instance) call.dead) in
      let parts = and_parts (is_shadow L f.target) (is_idempotent L f.target f.method) re in
      let all' = Rattle.machine_laws.proofs.Tops.frames_at L s t (below_top (stack s t) ++ g ∷ []) laid w.0 w.1 in
      let push = Rattle.machine_laws.proofs.Stacks.entries_push (below_top (stack s t)) g (bottom t (row s.threads t) ∷ []) in (
        frame_entry f,
        under s t,
        dead,
        call.call,
        record {
          through = sym through;
          shadow = subst (λ n. is_shadow L n ≡ true) (sym through) parts.0;
          idempotent = subst (λ n. is_idempotent L n f.method ≡ true) (sym through) parts.1;
        },
        into ∙ sym (current_same L s x target),
        lives,
        free,
        ap (ledger_of L) becomes
            ∙ ap (λ (st : ℕ → List LedgerFrame). record (ledger_of L s) { stack = st }) (all' ∙ ap (λ fs. at t fs ((ledger_of L s).stack)) (push ∙ ap (λ (h : LedgerFrame). h ∷ under s t) begins)),
      )
