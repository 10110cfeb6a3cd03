-- Returns, refusals, unwound calls, calls issued again and reloads, as they are made, are rows of the ledger.
use Rattle.std.specs.Option.{option_map_or}
use Rattle.std.proofs.Common.{◌≡◌, ℕ, suc, ◌-◌, ◌<◌, Bool, true, false, if◌then◌else◌, ◌&&◌, ◌⊎◌, List, [], ◌∷◌, Option, Some, None, slice_get, refl, ap, ap₂, sym, subst, ◌∙◌, arith, inl, inr, ◌≤◌, length}
use Rattle.std.specs.List.{filter_map}
use Rattle.std.proofs.lemmas.Bool.{and_parts, or_parts}
use Rattle.machine_defs.specs.declared.values.Arg.{Arg}
use Rattle.machine_defs.specs.declared.values.Arg.TheVariants as arg
use Rattle.rl_defs.specs.declared.values.Value.{Value}
use Rattle.machine_defs.specs.declared.values.Owner.{Owner}
use Rattle.machine_defs.specs.declared.values.Owner.TheVariants as owner
use Rattle.machine_defs.specs.declared.values.RpcCode.TheVariants as code
use Rattle.rl_defs.specs.declared.tables.Kind.{Kind}
use Rattle.rl_defs.specs.declared.tables.Kind.TheVariants as kind
use Rattle.machine_defs.specs.declared.entry.Entry.TheVariants as entry
use Rattle.machine_defs.specs.declared.frame.Action.TheVariants as action
use Rattle.machine_defs.specs.declared.frame.Answer.{Answer}
use Rattle.machine_defs.specs.declared.frame.Answer.TheVariants as answer
use Rattle.rl_defs.specs.declared.load.LoadRows.{LoadRows}
use Rattle.rl_defs.specs.Domains.{load_of_target}
use Rattle.rl_defs.specs.Registers.{Typing}
use Rattle.machine_defs.specs.State.{State, StackFrame, Object, Thread, Root, is_live, current, stack, with_thread}
use Rattle.rl_defs.specs.Rows.{row}
use Rattle.machine_defs.specs.Loans.{count}
use Rattle.machine_defs.specs.Arguments.{object_of_value}
use Rattle.machine_defs.specs.State.{top, instance_load}
use Rattle.machine_defs.specs.Calling.{is_undone, is_taken}
use Rattle.machine_defs.specs.Arguments.{has, moved_of, lent_of}
use Rattle.machine_defs.specs.Seen.{types_of}
use Rattle.rl_defs.specs.Rows.{is_target}
use Rattle.machine_defs.specs.Frames.{below_top, popped, with_top, Answers, Replies, AnswersTop, AnswersFrame, AnswersLive, AnswersClient}
use Rattle.machine_defs.specs.Calling.{with_fuel, is_dead, is_shadow, is_idempotent, is_reissuable, would_enter, would_reenter, is_enabled, wish}
use Rattle.machine_defs.specs.CallRows.{passed_to, Returns, after_return, Unwinds, IssuesAgain, Reloads, WouldCall, WouldReenter}
use Rattle.machine_defs.specs.Arguments.{objects_in}
use Rattle.machine_defs.specs.Sound.{own_of, arg_stands, args_stand}
use Rattle.rl_defs.proofs.ValidFacts.{method_kept, moves_none, shadow_loads, target_there, target_within}
use Rattle.machine_laws.specs.LedgerOf.{frame_entry, ledger_of}
use Rattle.machine_laws.specs.LedgerSound.{Owned}
use Rattle.machine_laws.specs.LedgerRows.{callee, Row}
use Rattle.machine_laws.specs.Shape.{Laid}
use Rattle.machine_laws.specs.Fitting.{CallFits, CallsFit, Fitting}
use Rattle.machine_laws.proofs.Objects.{rises_map}
use Rattle.machine_laws.proofs.Rows.{row_set_same, row_within}
use Rattle.machine_laws.proofs.Stacks.{top_splits}
use Rattle.machine_laws.proofs.Tops.{client_within, runs_frame, client_stack}
use Rattle.machine_laws.proofs.Acting.{acts_as}
use Rattle.machine_laws.proofs.Present.{own_root, seated}
use Rattle.machine_laws.proofs.CallerRanks.{and_false, free_to_enter}
use Rattle.machine_laws.proofs.Pushing.{laid_stack, laid_thread}
use Rattle.machine_laws.proofs.EndingRows.{return_row, unwound_row, again_row}
use Rattle.machine_laws.proofs.ReloadRow.{reload_row}
use Rattle.machine_laws.proofs.StackFits.{calls_back}
use Rattle.machine_laws.proofs.OwnFits.{results_are_values}
use Rattle.machine_laws.proofs.CallSteps.{ClientsCall, called, begun_entry, not_waiting}
use Rattle.machine_laws.proofs.WaitingAnswers.{popped_stack}
use Rattle.machine_laws.proofs.ReturnSteps.{returns_well, own_unlent, ClientGets, PoppedTo, gets}
use Rattle.machine_laws.proofs.CodeDoing.{load_there}
use Rattle.machine_laws.proofs.Counts.{has_counted}
use Rattle.rl_defs.specs.Valid.{Valid, AreValidTables}

-- the thread of a client that isn't done
pub thread_there : (s : State) (t : ℕ) → is_undone (row s.threads t) ≡ true → (thread : Thread) × (row s.threads t ≡ Some thread)
thread_there s t is = go (row s.threads t) refl
  where
    go : (found : Option Thread) → row s.threads t ≡ found → (thread : Thread) × (row s.threads t ≡ Some thread)
    go None e = absurd (let h : is_undone None ≡ true = rw e at is in cc)
    go (Some th) e = (th, e)

pub ready_within : (L : LoadRows) (s : State) (t : ℕ) → Laid L s → is_undone (row s.threads t) ≡ true → (0 < t) × (t ≤ length s.stacks)
ready_within L s t laid is = let th = thread_there s t is in client_stack L s t th.0 laid th.1

pub laid_given : (L : LoadRows) (s : State) (w : Owner) (os : List ℕ) → Laid L s → Laid L (passed_to w os s)
laid_given L s w os laid = record {
  stacks = laid.stacks;
  threads = laid.threads;
  shadows = laid.shadows;
  objects = rises_map (λ x. if has os x.number then Rattle.machine_defs.specs.Objects.owned_by w x else x) (λ x. same (has os x.number) x) 0 s.next_object s.objects laid.objects;
  started = laid.started;
}
  where
    same : (b : Bool) (x : Object) → (if b then Rattle.machine_defs.specs.Objects.owned_by w x else x).number ≡ x.number
    same true x = refl
    same false x = refl

-- a reply leaves the instances
pub reply_instances : (L : LoadRows) (s z : State) (t : ℕ) (a : Answer) → Replies L s t a z → z.instances ≡ s.instances
reply_instances L s z t a replies = go (top (stack s t)) replies
  where
    live : (f : StackFrame) (b : Bool) → AnswersFrame L s t f a b z → z.instances ≡ s.instances
    live f true answers = ap (λ (y : State). y.instances) answers.becomes
    live f false answers = ap (λ (y : State). y.instances) answers

    go : (found : Option StackFrame) → AnswersTop L s t a found z → z.instances ≡ s.instances
    go None answers = ap (λ (y : State). y.instances) answers.becomes
    go (Some f) answers = live f (is_live s f.instance) answers

pub loads_by : (s z : State) → z.instances ≡ s.instances → (i : ℕ) → instance_load z i ≡ instance_load s i
loads_by s z same i = ap (λ is'. Rattle.machine_laws.proofs.Parts.load_of_instance (row is' i)) same

-- a call that may be issued again moves nothing
pub moves_nothing : (types : Typing) (kinds : List Kind) (args : List Arg) → ((p ty : ℕ) → slice_get kinds p ≡ Some (kind.Own ty) → ⊥) → args_stand types kinds args ≡ true → moved_of args ≡ []
moves_nothing types [] [] none stand = refl
moves_nothing types (k ∷ kinds) (arg.Num n ∷ args) none stand = moves_nothing types kinds args (λ p ty e. none (suc p) ty e) (and_parts (arg_stands types k (arg.Num n)) (args_stand types kinds args) stand).1
moves_nothing types (k ∷ kinds) (arg.Lent o ∷ args) none stand = moves_nothing types kinds args (λ p ty e. none (suc p) ty e) (and_parts (arg_stands types k (arg.Lent o)) (args_stand types kinds args) stand).1
moves_nothing types (k ∷ kinds) (arg.Cap x ∷ args) none stand = moves_nothing types kinds args (λ p ty e. none (suc p) ty e) (and_parts (arg_stands types k (arg.Cap x)) (args_stand types kinds args) stand).1
moves_nothing types (kind.Own ty ∷ kinds) (arg.Moved o ∷ args) none stand = absurd (none 0 ty refl)
moves_nothing types (kind.Num w ∷ kinds) (arg.Moved o ∷ args) none stand = absurd cc
moves_nothing types (kind.Lent ty ∷ kinds) (arg.Moved o ∷ args) none stand = absurd cc
moves_nothing types (kind.Cap t ∷ kinds) (arg.Moved o ∷ args) none stand = absurd cc
moves_nothing types [] (a ∷ args) none stand = absurd cc
moves_nothing types (k ∷ kinds) [] none stand = absurd cc

module _ (L : LoadRows) (s : State) (plans : Valid L) (tables : AreValidTables L.tables) (laid : Laid L s) (owned : Owned L (ledger_of L s)) (fits : Fitting L s) where
  -- what the call of a top frame is of
  pub top_call : (t : ℕ) (f : StackFrame) → top (stack s t) ≡ Some f → CallFits L s f
  top_call t f on_top = (calls_back L s (below_top (stack s t)) (f ∷ []) (subst (CallsFit L s) (top_splits (stack s t) f on_top) (fits.calls t))).0

  pub returns : ClientGets L s → (t c : ℕ) (results : List Value) (z : State) → is_undone (row s.threads t) ≡ true → Returns L s t c results z → Row L (ledger_of L s) (entry.Ret t c results) (ledger_of L z)
  returns clients t c results z ready r =
      let doing = acts_as L s t (action.Ret results) r.fuel r.frame r.wants in
      let f : StackFrame = doing.f in
      let well = returns_well L s plans tables laid owned fits t r.fuel results r.frame doing in
      let w = client_within L s t r.thread laid r.of in
      let s' : State = after_return t r.fuel r.thread results s in
      let popped' : PoppedTo L s t r.thread (with_fuel (r.fuel - 1) r.thread) s' = record {
        laid = laid_given L (with_thread (popped t s) t (with_fuel (r.fuel - 1) r.thread)) (Rattle.machine_defs.specs.Frames.acting (popped t s) t) (filter_map object_of_value results) (laid_thread L (popped t s) t (with_fuel (r.fuel - 1) r.thread) (laid_stack L s t (below_top (stack s t)) laid));
        stack = popped_stack L s t laid w.0 w.1;
        instances = refl;
        of = (let b = row_within s.threads t r.thread r.of in row_set_same s.threads t (with_fuel (r.fuel - 1) r.thread) b.0 b.1);
        names = refl;
        place = refl;
      } in
      let runs = runs_frame L s t doing.thread f laid doing.of ready doing.on_top doing.lives in
      let some : (p : ℕ) → 0 < count p (objects_in results) → 0 < count p (own_of f) = λ p h. (let e = well.all p in omega (arith, e, h)) in
      let got = gets L s plans tables laid owned fits clients t r.thread (with_fuel (r.fuel - 1) r.thread) s' z f (answer.Back results) well.method r.of doing.on_top popped' tt well.row (results_are_values (types_of L s) well.method.results results well.suits)
      (λ g below above here p h. own_unlent L s plans tables laid owned fits t p f g below above runs (some p h) here)
      (loads_by s z (reply_instances L s' z t (answer.Back results) r.replies)) r.replies in
      return_row L s z t laid ready c results r got.replied
      (λ o h. (let root = own_root L s laid owned t o (below_top (stack s t)) [] f (top_splits (stack s t) f doing.on_top) doing.lives (some o (has_counted (objects_in results) o h)) in seated s o (Root (owner.Instance f.instance)) root))
      (λ p. (let e = well.all p in omega (arith, e)))
      got.gains

  pub unwinds : ClientGets L s → (t c : ℕ) (z : State) → is_undone (row s.threads t) ≡ true → Unwinds L s t c z → Row L (ledger_of L s) (entry.Unwound t c) (ledger_of L z)
  unwinds clients t c z ready r =
      let th = thread_there s t ready in
      let w = client_within L s t th.0 laid th.1 in
      let call = top_call t r.frame r.of.on_top in
      let popped' : PoppedTo L s t th.0 th.0 (popped t s) = record {
        laid = laid_stack L s t (below_top (stack s t)) laid;
        stack = popped_stack L s t laid w.0 w.1;
        instances = refl;
        of = th.1;
        names = refl;
        place = refl;
      } in
      let got = gets L s plans tables laid owned fits clients t th.0 th.0 (popped t s) z r.frame (answer.Failed code.Unwound) call.method th.1 r.of.on_top popped' tt call.row tt (λ g below above here p h. absurd (omega (arith, h)))
      (loads_by s z (reply_instances L (popped t s) z t (answer.Failed code.Unwound) r.replies)) r.replies in
      unwound_row L s z t laid ready c r.frame th.0 th.1 r.of r.over call.target got.replied got.gains

  pub issues_again : (t c x i : ℕ) (z : State) → is_enabled L s t ≡ true → IssuesAgain L s t c x i z → Row L (ledger_of L s) (entry.Again t c x i) (ledger_of L z)
  issues_again t c x i z enabled r =
      let wait = not_waiting L s t enabled in
      let th = thread_there s t wait.0 in
      let call = top_call t r.dead r.of.on_top in
      let target : is_target L x ≡ true = subst (λ n. is_target L n ≡ true) (sym r.through) call.target in
      let parts = and_parts (is_shadow L r.dead.target) (is_idempotent L r.dead.target r.dead.method) r.reissuable in
      let idem : call.method.idempotent ≡ true = subst (λ m. option_map_or (λ method. method.idempotent) m false ≡ true) call.row parts.1 in
      let none = moves_nothing (types_of L s) call.method.params r.dead.args (moves_none L.tables call.method (method_kept L plans r.dead.target r.dead.method call.method call.row) idem) call.args in
      let entry' = begun_entry L z c x i r.dead.method r.dead.args r.frame (λ o moved lent. absurd (let e : count o (moved_of r.dead.args) ≡ 0 = ap (count o) none in omega (arith, e, moved))) r.begins in
      let same : frame_entry r.frame ≡ record (frame_entry r.dead) { party = owner.Instance i; own = [] } = entry' ∙ again_entry c x i r.dead r.of.call r.through call.lent none in
      let lives : is_live s (current L s x) ≡ true = subst (λ n. is_live s n ≡ true) r.into r.lives in
      let split = or_parts (would_enter L s t (wish L s t)) (would_reenter L s t (top (stack s t))) wait.1 in
      let e : would_reenter L s t (Some r.dead) ≡ false = subst (λ found. would_reenter L s t found ≡ false) r.of.on_top split.1 in
      let current' : current L s x ≡ current L s r.dead.target = ap (current L s) r.through in
      let both : ((is_dead s r.dead && is_reissuable L r.dead) && is_live s (current L s r.dead.target)) ≡ true = ap₂ (λ a b. a && b) (ap₂ (λ a b. a && b) r.of.dead r.reissuable) (subst (λ n. is_live s n ≡ true) current' lives) in
      let free : is_taken L s t (current L s r.dead.target) ≡ false = and_false ((is_dead s r.dead && is_reissuable L r.dead) && is_live s (current L s r.dead.target)) (is_taken L s t (current L s r.dead.target)) e both in
      let free' = free_to_enter L s t i (subst (λ n. is_taken L s t n ≡ false) (sym (r.into ∙ current')) free) in
      again_row L s z t laid wait.0 c x i r.dead r.frame th.0 th.1 r.of r.through target r.reissuable r.into r.lives free' same r.becomes
    where
      again_entry : (c x i : ℕ) (f : StackFrame) → c ≡ f.call → x ≡ f.target → f.lent ≡ lent_of f.args → moved_of f.args ≡ [] → callee c x i f.method f.args ≡ record (frame_entry f) { party = owner.Instance i; own = [] }
      again_entry c x i f call through lent none = rw (call, through, ← lent, none) refl

  pub reloads : ClientsCall L s → (t x i left : ℕ) (z : State) → is_undone (row s.threads t) ≡ true → Reloads L s t x i left z → Row L (ledger_of L s) (entry.Reload t x i left) (ledger_of L z)
  reloads clients t x i left z ready r =
      let th = thread_there s t ready in
      let target : is_target L x ≡ true = needed r.needed in
      let l = load_there L (load_of_target L x) (target_there L (shadow_loads L plans) x target) (target_within L (shadow_loads L plans) x) in
      reload_row L s z t x i left laid th.0 th.1 ready r target l.0 l.1
    where
      needed : WouldCall L s t x ⊎ WouldReenter L s t x → is_target L x ≡ true
      needed (inl c) = subst (λ n. is_target L n ≡ true) c.target (called L s t plans tables laid owned fits clients ready c.wished c.wants).target
      needed (inr d) = subst (λ n. is_target L n ≡ true) d.target (top_call t d.frame d.on_top).target
