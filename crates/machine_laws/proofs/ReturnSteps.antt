-- A call that ends, by its return, a refusal or its instance's end, is a row of the ledger.
use Rattle.std.proofs.Common.{◌≡◌, ℕ, ◌+◌, ◌<◌, ◌≤◌, Bool, true, false, List, [], ◌∷◌, ◌++◌, length, Option, Some, None, refl, ap, sym, subst, subst₂, ◌∙◌, arith}
use Rattle.std.specs.List.{filter_map}
use Rattle.std.proofs.lemmas.Bool.{false_from_ne_true}
use Rattle.rl_defs.specs.declared.values.Value.{Value}
use Rattle.rl_defs.specs.declared.tables.MethodRow.{MethodRow}
use Rattle.machine_defs.specs.declared.frame.Action.{Action}
use Rattle.machine_defs.specs.declared.frame.Action.TheVariants as action
use Rattle.machine_defs.specs.declared.frame.Answer.{Answer}
use Rattle.machine_defs.specs.declared.frame.FrameBody.{FrameBody}
use Rattle.machine_defs.specs.declared.frame.FrameBody.TheVariants as body
use Rattle.rl_defs.specs.declared.load.LoadRows.{LoadRows}
use Rattle.rl_defs.specs.Domains.{method_of}
use Rattle.rl_defs.specs.CodeNames.{results_of, method_at}
use Rattle.machine_defs.specs.State.{State, StackFrame, Thread, Placement, Root, is_live, current, stack, with_thread}
use Rattle.rl_defs.specs.Rows.{row}
use Rattle.machine_defs.specs.Loans.{count}
use Rattle.machine_defs.specs.Frames.{after_command}
use Rattle.machine_defs.specs.Wants.{Acts}
use Rattle.machine_defs.specs.State.{top, instance_load}
use Rattle.machine_defs.specs.Arguments.{has}
use Rattle.machine_defs.specs.Seen.{domain_of_instance}
use Rattle.machine_defs.specs.NativeFits.{values_suit, CanReturn, CanChoose}
use Rattle.machine_defs.specs.Seen.{types_of}
use Rattle.machine_defs.specs.Wants.{by_body}
use Rattle.machine_defs.specs.Frames.{below_top, results_in, Replies, AnswersTop, AnswersFrame, AnswersLive, AnswersClient}
use Rattle.machine_defs.specs.Arguments.{objects_in}
use Rattle.machine_defs.specs.Sound.{own_of, own_of_body}
use Rattle.machine_laws.specs.Ledger.{LedgerFrame, Ledger, alive, loans}
use Rattle.machine_laws.specs.LedgerOf.{frame_entry, names_held, ledger_of}
use Rattle.machine_laws.specs.LedgerSound.{Owned}
use Rattle.machine_laws.specs.LedgerRows.{Runs, Exchanged}
use Rattle.machine_laws.specs.Shape.{Laid}
use Rattle.machine_laws.specs.Registers.{own, received}
use Rattle.machine_laws.specs.Fitting.{BodyFits, CallFits, CallsFit, StackFits, Fitting}
use Rattle.machine_laws.proofs.Stacks.{top_splits}
use Rattle.machine_laws.proofs.Tops.{under, bottom}
use Rattle.machine_laws.proofs.Acting.{ActsAs}
use Rattle.machine_laws.proofs.Present.{lent_counted}
use Rattle.machine_laws.proofs.Replying.{Replied, client_replied, frame_replied, dead_replied}
use Rattle.machine_laws.proofs.StackFits.{fits_split, calls_back}
use Rattle.machine_laws.proofs.Owners.{unlent as top_unlent}
use Rattle.machine_laws.proofs.OwnActs.{Pays, returns_own}
use Rattle.machine_laws.proofs.CodeDoing.{NotTrap, body_fits, code_does}
use Rattle.machine_laws.proofs.OwnDoing.{native_kept}
use Rattle.machine_laws.proofs.WaitingAnswers.{IsReply, ReplySuits, replied_own}
use Rattle.machine_laws.proofs.Sums.{sum_least}
use Rattle.machine_laws.proofs.Counts.{has_counted}
use Rattle.rl_defs.specs.Valid.{Valid, AreValidTables}

ret_no_trap : (results : List Value) → NotTrap (action.Ret results)
ret_no_trap results c e = cc

-- What a frame returns: all that it has of its own, as values of its method's results.
pub record ReturnsWell (L : LoadRows) (s : State) (f : StackFrame) (results : List Value) : Type 0 where
  pub all : (p : ℕ) → count p (objects_in results) ≡ count p (own_of f)
  pub method : MethodRow
  pub row : method_of L f.target f.method ≡ Some method
  pub suits : values_suit (types_of L s) method.results results ≡ true

-- what a client gets for its call in the end, from its script: the objects that it is answered, in its names
abbrev pub ClientGets : LoadRows → State → Type 0
ClientGets L s = (t : ℕ) (f : StackFrame) (a : Answer) (method : MethodRow) (thread : Thread) → stack s t ≡ f ∷ [] → method_of L f.target f.method ≡ Some method → IsReply a → ReplySuits (types_of L s) method.results a
    → row s.threads t ≡ Some thread → Exchanged (names_held (Some thread)) [] (received a) (names_held (Some (after_command L t thread (results_in a))))

module _ (L : LoadRows) (s : State) (plans : Valid L) (tables : AreValidTables L.tables) (laid : Laid L s) (owned : Owned L (ledger_of L s)) (fits : Fitting L s) where
  pub returns_well : (t fuel : ℕ) (results : List Value) (frame : StackFrame) (doing : ActsAs L s t (action.Ret results) fuel frame) → ReturnsWell L s doing.f results
  returns_well t fuel results frame doing = go doing.f.body refl
    where
      call : CallFits L s doing.f
      call = (calls_back L s (below_top (stack s t)) (doing.f ∷ []) (subst (CallsFit L s) (top_splits (stack s t) doing.f doing.on_top) (fits.calls t))).0

      go : (b : FrameBody Action) → doing.f.body ≡ b → ReturnsWell L s doing.f results
      go (body.Code at regs) is =
          let c = code_does L s plans tables laid fits t (action.Ret results) fuel frame doing at regs is (ret_no_trap results) in
          let pays : Pays doing.f.lent c.at_rest.stand.regs (Rattle.machine_laws.proofs.OwnActs.waiting c.instr c.at_rest.stand).regs (action.Ret results) = c.acts.pays in
          let before : own_of doing.f ≡ own doing.f.lent regs = ap (own_of_body doing.f.lent) is in
          record {
            all = λ p. (let a = returns_own doing.f.lent c.at_rest.stand.regs (Rattle.machine_laws.proofs.OwnActs.waiting c.instr c.at_rest.stand).regs results p pays in let b = c.same p in rw before (a ∙ b));
            method = call.method;
            row = call.row;
            suits = (let ks : results_of (method_at (domain_of_instance L s doing.f.instance) c.at_rest.stand.at) ≡ call.method.results = ap results_of (c.method ∙ call.row) in subst (λ k. values_suit (types_of L s) k results ≡ true) ks c.can);
          }
      go (body.Native held kept) is =
          let by = subst (λ b. by_body L s doing.thread.fuel doing.f b ≡ Acts (action.Ret results) fuel frame) is doing.by in
          let same = native_kept L s doing.f doing.thread.fuel held kept (action.Ret results) fuel frame by (ret_no_trap results) in
          let fit = subst (BodyFits L s doing.f []) is (body_fits L s plans tables laid fits t (action.Ret results) fuel frame doing) in
          let can : CanReturn L s doing.f held results = subst (CanChoose L s doing.f held) (sym same.1) fit.1 in
          let before : own_of doing.f ≡ held = ap (own_of_body doing.f.lent) is in
          record {
            all = λ p. rw before (can.all p);
            method = can.method;
            row = can.row;
            suits = can.suits;
          }

  -- what a running frame has of its own is lent to no frame
  pub own_unlent : (t o : ℕ) (f g : StackFrame) (below above : List StackFrame) → Runs L (ledger_of L s) t (frame_entry f) (under s t) → 0 < count o (own_of f) → stack s t ≡ below ++ g ∷ above → has g.lent o ≡ false
  own_unlent t o f g below above runs some here = false_from_ne_true (has g.lent o) (λ lent. (
      let none = top_unlent L (ledger_of L s) owned t (frame_entry f) (under s t) runs o some in
      let counted = has_counted g.lent o lent in
      let in_stack : count o g.lent ≤ Rattle.machine_laws.specs.Ledger.lent_in o (Rattle.machine_laws.proofs.Tops.entries t (stack s t) (row s.threads t)) = subst (λ fs. count o g.lent ≤ Rattle.machine_laws.specs.Ledger.lent_in o (Rattle.machine_laws.proofs.Tops.entries t fs (row s.threads t))) (sym here) (lent_counted o below above g (bottom t (row s.threads t) ∷ [])) in
      let in_all = sum_least (λ u. Rattle.machine_laws.specs.Ledger.lent_in o ((ledger_of L s).stack u)) (length L.clients) t runs.some runs.within in
      omega (arith, none, counted, in_stack, in_all)))

-- a state in which a thread's top frame was popped, with the same instances, and its thread the same but for its fuel
pub record PoppedTo (L : LoadRows) (s : State) (t : ℕ) (thread new : Thread) (s' : State) : Type 0 where
  pub laid : Laid L s'
  pub stack : stack s' t ≡ below_top (stack s t)
  pub instances : s'.instances ≡ s.instances
  pub of : row s'.threads t ≡ Some new
  pub names : new.names ≡ thread.names
  pub place : new.place ≡ thread.place

-- who gets the reply of a popped call, and what it has then
pub record Gets (L : LoadRows) (s s' : State) (t : ℕ) (a : Answer) (z : State) : Type 0 where
  pub replied : Replied L s' t a z
  pub gains : alive (is_live s) replied.g.party ≡ true → Exchanged replied.g.own [] (received a) replied.own

module _ (L : LoadRows) (s : State) (plans : Valid L) (tables : AreValidTables L.tables) (laid : Laid L s) (owned : Owned L (ledger_of L s)) (fits : Fitting L s) (clients : ClientGets L s)
    (t : ℕ) (thread new : Thread) (s' z : State) (f : StackFrame) (a : Answer) (method : MethodRow) (of : row s.threads t ≡ Some thread) (on_top : top (stack s t) ≡ Some f) (popped' : PoppedTo L s t thread new s') (reply : IsReply a)
    (called : method_of L f.target f.method ≡ Some method) (suits : ReplySuits (types_of L s) method.results a) (unlent : (g : StackFrame) (below above : List StackFrame) → stack s t ≡ below ++ g ∷ above → (p : ℕ) → 0 < count p (received a) → has g.lent p ≡ false)
    (load' : (i : ℕ) → instance_load z i ≡ instance_load s i) (replies : Replies L s' t a z) where
  split : stack s t ≡ below_top (stack s t) ++ f ∷ []
  split = top_splits (stack s t) f on_top

  alone : top (below_top (stack s t)) ≡ None → stack s t ≡ f ∷ []
  alone none = split ∙ ap (λ fs. fs ++ f ∷ []) (Rattle.machine_laws.proofs.Stacks.top_none (below_top (stack s t)) none)

  next_split : (g : StackFrame) → top (below_top (stack s t)) ≡ Some g → stack s t ≡ below_top (below_top (stack s t)) ++ g ∷ (f ∷ [])
  next_split g is = split ∙ ap (λ fs. fs ++ f ∷ []) (top_splits (below_top (stack s t)) g is) ∙ joined (below_top (below_top (stack s t)))
    where
      joined : (xs : List StackFrame) → (xs ++ g ∷ []) ++ f ∷ [] ≡ xs ++ g ∷ (f ∷ [])
      joined [] = refl
      joined (x ∷ xs) = ap (λ rest. x ∷ rest) (joined xs)

  command_same : (names' : new.names ≡ thread.names) → (place' : new.place ≡ thread.place) → names_held (Some (after_command L t new (results_in a))) ≡ names_held (Some (after_command L t thread (results_in a)))
  command_same names' place' = rw (names', place') refl

  client_gets : top (below_top (stack s t)) ≡ None → AnswersClient L s' t a z → Gets L s s' t a z
  client_gets none answers =
      let none' : top (stack s' t) ≡ None = ap top popped'.stack ∙ none in
      let same : answers.thread ≡ new = (let e = answers.of in let e' = popped'.of in cc) in
      record {
        replied = client_replied L s' t new a z popped'.laid popped'.of none' answers;
        gains = λ lives.
            let trade = clients t f a method thread (alone none) called reply suits of in
            let before : names_held (Some answers.thread) ≡ names_held (Some thread) = ap (λ (th : Thread). names_held (Some th)) same ∙ ap (λ ns. Rattle.std.specs.List.filter_map Rattle.machine_defs.specs.Sound.object_held ns) popped'.names in
            let behind : names_held (Some (after_command L t answers.thread (results_in a))) ≡ names_held (Some (after_command L t thread (results_in a))) = ap (λ (th : Thread). names_held (Some (after_command L t th (results_in a)))) same ∙ command_same popped'.names popped'.place in
            λ p. subst₂ (λ (xs : List ℕ) (ys : List ℕ). count p ys + 0 ≡ count p xs + count p (received a)) (sym before) (sym behind) (trade p);
      }

  frame_gets : (g : StackFrame) → top (below_top (stack s t)) ≡ Some g → is_live s g.instance ≡ true → AnswersLive L s' t g a z → Gets L s s' t a z
  frame_gets g is lives answers =
      let is' : top (stack s' t) ≡ Some g = ap top popped'.stack ∙ is in
      let here = next_split g is in
      let body' : BodyFits L s g (f ∷ []) g.body = (fits_split L s (below_top (below_top (stack s t))) (f ∷ []) g (subst (StackFits L s) here (fits.bodies t))).0 lives in
      record {
        replied = frame_replied L s' t new a z popped'.laid popped'.of g is' answers;
        gains = λ up. replied_own L s z plans tables fits f g answers.frame a reply lives (load' g.instance) method called suits (unlent g (below_top (below_top (stack s t))) (f ∷ []) here) answers.answers body';
      }

  dead_gets : (g : StackFrame) → top (below_top (stack s t)) ≡ Some g → is_live s g.instance ≡ false → z ≡ s' → Gets L s s' t a z
  dead_gets g is dead stays =
      let is' : top (stack s' t) ≡ Some g = ap top popped'.stack ∙ is in
      record {
        replied = dead_replied L s' t new a z popped'.laid popped'.of g is' stays;
        gains = λ up. absurd (let e : is_live s g.instance ≡ true = up in cc);
      }

  pub gets : Gets L s s' t a z
  gets = by_top (top (below_top (stack s t))) refl (subst (λ found. AnswersTop L s' t a found z) (ap top popped'.stack) replies)
    where
      by_live : (g : StackFrame) → top (below_top (stack s t)) ≡ Some g → (b : Bool) → is_live s g.instance ≡ b → AnswersFrame L s' t g a b z → Gets L s s' t a z
      by_live g is true e answers = frame_gets g is e answers
      by_live g is false e answers = dead_gets g is e answers

      by_top : (found : Option StackFrame) → top (below_top (stack s t)) ≡ found → AnswersTop L s' t a found z → Gets L s s' t a z
      by_top None is answers = client_gets is answers
      by_top (Some g) is answers =
          let same : is_live s' g.instance ≡ is_live s g.instance = ap (λ is'. Rattle.machine_defs.specs.State.lives (row is' g.instance)) popped'.instances in
          by_live g is (is_live s g.instance) refl (subst (λ b. AnswersFrame L s' t g a b z) same answers)
