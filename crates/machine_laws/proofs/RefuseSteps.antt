-- A call that is refused is a row of the ledger.
use Rattle.std.proofs.Common.{◌≡◌, ℕ, ◌-◌, true, List, [], ◌∷◌, Some, None, refl, ap, sym, subst, ◌∙◌, arith, inl, inr}
use Rattle.std.specs.List.{filter_map}
use Rattle.machine_defs.specs.declared.values.Arg.{Arg}
use Rattle.machine_defs.specs.declared.values.RpcCode.{RpcCode}
use Rattle.machine_defs.specs.declared.entry.Entry.TheVariants as entry
use Rattle.machine_defs.specs.declared.frame.Action.{Action}
use Rattle.machine_defs.specs.declared.frame.Action.TheVariants as action
use Rattle.machine_defs.specs.declared.frame.Answer.{Answer}
use Rattle.machine_defs.specs.declared.frame.Answer.TheVariants as answer
use Rattle.machine_defs.specs.declared.frame.FrameBody.{FrameBody}
use Rattle.machine_defs.specs.declared.frame.FrameBody.TheVariants as body
use Rattle.rl_defs.specs.declared.load.LoadRows.{LoadRows}
use Rattle.rl_defs.specs.declared.load.Command.TheVariants as command
use Rattle.rl_defs.specs.DomainValue.{Domain}
use Rattle.machine_defs.specs.Instructions.{after_answer}
use Rattle.rl_defs.specs.Registers.{Stand, Registers}
use Rattle.machine_defs.specs.State.{State, StackFrame, Thread, is_live, stack}
use Rattle.rl_defs.specs.Rows.{row}
use Rattle.machine_defs.specs.Loans.{count}
use Rattle.machine_defs.specs.Frames.{names_of}
use Rattle.machine_defs.specs.Wants.{Commands}
use Rattle.machine_defs.specs.State.{top, instance_load}
use Rattle.rl_defs.specs.Rows.{commands_of}
use Rattle.machine_defs.specs.Calling.{Wish, is_undone}
use Rattle.machine_defs.specs.Arguments.{moved_of}
use Rattle.machine_defs.specs.Objects.{without}
use Rattle.rl_defs.specs.Rows.{domain_of_load}
use Rattle.machine_defs.specs.Seen.{domain_of_instance}
use Rattle.machine_defs.specs.Seen.{types_of}
use Rattle.machine_defs.specs.Frames.{below_top, with_body, Answers, AnswersBody, Replies, AnswersTop, AnswersFrame, AnswersLive, AnswersClient, instr_at, answered_code, code_at, held_after}
use Rattle.machine_defs.specs.Calling.{with_fuel}
use Rattle.machine_defs.specs.CallRows.{numbered, Refuses}
use Rattle.machine_defs.specs.Sound.{own_of, own_of_body}
use Rattle.machine_laws.specs.Ledger.{LedgerFrame, Ledger}
use Rattle.machine_laws.specs.LedgerOf.{ledger_of}
use Rattle.machine_laws.specs.LedgerSound.{Owned}
use Rattle.machine_laws.specs.LedgerRows.{Row}
use Rattle.machine_laws.specs.Shape.{Laid}
use Rattle.machine_laws.specs.Registers.{own}
use Rattle.machine_laws.specs.Fitting.{Fitting}
use Rattle.machine_laws.proofs.Rows.{at_same, row_set_same, row_within}
use Rattle.machine_laws.proofs.Stacks.{top_pushed}
use Rattle.machine_laws.proofs.Acting.{commands_as}
use Rattle.machine_laws.proofs.Wishes.{ClientWish, FrameWish, wish_as}
use Rattle.machine_laws.proofs.Replying.{Replied, client_replied, frame_replied}
use Rattle.machine_laws.proofs.EndingRows.{refuse_row}
use Rattle.machine_laws.proofs.ClientRows.{bind_none}
use Rattle.machine_laws.proofs.OwnActs.{waiting as waiting_stand}
use Rattle.machine_laws.proofs.OwnAnswers.{GainsOwn, waiting_gains}
use Rattle.rl_defs.specs.Domains.{method_of}
use Rattle.rl_defs.specs.CodeNames.{method_at, method_of_function}
use Rattle.machine_defs.specs.CodeLaws.{StandsAt}
use Rattle.machine_laws.proofs.OwnFunctions.{instr_here, answer_function}
use Rattle.machine_laws.proofs.CodeDoing.{has_tables, keeps_rules}
use Rattle.machine_laws.proofs.Callers.{calling, caller_frame, waits, waits_same, code_calls, code_waits}
use Rattle.machine_laws.proofs.CallSteps.{ClientsCall, called}
use Rattle.machine_laws.proofs.EndSteps.{loads_by, reply_instances}
use Rattle.machine_laws.proofs.Charged.{charged_is, stack_charged, instances_charged, native_waits}
use Rattle.machine_laws.proofs.LaidRows.{laid_same, laid_without}
use Rattle.machine_laws.proofs.Parts.{stand_after}
use Rattle.rl_defs.specs.Valid.{Valid, AreValidTables}

-- a reply by which the caller's own objects stay as many
pub record KeepsReplied (L : LoadRows) (s : State) (t : ℕ) (a : Answer) (z : State) : Type 0 where
  pub replied : Replied L s t a z
  pub same : (o : ℕ) → count o replied.own ≡ count o replied.g.own

module _ (L : LoadRows) (s : State) (plans : Valid L) (tables : AreValidTables L.tables) (laid : Laid L s) (owned : Owned L (ledger_of L s)) (fits : Fitting L s) (t : ℕ) (ready : is_undone (row s.threads t) ≡ true) (w : Wish) where
  -- a frame that waits goes on from a failure with the objects that it has
  module _ (wished : FrameWish L s t w) (z : State) (after : StackFrame) (why : RpcCode) (load' : (i : ℕ) → instance_load z i ≡ instance_load s i) where
    abbrev pub f : StackFrame
    f = caller_frame L s t plans tables laid owned fits ready w wished

    abbrev pub g : StackFrame
    g = waits L s t plans tables laid owned fits ready w wished

    -- code that fails
    pub code_failed : (at : ℕ) (regs : Registers) → (is : f.body ≡ body.Code at regs) → Answers L z g (answer.Failed why) after
        → (stand : Stand) × (after ≡ with_body f (body.Code stand.at stand.regs)) × GainsOwn (types_of L s) f.lent (domain_of_instance L s f.instance) (waiting_stand (code_calls L s t plans tables laid owned fits ready w wished at regs is).instr (code_calls L s t plans tables laid owned fits ready w wished at regs is).at_rest.stand).regs [] stand × (method_at (domain_of_instance L s f.instance) stand.at ≡ method_of L f.target f.method)
    code_failed at regs is gets =
        let c = code_calls L s t plans tables laid owned fits ready w wished at regs is in
        let d : Domain = domain_of_instance L s f.instance in
        let here : Stand = waiting_stand c.instr c.at_rest.stand in
        let keeps = keeps_rules L s f.instance plans fits (calling L s t plans tables laid owned fits ready w wished).lives in
        let gained = waiting_gains d (types_of L s) f.lent c.instr (answer.Failed why) here keeps (has_tables L (instance_load s f.instance) plans tables) c.acts.fits c.acts.parted (c.can.failed why) (λ o some. absurd (omega (arith, some))) in
        let is' = code_waits L s t plans tables laid owned fits ready w wished at regs is in
        let got : AnswersBody L z (with_body f (body.Code here.at here.regs)) (answer.Failed why) (body.Code here.at here.regs) after = subst (λ (h : StackFrame). AnswersBody L z h (answer.Failed why) h.body after) is' gets in
        let domain : domain_of_instance L z f.instance ≡ d = ap (domain_of_load L) (load' f.instance) in
        let instr : instr_at d here.at ≡ Some c.instr = instr_here d c.instr c.at_rest.stand c.here in
        let stands : StandsAt d c.instr here = record { number = c.acts.fits.number; here = c.acts.fits.here } in
        let function = answer_function d (types_of L s) c.instr (answer.Failed why) here keeps c.acts.fits.inside stands (c.can.failed why) in (
          after_answer d here c.instr (answer.Failed why),
          got ∙ ap (λ x. with_body f (code_at (answered_code x here (answer.Failed why)))) domain ∙ ap (λ i. with_body f (code_at (stand_after d here (answer.Failed why) i))) instr,
          gained,
          ap (method_of_function d) function ∙ c.method,
        )

    pub failed_own : Answers L z g (answer.Failed why) after → (o : ℕ) → count o (own_of after) ≡ count o (own_of g)
    failed_own gets = go f.body refl
      where
        go : (b : FrameBody Action) → f.body ≡ b → (o : ℕ) → count o (own_of after) ≡ count o (own_of g)
        go (body.Code at regs) is o =
            let r = code_failed at regs is gets in
            let is' = code_waits L s t plans tables laid owned fits ready w wished at regs is in
            let behind : own_of after ≡ own f.lent r.0.regs = ap own_of r.1 in
            let before : own_of g ≡ own f.lent (waiting_stand (code_calls L s t plans tables laid owned fits ready w wished at regs is).instr (code_calls L s t plans tables laid owned fits ready w wished at regs is).at_rest.stand).regs = ap own_of is' in
            rw (behind, before) (let e = r.2.counts o in omega (arith, e))
        go (body.Native held kept) is o = by_waits g.body refl
          where
            by_waits : (b : FrameBody Action) → g.body ≡ b → count o (own_of after) ≡ count o (own_of g)
            by_waits (body.Native held' act) e =
                let got : AnswersBody L z g (answer.Failed why) (body.Native held' act) after = subst (λ b. AnswersBody L z g (answer.Failed why) b after) e gets in
                let behind : own_of after ≡ held_after act (answer.Failed why) held' = ap own_of got.1 in
                let before : own_of g ≡ held' = ap (own_of_body g.lent) e in
                ap (count o) (behind ∙ failed_held act held' ∙ sym before)
              where
                failed_held : (act : Action) (held' : List ℕ) → held_after act (answer.Failed why) held' ≡ held'
                failed_held (action.New ty) h = refl
                failed_held other h = refl
            by_waits (body.Code at regs) e = absurd (native_waits L s plans tables laid owned fits t ready w wished held kept is at regs e)

  -- the state in which the call was refused
  abbrev pub refused_state : ℕ → State
  refused_state c = numbered c (without (moved_of w.args) w.charged)

  module _ (c : ℕ) (z : State) (why : RpcCode) (laid' : Laid L w.charged) (replies : Replies L (refused_state c) t (answer.Failed why) z) where
    laid_refused : Laid L (refused_state c)
    laid_refused = laid_same L (without (moved_of w.args) w.charged) (refused_state c) refl refl refl refl refl (laid_without L w.charged (moved_of w.args) laid')

    -- a frame whose call is refused
    module _ (wished : FrameWish L s t w) where
      abbrev waiting_frame : StackFrame
      waiting_frame = waits L s t plans tables laid owned fits ready w wished

      abbrev charged_thread : Thread
      charged_thread = with_fuel (wished.fuel - 1) wished.thread

      on_top : top (stack w.charged t) ≡ Some waiting_frame
      on_top = ap top (stack_charged L s plans tables laid owned fits t ready w wished) ∙ top_pushed (below_top (stack s t)) waiting_frame

      thread_is : row w.charged.threads t ≡ Some charged_thread
      thread_is =
          let b = row_within s.threads t wished.thread wished.of in
          ap (λ (v : State). row v.threads t) (charged_is L s plans tables laid owned fits t ready w wished) ∙ row_set_same s.threads t charged_thread b.0 b.1

      lives : is_live w.charged waiting_frame.instance ≡ true
      lives =
          let same : waiting_frame.instance ≡ (caller_frame L s t plans tables laid owned fits ready w wished).instance = ap (λ (h : StackFrame). h.instance) (waits_same L s t plans tables laid owned fits ready w wished) in
          ap (λ is'. Rattle.machine_defs.specs.State.lives (row is' waiting_frame.instance)) (instances_charged L s plans tables laid owned fits t ready w wished) ∙ ap (is_live s) same ∙ (calling L s t plans tables laid owned fits ready w wished).lives

      pub frame_keeps : KeepsReplied L (refused_state c) t (answer.Failed why) z
      frame_keeps =
          let answers : AnswersTop L (refused_state c) t (answer.Failed why) (Some waiting_frame) z = subst (λ found. AnswersTop L (refused_state c) t (answer.Failed why) found z) on_top replies in
          let live : AnswersLive L (refused_state c) t waiting_frame (answer.Failed why) z = subst (λ b. AnswersFrame L (refused_state c) t waiting_frame (answer.Failed why) b z) lives answers in
          let loads = λ (i : ℕ). loads_by (refused_state c) z (reply_instances L (refused_state c) z t (answer.Failed why) replies) i ∙ loads_by s (refused_state c) (instances_charged L s plans tables laid owned fits t ready w wished) i in
          record {
            replied = frame_replied L (refused_state c) t charged_thread (answer.Failed why) z laid_refused thread_is waiting_frame on_top live;
            same = failed_own wished z live.frame why loads live.answers;
          }

    -- a client whose call is refused
    module _ (wished : ClientWish L s t w) where
      client_alone : stack s t ≡ []
      client_alone = (commands_as L s t (Commands (command.Call w.target w.method wished.given wished.names)) tt wished.wants).alone

      pub client_keeps : KeepsReplied L (refused_state c) t (answer.Failed why) z
      client_keeps =
          let is : w.charged ≡ _ = ap (λ (v : Wish). v.charged) wished.is in
          let none : top (stack w.charged t) ≡ None = ap (λ (v : State). top (stack v t)) is ∙ ap top client_alone in
          let answers : AnswersClient L (refused_state c) t (answer.Failed why) z = subst (λ found. AnswersTop L (refused_state c) t (answer.Failed why) found z) none replies in
          record {
            replied = client_replied L (refused_state c) t answers.thread (answer.Failed why) z laid_refused answers.of none answers;
            same = λ o. ap (λ ns. count o (filter_map Rattle.machine_defs.specs.Sound.object_held ns)) (bind_none (names_of (Rattle.std.specs.Prelude.slice_get (commands_of (row L.clients t)) answers.thread.place)) answers.thread.names);
          }

module _ (L : LoadRows) (s : State) (plans : Valid L) (tables : AreValidTables L.tables) (laid : Laid L s) (owned : Owned L (ledger_of L s)) (fits : Fitting L s) (clients : ClientsCall L s) where
  pub refuses : (t c x m : ℕ) (why : RpcCode) (args : List Arg) (z : State) → is_undone (row s.threads t) ≡ true → Refuses L s t c why x m args z → Row L (ledger_of L s) (entry.Refuse t c why x m args) (ledger_of L z)
  refuses t c x m why args z ready r =
      let w : Wish = record { target = x; method = m; args = args; charged = r.charged } in
      let k = called L s t plans tables laid owned fits clients ready w r.wants in
      let keeps : KeepsReplied L (numbered c (without (moved_of args) r.charged)) t (answer.Failed why) z = elim (wish_as L s t w r.wants) [
        | inl by_client ↦ client_keeps L s plans tables laid owned fits t ready w c z why k.caller.laid r.replies by_client
        | inr by_frame ↦ frame_keeps L s plans tables laid owned fits t ready w c z why k.caller.laid r.replies by_frame
      ] in
      let here : (ledger_of L r.charged).stack t ≡ record k.caller.f { own = k.caller.own } ∷ k.caller.fs = ap (λ (l : Ledger). l.stack t) k.caller.ledger ∙ at_same t (record k.caller.f { own = k.caller.own } ∷ k.caller.fs) ((ledger_of L s).stack) in
      let both : record k.caller.f { own = k.caller.own } ∷ k.caller.fs ≡ keeps.replied.g ∷ keeps.replied.fs = sym here ∙ keeps.replied.here in
      let g_is : record k.caller.f { own = k.caller.own } ≡ keeps.replied.g = cc in
      let own_is : k.caller.own ≡ keeps.replied.g.own = ap (λ (g : LedgerFrame). g.own) g_is in
      refuse_row L s z t laid ready c x m why args r.charged k.caller k.target r.refused r.number keeps.replied k.passes (λ o. keeps.same o ∙ ap (count o) (sym own_is))
