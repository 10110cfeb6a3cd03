-- Stacks fit after a refused call.
use Rattle.std.proofs.Common.{◌≡◌, ◌≢◌, ℕ, ◌<◌, ◌≤◌, true, List, [], ◌∷◌, ◌++◌, length, Some, None, refl, ap, sym, subst, ◌∙◌, arith, inl, inr}
use Rattle.machine_defs.specs.declared.values.Arg.{Arg}
use Rattle.machine_defs.specs.declared.values.RpcCode.{RpcCode}
use Rattle.machine_defs.specs.declared.entry.Entry.{Entry}
use Rattle.machine_defs.specs.declared.entry.Entry.TheVariants as entry
use Rattle.machine_defs.specs.declared.frame.Action.{Action}
use Rattle.machine_defs.specs.declared.frame.Action.TheVariants as action
use Rattle.machine_defs.specs.declared.frame.Answer.TheVariants as answer
use Rattle.machine_defs.specs.declared.frame.FrameBody.{FrameBody}
use Rattle.machine_defs.specs.declared.frame.FrameBody.TheVariants as body
use Rattle.rl_defs.specs.declared.load.LoadRows.{LoadRows}
use Rattle.rl_defs.specs.declared.load.Command.TheVariants as command
use Rattle.rl_defs.specs.DomainValue.{Domain}
use Rattle.rl_defs.specs.Domains.{is_native}
use Rattle.machine_defs.specs.State.{State, StackFrame, is_live, stack, frames_of}
use Rattle.rl_defs.specs.Rows.{row}
use Rattle.machine_defs.specs.Loans.{sweep as sweep_state}
use Rattle.machine_defs.specs.Calling.{Wish, is_undone}
use Rattle.machine_defs.specs.Arguments.{moved_of}
use Rattle.machine_defs.specs.State.{top, instance_load}
use Rattle.machine_defs.specs.Wants.{Commands}
use Rattle.machine_defs.specs.Objects.{without}
use Rattle.rl_defs.specs.Rows.{domain_of_load}
use Rattle.machine_defs.specs.Seen.{domain_of_instance}
use Rattle.machine_defs.specs.Seen.{types_of}
use Rattle.machine_defs.specs.Frames.{below_top, with_body, held_after, AnswersBody, AnswersTop, AnswersFrame, AnswersLive, AnswersClient}
use Rattle.machine_defs.specs.CallRows.{Refuses, numbered}
use Rattle.machine_laws.specs.LedgerOf.{ledger_of}
use Rattle.machine_laws.specs.LedgerSound.{Owned, Placed}
use Rattle.machine_laws.specs.Shape.{Laid}
use Rattle.machine_laws.specs.Fitting.{BodyFits, StackFits, Fitting}
use Rattle.machine_laws.proofs.Rows.{row_set_same, row_set_other}
use Rattle.machine_laws.proofs.Stacks.{top_splits, top_pushed, below_pushed}
use Rattle.machine_laws.proofs.Acting.{commands_as}
use Rattle.machine_laws.proofs.Wishes.{ClientWish, FrameWish, wish_as}
use Rattle.machine_laws.proofs.CodeDoing.{body_fits}
use Rattle.machine_laws.proofs.FrameRows.{answered_same}
use Rattle.machine_laws.proofs.Callers.{calling, caller_frame, waits, waits_same}
use Rattle.machine_laws.proofs.LaidRows.{laid_row}
use Rattle.machine_laws.proofs.Agreeing.{laid_z, other_fits, all_fit, changed_fits}
use Rattle.machine_laws.proofs.DoingFits.{code_on_top, native_on_top}
use Rattle.machine_laws.proofs.DoneFits.{types_kept}
use Rattle.machine_laws.proofs.RefuseSteps.{code_failed}
use Rattle.machine_laws.proofs.EndSteps.{loads_by, reply_instances, ready_within}
use Rattle.machine_laws.proofs.Charged.{stack_charged, instances_charged, others_charged, count_charged, native_waits}
use Rattle.rl_defs.specs.Valid.{Valid, AreValidTables}

module _ (L : LoadRows) (s : State) (plans : Valid L) (tables : AreValidTables L.tables) (laid : Laid L s) (owned : Owned L (ledger_of L s)) (placed : Placed L (ledger_of L s)) (fits : Fitting L s) (t c x m : ℕ) (why : RpcCode) (args : List Arg) (made : State)
    (ready : is_undone (row s.threads t) ≡ true) (r : Refuses L s t c why x m args made) (owned' : Owned L (ledger_of L (sweep_state made))) where
  abbrev z : State
  z = sweep_state made

  abbrev w : Wish
  w = record { target = x; method = m; args = args; charged = r.charged }

  abbrev entry' : Entry
  entry' = entry.Refuse t c why x m args

  abbrev refused : State
  refused = numbered c (without (moved_of args) r.charged)

  within : (0 < t) × (t ≤ length s.stacks)
  within = ready_within L s t laid ready

  -- a frame whose call is refused
  module _ (wished : FrameWish L s t w) where
    abbrev f : StackFrame
    f = caller_frame L s t plans tables laid owned fits ready w wished

    abbrev g : StackFrame
    g = waits L s t plans tables laid owned fits ready w wished

    abbrev below : List StackFrame
    below = below_top (stack s t)

    refused_here : stack refused t ≡ below ++ g ∷ []
    refused_here = stack_charged L s plans tables laid owned fits t ready w wished

    instances : refused.instances ≡ s.instances
    instances = instances_charged L s plans tables laid owned fits t ready w wished

    load' : (i : ℕ) → instance_load made i ≡ instance_load s i
    load' i = loads_by refused made (reply_instances L refused made t (answer.Failed why) r.replies) i ∙ loads_by s refused instances i

    g_is : g ≡ with_body f g.body
    g_is = waits_same L s t plans tables laid owned fits ready w wished

    lives_before : is_live s f.instance ≡ true
    lives_before = (calling L s t plans tables laid owned fits ready w wished).lives

    live : AnswersLive L refused t g (answer.Failed why) made
    live =
        let on_top : top (stack refused t) ≡ Some g = ap top refused_here ∙ top_pushed below g in
        let lives : is_live refused g.instance ≡ true = ap (λ is'. Rattle.machine_defs.specs.State.lives (row is' g.instance)) instances ∙ ap (λ (h : StackFrame). is_live s h.instance) g_is ∙ lives_before in
        let answers : AnswersTop L refused t (answer.Failed why) (Some g) made = subst (λ found. AnswersTop L refused t (answer.Failed why) found made) on_top r.replies in
        subst (λ b. AnswersFrame L refused t g (answer.Failed why) b made) lives answers

    abbrev after : StackFrame
    after = live.frame

    here : stack z t ≡ below ++ after ∷ []
    here =
        ap (λ (st : State). stack st t) live.becomes ∙ ap frames_of (row_set_same refused.stacks t (below_top (stack refused t) ++ after ∷ []) within.0 (let e = within.1 in let long = count_charged L s plans tables laid owned fits t ready w wished in omega (arith, long, e)))
        ∙ ap (λ fs. below_top fs ++ after ∷ []) refused_here ∙ ap (λ fs. fs ++ after ∷ []) (below_pushed below g)

    there : (u : ℕ) → u ≢ t → stack made u ≡ stack s u
    there u ne = ap (λ (st : State). stack st u) live.becomes ∙ ap frames_of (row_set_other refused.stacks t u (below_top (stack refused t) ++ after ∷ []) within.0 ne) ∙ others_charged L s plans tables laid owned fits t ready w wished u ne

    domain_same : domain_of_instance L made f.instance ≡ domain_of_instance L s f.instance
    domain_same = ap (domain_of_load L) (load' f.instance)

    after_fits : is_live z after.instance ≡ true → BodyFits L z after [] after.body
    after_fits up = go f.body refl (body_fits L s plans tables laid fits t (action.Call x m args) wished.fuel wished.frame (calling L s t plans tables laid owned fits ready w wished))
      where
        go : (b : FrameBody Action) → f.body ≡ b → BodyFits L s f [] f.body → BodyFits L z after [] after.body
        go (body.Code at regs) is before =
            let before' = subst (BodyFits L s f []) is before in
            let d : Domain = domain_of_instance L s f.instance in
            let went = code_failed L s plans tables laid owned fits t ready w wished made after why load' at regs is live.answers in
            code_on_top L z t below f after (types_of L s) d went.0.at went.0.regs (laid_z L s entry' made laid owned placed r owned') owned' went.1 here up domain_same before'.0 went.2.fits went.2.parted
            went.3
            (λ o in_z. types_kept L s entry' made plans tables laid owned placed fits r owned' (λ n. n) o in_z) (λ y. refl)
        go (body.Native held kept) is before =
            let native : is_native (domain_of_instance L made f.instance).lines ≡ true = subst (λ d. is_native d.lines ≡ true) (sym domain_same) (subst (BodyFits L s f []) is before).0 in
            by_waits native g.body refl
          where
            by_waits : is_native (domain_of_instance L made f.instance).lines ≡ true → (b : FrameBody Action) → g.body ≡ b → BodyFits L z after [] after.body
            by_waits native (body.Native held' act) e =
                let got : AnswersBody L made g (answer.Failed why) (body.Native held' act) after = subst (λ b. AnswersBody L made g (answer.Failed why) b after) e live.answers in
                let native' : is_native (domain_of_instance L made g.instance).lines ≡ true = subst (λ (h : StackFrame). is_native (domain_of_instance L made h.instance).lines ≡ true) (sym g_is) native in
                native_on_top L made t below g after (held_after act (answer.Failed why) held') got.0 (laid_row L s entry' made laid r) (laid_z L s entry' made laid owned placed r owned') owned' got.1 here up native' got.2
            by_waits native (body.Code at regs) e = absurd (native_waits L s plans tables laid owned fits t ready w wished held kept is at regs e)

    frame_fits : (u : ℕ) → StackFits L z (stack z u)
    frame_fits =
        let same : after ≡ with_body f after.body = answered_same L made g (answer.Failed why) g.body after live.answers ∙ ap (λ (h : StackFrame). with_body h after.body) g_is in
        all_fit L s entry' made laid owned placed r owned' t
        (changed_fits L s entry' made laid owned placed r owned' t f after below [] [] (top_splits (stack s t) f (calling L s t plans tables laid owned fits ready w wished).on_top) here same (fits.bodies t) (after_fits, tt))
        there fits.bodies

  -- a client whose call is refused
  client_fits : ClientWish L s t w → (u : ℕ) → StackFits L z (stack z u)
  client_fits wished u =
      let charged : r.charged ≡ _ = ap (λ (v : Wish). v.charged) wished.is in
      let stacks' : refused.stacks ≡ s.stacks = ap (λ (v : State). v.stacks) charged in
      let alone : stack s t ≡ [] = (commands_as L s t (Commands (command.Call w.target w.method wished.given wished.names)) tt wished.wants).alone in
      let none : top (stack refused t) ≡ None = ap (λ st. top (frames_of (row st t))) stacks' ∙ ap top alone in
      let answers : AnswersClient L refused t (answer.Failed why) made = subst (λ found. AnswersTop L refused t (answer.Failed why) found made) none r.replies in
      other_fits L s entry' made laid owned placed r owned' u (ap (λ (v : State). stack v u) answers.becomes ∙ ap (λ st. frames_of (row st u)) stacks') (fits.bodies u)

  pub refused_fits : (u : ℕ) → StackFits L z (stack z u)
  refused_fits u = elim (wish_as L s t w r.wants) [
    | inl wished ↦ client_fits wished u
    | inr wished ↦ frame_fits wished u
  ]
